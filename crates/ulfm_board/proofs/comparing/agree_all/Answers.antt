use Rattle.std.proofs.Common.{◌<◌, subst, arith, length, List, below_more}
use Rattle.std.proofs.lemmas.Option.{slice_get_within}
use Rattle.ulfm_board.proofs.Pairs.{NoTwo, pair_here, set_same}
use Rattle.ulfm_board.proofs.comparing.agree_all.Goals as goal

pub loop-place-preserved : goal.loop-place-preserved
loop-place-preserved g c =
    let low : c.loop-place.place < length c.loop-place.one.items = omega (arith, c.loop-place.invariant.2, c.loop-place-test.true, c.loop-place.one.ok) in
    let low' : c.loop-place.place < length c.loop-place.other.items = omega (arith, c.loop-place.invariant.3, c.loop-place-test.true, c.loop-place.other.ok) in
    let here = pair_here c.loop-place.one.items c.loop-place.other.items c.loop-place.place _ _ low low' c.index_mut.ensures.value c.index_mut-in-loop-place.ensures.value c.agree.ensures.agree in (
      set_same c.loop-place.one.items c.args.one.now.items c.loop-place.place _ _ c.loop-place.invariant.0 c.index_mut.ensures.value c.agree.ensures.one,
      set_same c.loop-place.other.items c.args.other.now.items c.loop-place.place _ _ c.loop-place.invariant.1 c.index_mut-in-loop-place.ensures.value c.agree.ensures.other,
      c.loop-place.invariant.2,
      c.loop-place.invariant.3,
      below_more (λ k. NoTwo c.args.one.now.items c.args.other.now.items k) c.loop-place.place c.loop-place.invariant.4
          (subst (λ (t : List _ × List _). NoTwo t.0 t.1 c.loop-place.place) (λ i. (c.loop-place.invariant.0 i, c.loop-place.invariant.1 i)) here),
    )

pub returns-clause-agree : goal.returns-clause-agree
returns-clause-agree g c = λ k x y at_x at_y.
    c.loop-place.invariant.4 k (omega (arith, slice_get_within c.args.one.now.items k x at_x, slice_get_within c.args.other.now.items k y at_y, c.loop-place-test.false)) x y at_x at_y
