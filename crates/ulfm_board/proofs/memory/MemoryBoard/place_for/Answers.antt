use Rattle.std.proofs.Common.{◌≡◌, ◌<◌, ◌+◌, ◌∙◌, ℕ, ap, sym, subst, arith, drop, length, nat_le, true, false}
use Rattle.std.proofs.lemmas.Bool.{le-leb, lt-leb}
use Rattle.ulfm_board.specs.Known.{Known}
use Rattle.ulfm_board.specs.inside.Places.{place_for}
use Rattle.ulfm_board.proofs.Held.{place_at, place_past}
use Rattle.ulfm_board.proofs.memory.MemoryBoard.place_for.Goals as goal

pub returns-then-number-number_of-clause-place : goal.returns-then-number-number_of-clause-place
returns-then-number-number_of-clause-place c =
    let low : c.loop-place.place < length c.self.inside.decisions.items = omega (arith, c.loop-place-test.true, c.len-place-end.ensures, c.self.inside.decisions.ok) in
    let so_far = ap (λ (k : Known). place_for c.args.number k) c.self.view_is ∙ c.loop-place.invariant ∙ ap (λ (k : Known). c.loop-place.place + place_for c.args.number (drop c.loop-place.place k)) (sym c.self.view_is) in
    sym (place_at c.self.inside.decisions.items c.args.number c.loop-place.place c.index.result.now low c.index.ensures so_far (subst (λ (m : ℕ). nat_le c.args.number m ≡ true) c.number_of.ensures.number (le-leb c.args.number c.number_of.result c.if-number-number_of.true)))
    ∙ ap (λ (k : Known). place_for c.args.number k) c.self.view_is

pub loop-place-preserved : goal.loop-place-preserved
loop-place-preserved c =
    let low : c.loop-place.place < length c.self.inside.decisions.items = omega (arith, c.loop-place-test.true, c.len-place-end.ensures, c.self.inside.decisions.ok) in
    let so_far = ap (λ (k : Known). place_for c.args.number k) c.self.view_is ∙ c.loop-place.invariant ∙ ap (λ (k : Known). c.loop-place.place + place_for c.args.number (drop c.loop-place.place k)) (sym c.self.view_is) in
    ap (λ (k : Known). place_for c.args.number k) (sym c.self.view_is)
    ∙ place_past c.self.inside.decisions.items c.args.number c.loop-place.place c.index.result.now low c.index.ensures so_far (subst (λ (m : ℕ). nat_le c.args.number m ≡ false) c.number_of.ensures.number (lt-leb c.args.number c.number_of.result c.if-number-number_of.false))
    ∙ ap (λ (k : Known). (c.loop-place.place + 1) + place_for c.args.number (drop (c.loop-place.place + 1) k)) c.self.view_is
