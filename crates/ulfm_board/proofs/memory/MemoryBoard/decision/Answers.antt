use Rattle.std.proofs.Common.{◌<◌, ◌+◌, ◌∙◌, ap, sym, arith, drop, length, Some}
use Rattle.std.specs.FinMap.{find}
use Rattle.std.specs.Ordering.{nat_cmp}
use Rattle.ulfm_board.specs.Known.{Known}
use Rattle.ulfm_board.proofs.Held.{found_at, passed_at}
use Rattle.ulfm_board.proofs.memory.MemoryBoard.decision.Goals as goal

pub returns-then-number_of-number : goal.returns-then-number_of-number
returns-then-number_of-number c =
    let low : c.loop-place.place < length c.self.inside.decisions.items = omega (arith, c.loop-place-test.true, c.len-place-end.ensures, c.self.inside.decisions.ok) in
    let so_far = ap (λ (k : Known). find nat_cmp c.args.number k) c.self.view_is ∙ c.loop-place.invariant ∙ ap (λ (k : Known). find nat_cmp c.args.number (drop c.loop-place.place k)) (sym c.self.view_is) in
    ap Some c.copied.ensures
    ∙ sym (ap (λ (k : Known). find nat_cmp c.args.number k) (sym c.self.view_is)
    ∙ found_at c.self.inside.decisions.items c.args.number c.loop-place.place c.index-decision.result.now low c.index-decision.ensures so_far (sym c.number_of.ensures.number ∙ c.if-number_of-number.true))

pub loop-place-preserved : goal.loop-place-preserved
loop-place-preserved c =
    let low : c.loop-place.place < length c.self.inside.decisions.items = omega (arith, c.loop-place-test.true, c.len-place-end.ensures, c.self.inside.decisions.ok) in
    let so_far = ap (λ (k : Known). find nat_cmp c.args.number k) c.self.view_is ∙ c.loop-place.invariant ∙ ap (λ (k : Known). find nat_cmp c.args.number (drop c.loop-place.place k)) (sym c.self.view_is) in
    ap (λ (k : Known). find nat_cmp c.args.number k) (sym c.self.view_is)
    ∙ passed_at c.self.inside.decisions.items c.args.number c.loop-place.place c.index-decision.result.now low c.index-decision.ensures so_far
    (λ same. c.if-number_of-number.false (c.number_of.ensures.number ∙ same))
    ∙ ap (λ (k : Known). find nat_cmp c.args.number (drop (c.loop-place.place + 1) k)) c.self.view_is
