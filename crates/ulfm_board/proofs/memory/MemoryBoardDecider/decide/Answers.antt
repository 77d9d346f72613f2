use Rattle.std.proofs.Common.{◌≡◌, ◌∙◌, ℕ, None, ap, insert, map, rules, subst, sym}
use Rattle.std.specs.FinMap.{find}
use Rattle.std.specs.Ordering.{nat_cmp}
use Rattle.ulfm_board.specs.Known.{Answers, Known, by_number, known_at, number_of}
use Rattle.ulfm_board.specs.inside.Places.{place_for}
use Rattle.ulfm_board.proofs.Held.{answers_new}
use Rattle.ulfm_board.proofs.memory.MemoryBoardDecider.decide.Goals as goal

pub returns-clause-answers : goal.returns-clause-answers
returns-clause-answers c =
    let d = c.args.decision in
    let ds = c.self.inside.decisions.items in
    let none : known_at (map by_number ds) d.topic ≡ None =
    ap (λ (k : Known). find nat_cmp (number_of d.topic) k) c.self.view_is ∙ ap (λ (n : ℕ). find nat_cmp n c.args.self.now) (sym c.number_of-number.ensures.number) ∙ sym c.decision.ensures ∙ c.in_default.is in
    let place = c.place_for-place.ensures.place ∙ ap (λ (n : ℕ). place_for n c.args.self.now) c.number_of-number.ensures.number ∙ ap (λ (k : Known). place_for (number_of d.topic) k) (sym c.self.view_is) in
    let items : c.insert.new.self.items ≡ insert ds c.place_for-place.result c.copied.result = search rules in
    subst (λ (t : Known × Known). Answers None t.0 d d t.1) (λ i. (c.self.view_is i, map by_number (sym items i))) (answers_new ds d c.copied.result c.place_for-place.result none place c.copied.ensures)
