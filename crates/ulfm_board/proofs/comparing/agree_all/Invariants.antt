use Rattle.std.proofs.Common.{◌≡◌, ◌<◌, ◌≤◌, ℕ, IfSome, vec_len}
use Rattle.ulfm_base.specs.Lists.{at}
use Rattle.once_cell.specs.declared.race.note.Note.{Note}
use Rattle.ulfm_board.proofs.comparing.agree_all.Given as goal

abbrev pub invariant-loop-place : goal.invariant-loop-place
invariant-loop-place g l =
    (l.one.items ≡ l.fn.one.items) × (l.other.items ≡ l.fn.other.items) × (l.both ≤ vec_len l.one) × (l.both ≤ vec_len l.other)
    × ((k : ℕ) → k < l.place → (x y : Note _) → at l.fn.one.items k x → at l.fn.other.items k y → IfSome x.known (λ v. IfSome y.known (λ w. w ≡ v)))
