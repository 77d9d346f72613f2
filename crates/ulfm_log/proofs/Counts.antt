-- Counts of rounds, as one more is entered.
use Rattle.std.proofs.Common.{◌≡◌, ℕ, ◌+◌, Bool, true, false, cond, not, List, [], ◌==◌, ◌&&◌, ap, sym, ◌∙◌, arith}
use Rattle.std.proofs.Math.Bool.{and-true, and-false}
use Rattle.ulfm_base.specs.Table.{count_at}
use Rattle.ulfm_base.specs.Topic.{is_agreement, is_round_on}
use Rattle.ulfm_base.specs.declared.topic.Topic.{Topic}
use Rattle.ulfm_log.specs.Decisive.{CountsSame, RoundsView, rounds_on}

-- one more is counted at the context c
abbrev OneMore : ℕ → List (ℕ × ℕ) → List (ℕ × ℕ) → Type 0
OneMore c old new = (d : ℕ) → count_at new d ≡ count_at old d + cond (c == d) 1 0

module _ (topic : Topic) (old new still : List (ℕ × ℕ)) (room room' : Bool) (more : OneMore topic.context.number old new) where
  -- an agreement is entered
  pub entered_agreement : is_agreement topic.purpose ≡ true → (g : Bool) (d : ℕ)
      → rounds_on (record { agreements = new; shrinks = still; room = room' }) g d ≡ rounds_on (record { agreements = old; shrinks = still; room = room }) g d + cond (is_round_on g d topic) 1 0
  entered_agreement is true d = more d ∙ ap (λ b. count_at old d + cond b 1 0) (sym (ap (λ b. (topic.context.number == d) && b) is ∙ and-true (topic.context.number == d)))
  entered_agreement is false d =
      let none : ◌≡◌ {A = ℕ} (cond (is_round_on false d topic) 1 0) 0 = ap (λ b. cond ((topic.context.number == d) && not b) 1 0) is ∙ ap (λ b. cond b 1 0) (and-false (topic.context.number == d)) in
      omega (arith, none)

  -- a shrink is entered
  pub entered_shrink : is_agreement topic.purpose ≡ false → (g : Bool) (d : ℕ)
      → rounds_on (record { agreements = still; shrinks = new; room = room' }) g d ≡ rounds_on (record { agreements = still; shrinks = old; room = room }) g d + cond (is_round_on g d topic) 1 0
  entered_shrink is false d = more d ∙ ap (λ b. count_at old d + cond b 1 0) (sym (ap (λ b. (topic.context.number == d) && not b) is ∙ and-true (topic.context.number == d)))
  entered_shrink is true d =
      let none : ◌≡◌ {A = ℕ} (cond (is_round_on true d topic) 1 0) 0 = ap (λ b. cond ((topic.context.number == d) && b) 1 0) is ∙ ap (λ b. cond b 1 0) (and-false (topic.context.number == d)) in
      omega (arith, none)

-- nothing is counted at the start
pub none_counted : (rounds : RoundsView) → rounds.agreements ≡ [] → rounds.shrinks ≡ [] → (g : Bool) (c : ℕ) → rounds_on rounds g c ≡ 0
none_counted rounds agreements shrinks true c = ap (λ (counts : List (ℕ × ℕ)). count_at counts c) agreements
none_counted rounds agreements shrinks false c = ap (λ (counts : List (ℕ × ℕ)). count_at counts c) shrinks

-- the same are counted
pub same_counts : (old new : RoundsView) → CountsSame old new → (g : Bool) (c : ℕ) → rounds_on new g c ≡ rounds_on old g c
same_counts old new same true c = ap (λ (counts : List (ℕ × ℕ)). count_at counts c) same.agreements
same_counts old new same false c = ap (λ (counts : List (ℕ × ℕ)). count_at counts c) same.shrinks

pub rounds_itself : {a b : RoundsView} → b ≡ a → CountsSame a b
rounds_itself e = record { agreements = ap (λ (r : RoundsView). r.agreements) e; shrinks = ap (λ (r : RoundsView). r.shrinks) e }
