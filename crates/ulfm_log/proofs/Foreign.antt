-- Which decisions contradict what a rank lists.
use Rattle.std.proofs.Common.{◌≡◌, ℕ, zero, suc, ◌+◌, ◌<◌, ◌≤◌, Bool, true, false, List, refl, ap, sym, ◌∙◌, arith, inl, inr, Option, Some, None, ◌||◌, not, nat_eq}
use Rattle.ulfm_base.proofs.Same.{contributions_decide}
use Rattle.ulfm_log.proofs.Belonging.{own_from, same_numbers, not_foreign as own_not_foreign}
use lib.Pointwise.{pointwise}
use Rattle.ulfm_log.proofs.Common.{Decision, Contribution, Topic, is_topic, is_contribution, entry_at, is_member, not-false, not_from_true, numbers_from, Entry, cases_eq, false≢true, or_left, or_right, HasEntries, differ, contradicts, is_foreign, listed_of, IsOwnAffair, list_any}

-- a number of which the test holds
pub any_number : (test : ℕ → Bool) (k n j : ℕ) → k ≤ j → j < k + n → test j ≡ true → list_any test (numbers_from k n) ≡ true
any_number test k zero j low high h = absurd (omega (arith, low, high))
any_number test k (suc n) j low high h = elim (cases_eq k j) [
  | inl here ↦ or_left (test k) (list_any test (numbers_from (suc k) n)) (ap test here ∙ h)
  | inr later ↦ or_right (test k) (list_any test (numbers_from (suc k) n)) (any_number test (suc k) n j (omega (arith, low, later)) (omega (arith, high)) h)
]

-- a listed rank with another contribution
pub contradicts_at : (me : ℕ) (log : List Entry) (c : Topic) (d : Decision) (entries : List (Option Contribution)) (k : ℕ) → HasEntries me log c entries → k < 8 → differ (entry_at d.entries k) (entry_at entries k) ≡ true → contradicts me log c d ≡ true
contradicts_at me log c d entries k heard small h =
    any_number (λ r. differ (entry_at d.entries r) (listed_of me log c r)) 0 8 k (omega arith) (omega (arith, small)) (ap (differ (entry_at d.entries k)) (sym (heard k small)) ∙ h)

-- a decision about this context and group, whose new group has the rank
pub about : (me : ℕ) (group : List ℕ) (log : List Entry) (c : Topic) (d : Decision) → not (is_topic d.topic c) ≡ false → d.old ≡ group → is_member d.fresh me ≡ true → is_foreign me group log c d ≡ contradicts me log c d
about me group log c d context old fresh =
    let same = (same_numbers d.old group).1 old in
    ap (λ b. b || (not (pointwise nat_eq d.old group) || (not (is_member d.fresh me) || contradicts me log c d))) context
    ∙ ap (λ b. not b || (not (is_member d.fresh me) || contradicts me log c d)) same
    ∙ ap (λ b. not b || contradicts me log c d) fresh

-- where no number passes a test, none in the range does
no_number : (test : ℕ → Bool) (k n j : ℕ) → list_any test (numbers_from k n) ≡ false → k ≤ j → j < k + n → test j ≡ false
no_number test k n j none low high = pick (test j) refl
  where
    pick : (b : Bool) → test j ≡ b → test j ≡ false
    pick true e = absurd (false≢true (sym none ∙ any_number test k n j low high e))
    pick false e = e

-- and the other way round
none_number : (test : ℕ → Bool) (k n : ℕ) → ((j : ℕ) → j < k + n → test j ≡ false) → list_any test (numbers_from k n) ≡ false
none_number test k zero each = refl
none_number test k (suc n) each = ap (λ b. b || list_any test (numbers_from (suc k) n)) (each k (omega arith)) ∙ none_number test (suc k) n (λ j below. each j (omega (arith, below)))

agreeing : (a b : Option Contribution) → differ a b ≡ false → (one other : Contribution) → a ≡ Some one → b ≡ Some other → one ≡ other
agreeing a b none one other first second =
    (contributions_decide one other).0 (not-false (is_contribution one other) (sym (ap (λ a. differ a b) first ∙ ap (differ (Some one)) second) ∙ none))

-- contributions that are the same wherever both are there don't differ
pub not_differ : (a b : Option Contribution) → ((one other : Contribution) → a ≡ Some one → b ≡ Some other → one ≡ other) → differ a b ≡ false
not_differ (Some one) (Some other) h = not_from_true _ ((contributions_decide one other).1 (h one other refl refl))
not_differ (Some one) None h = refl
not_differ None b h = refl

-- a decision that isn't foreign is the rank's own affair
pub own_affair : (me : ℕ) (group : List ℕ) (log : List Entry) (c : Topic) (d : Decision) → is_foreign me group log c d ≡ false → IsOwnAffair me group log c d
own_affair me group log c d h =
    let own = own_from me group log c d h in
    record {
      about = own.about;
      old_group = own.old_group;
      keeps_me = own.member;
      agrees = λ r one other small lists listed. agreeing (entry_at d.entries r) (listed_of me log c r) (no_number (λ r. differ (entry_at d.entries r) (listed_of me log c r)) 0 8 r own.agrees (omega arith) (omega (arith, small))) one other lists listed;
    }

-- and its own affair isn't foreign
pub not_foreign : (me : ℕ) (group : List ℕ) (log : List Entry) (c : Topic) (d : Decision) → IsOwnAffair me group log c d → is_foreign me group log c d ≡ false
not_foreign me group log c d h =
    own_not_foreign me group log c d (record {
      about = h.about;
      old_group = h.old_group;
      member = h.keeps_me;
      agrees = none_number (λ r. differ (entry_at d.entries r) (listed_of me log c r)) 0 8 (λ r below. not_differ (entry_at d.entries r) (listed_of me log c r) (λ one other lists listed. h.agrees r one other (omega (arith, below)) lists listed));
    })
