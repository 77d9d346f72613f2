-- Which receive gets which letter (MPI 4.0, 3.5).
use Rattle.std.specs.Prelude.{◌≡◌, ℕ, ◌+◌, ◌<◌, ◌≤◌, max, List, length, Contains, filter, nat_lt, ◌&&◌}
use Rattle.ulfm_base.specs.declared.pattern.Pattern.{Pattern}
use Rattle.ulfm_base.specs.declared.envelope.Letter.{Letter}
use Rattle.ulfm_base.specs.Pattern.{Admits}
use Rattle.ulfm_match.specs.History.{History, PostAt, ComeAt, StandsBetween, End, IsLiveReceive, IsLiveLetter}

-- a set of pairs of places, that of a receive and that of the letter that it gets
abbrev pub Pairing : Type 0
Pairing = List (ℕ × ℕ)

-- the receive at place i gets the letter at place b
abbrev pub Pairs : Pairing → ℕ → ℕ → Type 0
Pairs pairing i b = Contains pairing (i, b)

-- at moment n the receive at place i waits: it is live, and none of the letters that came so far is its own
pub record IsWaiting (history : History) (pairing : Pairing) (i : ℕ) (pattern : Pattern) (n : ℕ) : Type 0 where
  pub live : IsLiveReceive history i pattern n
  pub unpaired : (b : ℕ) → b < n → Pairs pairing i b → ⊥

-- at moment n the letter at place b is kept: it is live, and none of the receives posted so far has it
pub record IsKept (history : History) (pairing : Pairing) (b : ℕ) (letter : Letter) (n : ℕ) : Type 0 where
  pub live : IsLiveLetter history b letter n
  pub unpaired : (i : ℕ) → i < n → Pairs pairing i b → ⊥

-- the receive at place i admits the letter at place b, and both are live when the later of the two has happened
pub record IsMatch (history : History) (i b : ℕ) : Type 0 where
  pub pattern : Pattern
  pub letter : Letter
  pub receive_live : IsLiveReceive history i pattern (max i b + 1)
  pub letter_live : IsLiveLetter history b letter (max i b + 1)
  pub admits : Admits pattern letter.envelope

-- A pairing by the rules of matching. Letters of all senders are ordered by their arrival, which is this project's
-- choice; the standard orders those of one sender.
pub record LawfulPairing (history : History) (pairing : Pairing) : Type 0 where
  -- a receive gets one letter at most
  pub one_letter : (i b d : ℕ) → Pairs pairing i b → Pairs pairing i d → b ≡ d
  -- a letter goes to one receive at most
  pub one_receive : (i j b : ℕ) → Pairs pairing i b → Pairs pairing j b → i ≡ j
  -- a receive gets a letter that it admits, while both are live
  pub matched : (i b : ℕ) → Pairs pairing i b → IsMatch history i b
  -- No letter overtakes another: if the receive also admits a letter that came earlier, then that one has gone to a
  -- receive that was posted earlier.
  pub earlier_letters : (i b a : ℕ) (pattern : Pattern) (letter : Letter) → Pairs pairing i b → PostAt history i pattern →
      a < b → ComeAt history a letter → Admits pattern letter.envelope → (j : ℕ) × (j < i) × Pairs pairing j a
  -- No receive overtakes another: if a receive that was posted earlier also admits the letter, and hasn't ended before
  -- the pair is made, then it has a letter that came earlier.
  pub earlier_receives : (i b j : ℕ) (pattern : Pattern) (letter : Letter) → Pairs pairing i b → ComeAt history b letter →
      j < i → PostAt history j pattern → (StandsBetween history (End j) j (max i b) → ⊥) → Admits pattern letter.envelope →
      (a : ℕ) × (a < b) × Pairs pairing j a
  -- no match is missed: at no moment does a waiting receive admit a kept letter
  pub none_missed : (n i b : ℕ) (pattern : Pattern) (letter : Letter) → n ≤ length history →
      IsWaiting history pairing i pattern n → IsKept history pairing b letter n → Admits pattern letter.envelope → ⊥

-- the pairs with both places below n
abbrev pub pairs_below : ℕ → Pairing → Pairing
pairs_below n pairing = filter (λ (pair : ℕ × ℕ). nat_lt pair.0 n && nat_lt pair.1 n) pairing
