-- What happens at a rank, in order, and what of it is live when.
use Rattle.std.specs.Prelude.{◌≡◌, ◌≢◌, ℕ, zero, suc, ◌+◌, ◌<◌, List, [], ◌∷◌, Some, slice_get}
use Rattle.ulfm_base.specs.declared.pattern.Pattern.{Pattern}
use Rattle.ulfm_base.specs.declared.envelope.Letter.{Letter}

-- A receive is posted. A letter comes. The receive that was posted at a place ends, whether it has a letter or not.
-- All receives and letters of a context end.
pub data MatchEvent : Type 0 where
  Post : (pattern : Pattern) → MatchEvent
  Come : (letter : Letter) → MatchEvent
  End : (place : ℕ) → MatchEvent
  Clear : (context : ℕ) → MatchEvent

-- what happened so far, in order; the first event is at place 0
abbrev pub History : Type 0
History = List MatchEvent

-- a receive that asks for this was posted at place i
abbrev pub PostAt : History → ℕ → Pattern → Type 0
PostAt history i pattern = slice_get history i ≡ Some (Post pattern)

-- this letter came at place b
abbrev pub ComeAt : History → ℕ → Letter → Type 0
ComeAt history b letter = slice_get history b ≡ Some (Come letter)

-- this event stands after place i and before place n
pub record StandsBetween (history : History) (event : MatchEvent) (i n : ℕ) : Type 0 where
  pub place : ℕ
  pub after : i < place
  pub before : place < n
  pub is : slice_get history place ≡ Some event

-- What can happen.
pub record IsWellFormed (history : History) : Type 0 where
  -- only a receive that was posted ends
  pub ends : (i k : ℕ) → slice_get history k ≡ Some (End i) → (pattern : Pattern) × (i < k) × PostAt history i pattern
  -- after its context was cleared no receive is posted
  pub no_posts : (k i : ℕ) (pattern : Pattern) → k < i → PostAt history i pattern → slice_get history k ≢ Some (Clear pattern.context.number)
  -- and no letter comes
  pub no_letters : (k b : ℕ) (letter : Letter) → k < b → ComeAt history b letter → slice_get history k ≢ Some (Clear letter.envelope.context.number)

-- The receive posted at place i is live at moment n, when the first n events have happened: since its post neither did
-- it end nor was its context cleared.
pub record IsLiveReceive (history : History) (i : ℕ) (pattern : Pattern) (n : ℕ) : Type 0 where
  pub posted : PostAt history i pattern
  pub before : i < n
  pub not_ended : StandsBetween history (End i) i n → ⊥
  pub not_cleared : StandsBetween history (Clear pattern.context.number) i n → ⊥

-- The letter that came at place b is live at moment n: since then its context wasn't cleared.
pub record IsLiveLetter (history : History) (b : ℕ) (letter : Letter) (n : ℕ) : Type 0 where
  pub came : ComeAt history b letter
  pub before : b < n
  pub not_cleared : StandsBetween history (Clear letter.envelope.context.number) b n → ⊥

-- posts and arrivals are counted, ends and clears aren't
abbrev pub counts_as : MatchEvent → ℕ
counts_as (Post pattern) = 1
counts_as (Come letter) = 1
counts_as (End place) = 0
counts_as (Clear context) = 0

-- the number of the receive or letter at place i: how many posts and arrivals stand before it
abbrev pub count_before : History → ℕ → ℕ
count_before [] i = 0
count_before (event ∷ history) zero = 0
count_before (event ∷ history) (suc i) = counts_as event + count_before history i
