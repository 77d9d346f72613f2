-- What each call does to the state: whatever history and lawful pairing it tracked, afterwards it tracks the longer
-- history, with the pair that the call answers and no other added.
use Rattle.std.specs.Prelude.{◌≡◌, ℕ, true, List, [], ◌∷◌, ◌++◌, Option, length, MatchOption, Contains}
use Rattle.ulfm_base.specs.declared.pattern.Pattern.{Pattern}
use Rattle.ulfm_base.specs.declared.envelope.Letter.{Letter}
use Rattle.ulfm_base.specs.Pattern.{names, Admits}
use Rattle.ulfm_match.specs.History.{MatchEvent, History, Post, Come, End, Clear, PostAt, ComeAt, count_before}
use Rattle.ulfm_match.specs.Pairing.{Pairing, IsKept}
use Rattle.ulfm_match.specs.State.{Matching, Tracks}

-- the receive that is posted now gets this letter, which came before
pub record PostGets (history : History) (pairing : Pairing) (pattern : Pattern) (letter : Letter) (new : Matching) : Type 0 where
  pub place : ℕ
  pub came : ComeAt history place letter
  pub tracks : Tracks (history ++ Post pattern ∷ []) (pairing ++ (length history, place) ∷ []) new

-- the receive that is posted now and ends at once gets this letter, which came before
pub record ProbeGets (history : History) (pairing : Pairing) (pattern : Pattern) (letter : Letter) (new : Matching) : Type 0 where
  pub place : ℕ
  pub came : ComeAt history place letter
  pub tracks : Tracks (history ++ Post pattern ∷ End (length history) ∷ []) (pairing ++ (length history, place) ∷ []) new

-- no letter is kept that the pattern admits
abbrev pub KeepsNone : History → Pairing → Pattern → Type 0
KeepsNone history pairing pattern = (b : ℕ) (letter : Letter) → IsKept history pairing b letter (length history) → Admits pattern letter.envelope → ⊥

-- the letter that comes now goes to the receive of this number, which was posted before
pub record ArrivalGoesTo (history : History) (pairing : Pairing) (letter : Letter) (id : ℕ) (new : Matching) : Type 0 where
  pub place : ℕ
  pub pattern : Pattern
  pub posted : PostAt history place pattern
  pub numbered : count_before history place ≡ id
  pub tracks : Tracks (history ++ Come letter ∷ []) (pairing ++ (place, length history) ∷ []) new

-- a receive was posted, and the answer is the letter that it gets
abbrev pub TracksPost : Pattern → Matching → Option Letter → Matching → Type 0
TracksPost pattern old answer new =
    (history : History) (pairing : Pairing) → Tracks history pairing old →
    MatchOption answer (Tracks (history ++ Post pattern ∷ []) pairing new) (λ letter. PostGets history pairing pattern letter new)

-- the answer is the letter that was taken, as by a receive that was posted and ended at once, or none was there
abbrev pub TracksProbe : Pattern → Matching → Option Letter → Matching → Type 0
TracksProbe pattern old answer new =
    (history : History) (pairing : Pairing) → Tracks history pairing old →
    MatchOption answer (KeepsNone history pairing pattern) (λ letter. ProbeGets history pairing pattern letter new)

-- a letter came, and the answer is the number of the receive that gets it
abbrev pub TracksArrival : Letter → Matching → Option ℕ → Matching → Type 0
TracksArrival letter old answer new =
    (history : History) (pairing : Pairing) → Tracks history pairing old →
    MatchOption answer (Tracks (history ++ Come letter ∷ []) pairing new) (λ id. ArrivalGoesTo history pairing letter id new)

-- the receive of this number ended
abbrev pub TracksEnd : ℕ → Matching → Matching → Type 0
TracksEnd id old new =
    (history : History) (pairing : Pairing) (i : ℕ) (pattern : Pattern) → PostAt history i pattern → count_before history i ≡ id →
    Tracks history pairing old → Tracks (history ++ End i ∷ []) pairing new

-- the context was cleared
abbrev pub TracksClear : ℕ → Matching → Matching → Type 0
TracksClear context old new =
    (history : History) (pairing : Pairing) → Tracks history pairing old → Tracks (history ++ Clear context ∷ []) pairing new

-- these events end the receives posted so far that name rank s, and no others
pub record EndsNamed (history : History) (s : ℕ) (ends : List MatchEvent) : Type 0 where
  pub sound : (x : MatchEvent) → Contains ends x → (i : ℕ) × (pattern : Pattern) × (x ≡ End i) × PostAt history i pattern × (names pattern.source s ≡ true)
  pub complete : (i : ℕ) (pattern : Pattern) → PostAt history i pattern → names pattern.source s ≡ true → Contains ends (End i)

-- the receives that name rank s ended
abbrev pub TracksNamed : ℕ → Matching → Matching → Type 0
TracksNamed s old new =
    (history : History) (pairing : Pairing) (ends : List MatchEvent) → EndsNamed history s ends →
    Tracks history pairing old → Tracks (history ++ ends) pairing new
