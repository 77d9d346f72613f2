-- What a matcher holds, and that it is what a history leaves.
use Rattle.std.specs.Prelude.{◌≡◌, ◌≢◌, ℕ, Bool, false, ◌↔◌, List, Contains, length, slice_get, Some}
pub use Rattle.ulfm_base.specs.Lists.{IsAscending}
use Rattle.ulfm_base.specs.Table.{Marks, is_marked}
use Rattle.ulfm_base.specs.declared.pattern.Pattern.{Pattern}
use Rattle.ulfm_base.specs.declared.envelope.Letter.{Letter}
use Rattle.ulfm_match.specs.History.{History, Clear, IsWellFormed, count_before}
use Rattle.ulfm_match.specs.Pairing.{Pairing, IsWaiting, IsKept, LawfulPairing}

-- The waiting receives and the kept letters, each with its number, how many posts and arrivals there were, which contexts
-- were cleared, and whether there is room for one more post, one more arrival and one more clear.
pub record Matching : Type 0 where
  pub waiting : List (ℕ × Pattern)
  pub kept : List (ℕ × Letter)
  pub count : ℕ
  pub cleared : Marks
  pub prepared : Bool

-- a matching with no room made
abbrev pub unprepared : Matching → Matching
unprepared state = record { waiting = state.waiting; kept = state.kept; count = state.count; cleared = state.cleared; prepared = false }

-- the context was cleared
abbrev pub is_cleared : Matching → ℕ → Bool
is_cleared state context = is_marked state.cleared context

-- the entries are all those of which P holds, each under the number of its place, in order of places
pub record Lists {X : Type 0} (history : History) (P : ℕ → X → Type 0) (entries : List (ℕ × X)) : Type 0 where
  pub ascending : IsAscending entries
  pub sound : (k : ℕ) (x : X) → Contains entries (k, x) → (i : ℕ) × (count_before history i ≡ k) × P i x
  pub complete : (i : ℕ) (x : X) → P i x → Contains entries (count_before history i, x)

-- the history clears nothing of the context
abbrev pub IsUncleared : History → ℕ → Type 0
IsUncleared history context = (k : ℕ) → slice_get history k ≢ Some (Clear context)

-- the state is the remains of the pairing: what waits and what is kept now, in order of places, and what was cleared
pub record Remains (history : History) (pairing : Pairing) (state : Matching) : Type 0 where
  pub count : state.count ≡ count_before history (length history)
  pub waiting : Lists history (λ i pattern. IsWaiting history pairing i pattern (length history)) state.waiting
  pub kept : Lists history (λ b letter. IsKept history pairing b letter (length history)) state.kept
  pub cleared : (context : ℕ) → (is_cleared state context ≡ false) ↔ IsUncleared history context

-- the pairing is lawful for this history, and the state is its remains
pub record Tracks (history : History) (pairing : Pairing) (state : Matching) : Type 0 where
  pub well_formed : IsWellFormed history
  pub lawful : LawfulPairing history pairing
  pub remains : Remains history pairing state

-- the elements of which P holds stay, and no others
abbrev pub Keeps : {X : Type 0} → (X → Type 0) → List X → List X → Type 0
Keeps {X} P old new = (y : X) → Contains new y ↔ (Contains old y × P y)
