-- Entries by number: the early ones in buckets, and after them the recent ones in a short list.
use Rattle.std.specs.Prelude.{◌≡◌, ◌≢◌, ℕ, ◌<◌, ◌≤◌, List, ◌∷◌, ◌++◌, Bool, true, false, Contains, take, length, Option, MatchOption}
use Rattle.std.specs.VecDeque.{deque_len, deque_capacity}
use Rattle.std.specs.List.{HoldsAt}
use Rattle.ulfm_base.specs.declared.pattern.Pattern.{Pattern}
use Rattle.ulfm_base.specs.declared.envelope.Letter.{Letter}
use Rattle.ulfm_match.specs.declared.pool.Pool.{Pool}
use Rattle.ulfm_match.specs.State.{IsAscending}
use Rattle.ulfm_match.specs.inside.Buckets.{IsIndexed, NoneIsWild, numbers_at}
use Rattle.ulfm_match.specs.inside.Key.{IsKeyOf, IsKeyOfReceive}
use Rattle.ulfm_match.specs.inside.Order.{in_order}

-- P holds of none
abbrev pub NoneOf : {X : Type 0} → (X → Type 0) → List X → Type 0
NoneOf {X} P xs = (x : X) → Contains xs x → P x → ⊥

-- k is the first index at which P holds
pub record IsFirstAt {X : Type 0} (P : X → Type 0) (xs : List X) (k : ℕ) : Type 0 where
  pub within : k < length xs
  pub passes : HoldsAt P xs k
  pub none_before : NoneOf P (take k xs)

-- the first index at which P holds, or none where P holds nowhere
abbrev pub FindsFirst : {X : Type 0} → (X → Type 0) → List X → Option ℕ → Type 0
FindsFirst {X} P xs found = MatchOption found (NoneOf P xs) (IsFirstAt P xs)

-- x is taken out, the first of which P holds
pub record TakesFirst {X : Type 0} (P : X → Type 0) (old new : List X) (x : X) : Type 0 where
  pub front : List X
  pub back : List X
  pub old_is : old ≡ front ++ x ∷ back
  pub new_is : new ≡ front ++ back
  pub passes : P x
  pub first : NoneOf P front

-- z is the one of the least number of which P holds
pub record IsLeast {X : Type 0} (P : ℕ × X → Type 0) (xs : List (ℕ × X)) (z : ℕ × X) : Type 0 where
  pub there : Contains xs z
  pub passes : P z
  pub least : (y : ℕ × X) → Contains xs y → P y → z.0 ≤ y.0

-- z is taken out, the one of the least number of which P holds
pub record TakesLeast {X : Type 0} (P : ℕ × X → Type 0) (old new : List (ℕ × X)) (z : ℕ × X) : Type 0 where
  pub there : Contains old z
  pub passes : P z
  pub least : (y : ℕ × X) → Contains old y → P y → z.0 ≤ y.0
  pub ascending : IsAscending new
  pub left_to : (y : ℕ × X) → Contains new y → Contains old y × (y.0 ≢ z.0)
  pub left_back : (y : ℕ × X) → Contains old y → y.0 ≢ z.0 → Contains new y

-- all entries, by rising numbers
abbrev pub all_of : {X : Type 0} → Pool X → List (ℕ × X)
all_of {X} pool = in_order pool.early.entries ++ pool.recent.items

-- so many entries are recent at most
abbrev pub few : ℕ
few = 128

-- the early entries stand in the buckets of their keys; the recent ones are few, and follow by rising numbers, from the top on and below the count
pub record IsPool {X : Type 0} (IsKey : X → ℕ → Type 0) (count : ℕ) (pool : Pool X) : Type 0 where
  pub top : ℕ
  pub indexed : IsIndexed IsKey top pool.early pool.buckets
  pub ascending : IsAscending pool.recent.items
  pub from : (y : ℕ × X) → Contains pool.recent.items y → top ≤ y.0
  pub below : (y : ℕ × X) → Contains pool.recent.items y → y.0 < count
  pub counted : top ≤ count
  pub short : deque_len pool.recent ≤ few
  -- the early ones may have a key of any source or of any tag only where the pool says so
  pub none_wild : pool.wild ≡ false → NoneIsWild IsKey pool.early

-- two pools have the same entries, and buckets of the same numbers
pub record IsSamePool {X : Type 0} (old new : Pool X) : Type 0 where
  pub early : new.early.entries ≡ old.early.entries
  pub buckets : (k : ℕ) → numbers_at new.buckets k ≡ numbers_at old.buckets k
  pub recent : new.recent.items ≡ old.recent.items
  pub wild : new.wild ≡ old.wild

-- there is a place for one recent entry more, and with it they are few still
abbrev pub HasPlace : {X : Type 0} → Pool X → Type 0
HasPlace {X} pool = (deque_len pool.recent < deque_capacity pool.recent) × (deque_len pool.recent < few)

-- what a matcher holds: the receives that wait and the letters that are kept, both in buckets but for the recent ones
pub record IsWhole (waiting : Pool Pattern) (kept : Pool Letter) (count : ℕ) (ready : Bool) : Type 0 where
  pub of_waiting : IsPool IsKeyOfReceive count waiting
  pub of_kept : IsPool IsKeyOf count kept
  -- room was made for one entry more
  pub room : ready ≡ true → HasPlace waiting × HasPlace kept
