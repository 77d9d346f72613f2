-- Entries by number, buckets of their numbers, and how both change.
use Rattle.std.specs.Prelude.{◌≡◌, ℕ, ◌<◌, ◌≤◌, ◌⊎◌, ⊤, List, [], ◌∷◌, ◌++◌, cond, Contains, Option, Some, None, MatchOption, IsSome, nat_eq}
use Rattle.std.specs.List.{AllByRecursion}
use Rattle.std.specs.Option.{option_to_list}
use Rattle.indexmap.specs.IndexMap.{IndexMap, get, IsUnique}
use Rattle.ulfm_base.specs.declared.pattern.Pattern.{Pattern}
use Rattle.ulfm_base.specs.declared.envelope.Letter.{Letter}
use Rattle.ulfm_base.specs.declared.envelope.Envelope.{Envelope}
use Rattle.ulfm_base.specs.Pattern.{Admits}
use Rattle.ulfm_match.specs.declared.bucket.Bucket.{Bucket}
use Rattle.ulfm_match.specs.declared.near.Near.{Near}
use Rattle.ulfm_match.specs.inside.Key.{IsWild, AsksOf, key_from}

-- entries by number
abbrev pub Entries : Type 0 → Type 0
Entries X = IndexMap ℕ X Near

-- buckets by key
abbrev pub Buckets : Type 0
Buckets = IndexMap ℕ Bucket Near

-- no number is less than one before it
abbrev pub Rises : List ℕ → Type 0
Rises [] = ⊤
Rises (n ∷ ns) = AllByRecursion (λ m. n ≤ m) ns × Rises ns

-- the numbers in a bucket, the first before the others
abbrev pub numbers_in : Bucket → List ℕ
numbers_in bucket = option_to_list bucket.first ++ bucket.rest.items

-- the numbers of a bucket, if there is one
abbrev pub numbers_of : Option Bucket → List ℕ
numbers_of None = []
numbers_of (Some bucket) = numbers_in bucket

-- the numbers in the bucket of a key
abbrev pub numbers_at : Buckets → ℕ → List ℕ
numbers_at buckets k = numbers_of (get nat_eq buckets k)

-- what lives stays, nothing comes, and the order stays
pub record Sweeps (IsLive : ℕ → Type 0) (old new : List ℕ) : Type 0 where
  pub keeps : (n : ℕ) → Contains old n → IsLive n → Contains new n
  pub from : (n : ℕ) → Contains new n → Contains old n
  pub rises : Rises old → Rises new

-- the numbers of entries that went are dropped, some or all
abbrev pub SweepsFor : {X : Type 0} → Entries X → List ℕ → List ℕ → Type 0
SweepsFor {X} live = Sweeps (λ n. IsSome (get nat_eq live n))

-- no number but n comes, and it goes last
pub record Grows (n : ℕ) (old new : List ℕ) : Type 0 where
  pub keeps : (m : ℕ) → Contains old m → Contains new m
  pub from : (m : ℕ) → Contains new m → Contains old m ⊎ (m ≡ n)
  pub rises : Rises old → ((m : ℕ) → Contains old m → m ≤ n) → Rises new

-- the entry of this number is there, and P holds of it
pub record Passes {X : Type 0} (P : X → Type 0) (entries : Entries X) (n : ℕ) : Type 0 where
  pub entry : X
  pub found : get nat_eq entries n ≡ Some entry
  pub passes : P entry

-- a receive with this pattern may get the letter
abbrev pub MayGet : Pattern → Letter → Type 0
MayGet pattern letter = Admits pattern letter.envelope

-- a letter of this envelope may go to a receive with this pattern
abbrev pub MayGoTo : Envelope → Pattern → Type 0
MayGoTo envelope pattern = Admits pattern envelope

-- n is the least number among those of M for which Q holds
pub record IsLeastOf (M Q : ℕ → Type 0) (n : ℕ) : Type 0 where
  pub is : Q n
  pub least : (m : ℕ) → M m → Q m → n ≤ m

-- the least number among those of M for which Q holds, or none
abbrev pub FindsLeast : (ℕ → Type 0) → (ℕ → Type 0) → Option ℕ → Type 0
FindsLeast M Q found = MatchOption found ((m : ℕ) → M m → Q m → ⊥) (IsLeastOf M Q)

-- the lesser of two numbers, where there are two
abbrev pub IsLesser : Option ℕ → Option ℕ → Option ℕ → Type 0
IsLesser None other result = result ≡ other
IsLesser (Some m) None result = result ≡ Some m
IsLesser (Some m) (Some n) result = ((result ≡ Some m) × (m ≤ n)) ⊎ ((result ≡ Some n) × (n ≤ m))

-- the entry of number n is taken out, and stands in no bucket unless as one that is gone
pub record TakesOut {X : Type 0} (n : ℕ) (old new : Entries X) (from to : Buckets) : Type 0 where
  pub updates : (m : ℕ) → get nat_eq new m ≡ cond (nat_eq n m) None (get nat_eq old m)
  pub unique : IsUnique nat_eq new
  pub sweeps : (k : ℕ) → SweepsFor new (numbers_at from k) (numbers_at to k)

-- of the entries for which P holds, that of the least number, which is n, is taken out
pub record TakesEarliest {X : Type 0} (P : X → Type 0) (old new : Entries X) (from to : Buckets) (n : ℕ) (x : X) : Type 0 where
  pub found : get nat_eq old n ≡ Some x
  pub passes : P x
  pub least : (m : ℕ) → Passes P old m → n ≤ m
  pub out : TakesOut n old new from to

-- the letter is the earliest that a receive with this pattern may get, and is taken out
abbrev pub GivesLetter : Pattern → Entries Letter → Entries Letter → Buckets → Buckets → Letter → Type 0
GivesLetter pattern old new from to letter = (n : ℕ) × TakesEarliest (MayGet pattern) old new from to n letter

-- the receive of this number is the earliest that may get a letter of this envelope, and is taken out
abbrev pub GivesReceive : Envelope → Entries Pattern → Entries Pattern → Buckets → Buckets → ℕ → Type 0
GivesReceive envelope old new from to n = (pattern : Pattern) × TakesEarliest (MayGoTo envelope) old new from to n pattern

-- no entry passes
abbrev pub NonePass : {X : Type 0} → (X → Type 0) → Entries X → Type 0
NonePass {X} P entries = (n : ℕ) → Passes P entries n → ⊥

-- this number stands in the bucket of a source that the receive asks of
abbrev pub StandsFrom : Pattern → Buckets → ℕ → Type 0
StandsFrom pattern buckets n = (s : ℕ) × AsksOf pattern.source s × Contains (numbers_at buckets (key_from s pattern)) n

-- each entry stands in the buckets of its keys, by rising numbers; entries have numbers below the top, and buckets at most the top
pub record IsIndexed {X : Type 0} (IsKey : X → ℕ → Type 0) (top : ℕ) (entries : Entries X) (buckets : Buckets) : Type 0 where
  pub unique : IsUnique nat_eq entries
  pub below : (n : ℕ) (x : X) → get nat_eq entries n ≡ Some x → n < top
  pub held : (n : ℕ) (x : X) (k : ℕ) → get nat_eq entries n ≡ Some x → IsKey x k → Contains (numbers_at buckets k) n
  pub rises : (k : ℕ) → Rises (numbers_at buckets k)
  pub within : (k n : ℕ) → Contains (numbers_at buckets k) n → n ≤ top

-- no entry has a key of any source or of any tag
abbrev pub NoneIsWild : {X : Type 0} → (X → ℕ → Type 0) → Entries X → Type 0
NoneIsWild {X} IsKey entries = (n : ℕ) (x : X) (k : ℕ) → get nat_eq entries n ≡ Some x → IsKey x k → IsWild k → ⊥
