-- What a shrink or an agreement decides (ULFM, shrink and agree).
use Rattle.std.specs.Prelude.{◌≡◌, ℕ, Bool, true, false, ◌||◌, not, List, [], ◌∷◌, Option, Some, None, filter, slice_index_or}
use Rattle.std.specs.Option.{is_some}
use Rattle.std.specs.Int.Bits.{bit_and}
use Rattle.std.proofs.Props.{props}
use Rattle.ulfm_base.specs.declared.rank_set.RankSet.{RankSet}
use Rattle.ulfm_base.specs.declared.contribution.Contribution.{Contribution}
use Rattle.ulfm_base.specs.declared.topic.Purpose.{Purpose}
use Rattle.ulfm_base.specs.declared.topic.Purpose.TheVariants.{Shrink, Agree}
use Rattle.ulfm_base.specs.declared.topic.Topic.{Topic}
use Rattle.ulfm_base.specs.RankSet.{has}
use Rattle.ulfm_base.specs.Topic.{Fits, HasShrink}
use Rattle.ulfm_base.specs.Group.{is_member, excluding}

-- what the rank r brought, if it is listed
abbrev pub entry_at : List (Option Contribution) → ℕ → Option Contribution
entry_at entries r = slice_index_or entries r None

-- whether the rank r is listed
abbrev pub is_listed : List (Option Contribution) → ℕ → Bool
is_listed entries r = is_some (entry_at entries r)

-- whether a contribution, where there is one, knows the rank r to have failed
abbrev pub in_entry : Option Contribution → ℕ → Bool
in_entry None r = false
in_entry (Some brought) r = has brought.known r

-- the bits that a value has in common with a flag, where there is one
abbrev pub and_flag : ℕ → Option ℕ → ℕ
and_flag bits None = bits
and_flag bits (Some flag) = bit_and bits flag

-- the bits that a value has in common with the flag of a contribution, where there is one
abbrev pub and_entry : ℕ → Option Contribution → ℕ
and_entry bits None = bits
and_entry bits (Some brought) = and_flag bits brought.flag

-- the bits that a value has in common with all listed flags
abbrev pub and_entries : ℕ → List (Option Contribution) → ℕ
and_entries bits [] = bits
and_entries bits (entry ∷ entries) = and_entries (and_entry bits entry) entries

-- the AND of all listed flags, of 32 bits
abbrev pub and_all : List (Option Contribution) → ℕ
and_all entries = and_entries 4294967295 entries

-- the value of an agreement is the AND of the listed flags; a shrink has none
abbrev pub value_of : Purpose → List (Option Contribution) → Option ℕ
value_of (Shrink round) entries = None
value_of (Agree round) entries = Some (and_all entries)

-- the members of the old group that aren't listed, in order
abbrev pub left_out : List ℕ → List (Option Contribution) → List ℕ
left_out old entries = filter (λ m. not (is_listed entries m)) old

-- a decision by itself: each member is listed or excluded, each member that a listed one knows to have failed is excluded,
-- the new group is the old one without the excluded, in order, and the value is the AND of the listed flags
pub record IsLawfulDecision (topic : Topic) (old : List ℕ) (entries : List (Option Contribution)) (excluded : RankSet) (fresh : List ℕ) (value : Option ℕ) : Type 0 where
  pub has_shrink : HasShrink topic
  pub complete : (r : ℕ) → is_member old r ≡ true → (is_listed entries r || has excluded r) ≡ true
  pub union : (r s : ℕ) → in_entry (entry_at entries r) s ≡ true → is_member old s ≡ true → has excluded s ≡ true
  pub listed_members : (r : ℕ) → is_listed entries r ≡ true → is_member old r ≡ true
  pub excluded_members : (r : ℕ) → has excluded r ≡ true → is_member old r ≡ true
  pub survivors : fresh ≡ excluding old (has excluded)
  pub flags : (r : ℕ) (brought : Contribution) → entry_at entries r ≡ Some brought → Fits topic.purpose brought.flag
  pub and_of_flags : value ≡ value_of topic.purpose entries

-- a decision is lawful in one way
pub IsLawfulDecision-prop : (topic : Topic) (old : List ℕ) (entries : List (Option Contribution)) (excluded : RankSet) (fresh : List ℕ) (value : Option ℕ) → IsProp (IsLawfulDecision topic old entries excluded fresh value)
IsLawfulDecision-prop topic old entries excluded fresh value = hlevel props
