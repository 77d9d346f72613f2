-- What the keys of a TOML table hold, and what is wrong with them.
use Rattle.std.specs.Prelude.{ℕ, ◌+◌, ℤ, pos, negsuc, List, [], ◌∷◌, Bool, ◌&&◌, nat_le, Option, Some, None, Result, Ok, Err, codes, if◌then◌else◌}
use Rattle.std.specs.List.{list_any, list_all}
use Rattle.std.specs.Option.{ok_or}
use Rattle.std.specs.Str.{bytes_eq}
use Rattle.toml.specs.Data.{Data, Items, no_items, item, Members, no_members, member, get_member, as_bool, as_integer, as_str}
use Rattle.ulfm_job.specs.Label.{label_of}
use Rattle.ulfm_job.specs.declared.fault.Fault.{Fault}
use Rattle.ulfm_job.specs.declared.fault.Fault.TheVariants.{BadKey, UnknownKey, OutOfRange}

-- one check after another: the first fault is the answer
infixl 10 ◌>>=◌
-- the second from what the first gives, or the error of the first
abbrev pub ◌>>=◌ : {A B E : Type 0} → Result A E → (A → Result B E) → Result B E
(Ok x) >>= f = f x
(Err e) >>= f = Err e

-- what a key that has to be there holds, read as one kind
abbrev pub required : {A : Type 0} → (Data → Option A) → Option Data → Result A Fault
required as_kind None = Err BadKey
required as_kind (Some d) = ok_or (as_kind d) BadKey

-- what was found, or nothing where it was not
abbrev pub or_none : {A : Type 0} → Result A Fault → Result (Option A) Fault
or_none (Ok x) = Ok (Some x)
or_none (Err e) = Err e

-- what a key that may be left out holds, read as one kind
abbrev pub optional : {A : Type 0} → (Data → Option A) → Option Data → Result (Option A) Fault
optional as_kind None = Ok None
optional as_kind (Some d) = or_none (ok_or (as_kind d) BadKey)

-- the number of a key that must be there
abbrev pub required_number : List ℕ → Members → Result ℤ Fault
required_number key ms = required as_integer (get_member key ms)

-- the number of a key, where it is there
abbrev pub optional_number : List ℕ → Members → Result (Option ℤ) Fault
optional_number key ms = optional as_integer (get_member key ms)

-- a number, or nothing for a text
abbrev pub number_or_text : Option ℤ → Option (List ℕ) → Result (Option ℤ) Fault
number_or_text (Some number) text = Ok (Some number)
number_or_text None (Some text) = Ok None
number_or_text None None = Err BadKey

-- the number of what names a communicator, which may be a name too
abbrev pub comm_number : Option Data → Result (Option ℤ) Fault
comm_number None = Ok None
comm_number (Some d) = number_or_text (as_integer d) (as_str d)

-- the number of a communicator, where one stands at its key; a name may stand there too
abbrev pub optional_comm : Members → Result (Option ℤ) Fault
optional_comm ms = comm_number (get_member (codes "comm") ms)

-- whether a key says so, where it is there
abbrev pub optional_bool : List ℕ → Members → Result (Option Bool) Fault
optional_bool key ms = optional as_bool (get_member key ms)

-- the text of a key that must be there
abbrev pub required_text : List ℕ → Members → Result (List ℕ) Fault
required_text key ms = required as_str (get_member key ms)

-- how many items an array has
abbrev pub items_len : Items → ℕ
items_len no_items = 0
items_len (item d ds) = items_len ds + 1

-- the keys of a table, in its order
abbrev pub keys_of : Members → List (List ℕ)
keys_of no_members = []
keys_of (member key d ms) = key ∷ keys_of ms

-- one of these names
abbrev pub is_among : List (List ℕ) → List ℕ → Bool
is_among names key = list_any (λ name. bytes_eq name key) names

-- no key but these
abbrev pub only_keys : List (List ℕ) → Members → Result (Unit {0}) Fault
only_keys names ms = if list_all (is_among names) (keys_of ms) then Ok tt else Err UnknownKey

-- a number from least to most
abbrev pub in_range : ℕ → ℕ → ℤ → Result ℕ Fault
in_range least most (pos n) = if nat_le least n && nat_le n most then Ok n else Err OutOfRange
in_range least most (negsuc n) = Err OutOfRange

-- the text of a note
abbrev pub label_in : List ℕ → Result (List ℕ) Fault
label_in text = ok_or (label_of text) OutOfRange

-- a number from 0 to most that may be left out
abbrev pub in_range_if_some : ℕ → Option ℤ → Result (Option ℕ) Fault
in_range_if_some most None = Ok None
in_range_if_some most (Some z) = in_range 0 most z >>= (λ n. Ok (Some n))
