-- The steps of a block, in one of its iterations.
use Rattle.std.specs.Prelude.{ℕ, zero, suc, ◌+◌, ◌-◌, ◌*◌, ◌==◌, ◌&&◌, nat_le, ℤ, pos, Bool, false, List, [], ◌∷◌, ◌++◌, length, map, Option, Some, None, option_map, if◌then◌else◌, codes, decimal}
use Rattle.std.specs.Char.{is_ascii_digit}
use Rattle.std.specs.List.{list_any}
use Rattle.std.specs.Ordering.{int_eq}
use Rattle.std.specs.Str.{bytes_eq}
use Rattle.toml.specs.Data.{Data, string, integer, array, table, Members, get_member, as_table}
use Rattle.toml.specs.View.{items_of}
use Rattle.ulfm_reader.specs.Members.{in_table, list_at, listed, put_if_some, text_at}
use Rattle.ulfm_reader.specs.Ranks.{rank_of}

-- a text with the number of the iteration behind: `part-2`
abbrev pub numbered : ℕ → List ℕ → List ℕ
numbered i text = text ++ codes "-" ++ decimal i

-- the number that goes on with these digits, if it is at most 32767
abbrev pub digits_from : ℕ → List ℕ → Option ℕ
digits_from n [] = Some n
digits_from n (c ∷ cs) = if is_ascii_digit c && nat_le (n * 10 + (c - 48)) 32767 then digits_from (n * 10 + (c - 48)) cs else None

-- how much the text of a tag adds to the number of the iteration: `i` nothing, `i+5` five
abbrev pub added : List ℕ → Option ℕ
added [] = None
added (c ∷ []) = if c == 105 then Some 0 else None
added (c ∷ d ∷ digits) = if c == 105 && d == 43 && nat_le 1 (length digits) then digits_from 0 digits else None

-- the tag of an iteration, by how much is added; a text that says something else stays
abbrev pub tag_by : ℕ → List ℕ → Option ℕ → Data
tag_by i text None = string text
tag_by i text (Some n) = integer (pos (i + n))

-- it is this text
abbrev pub is_text : List ℕ → Option (List ℕ) → Bool
is_text text None = false
is_text text (Some own) = bytes_eq own text

-- it is this rank
abbrev pub is_rank : ℤ → Option ℤ → Bool
is_rank rank None = false
is_rank rank (Some own) = int_eq own rank

-- a step of this rank has this name
abbrev pub is_named : ℤ → List ℕ → Option Members → Bool
is_named rank name None = false
is_named rank name (Some ms) = is_rank rank (rank_of ms) && is_text name (text_at (codes "name") ms)

-- what names a step: where the rank has a step of that name in the block, that of the same iteration
abbrev pub referred : List Data → ℤ → ℕ → List ℕ → List ℕ
referred block rank i name = if list_any (λ d. is_named rank name (as_table d)) block then numbered i name else name

-- the members with the text at a key that names a step
abbrev pub refer : List Data → ℤ → ℕ → List ℕ → Members → Members
refer block rank i key ms = put_if_some key (option_map (λ name. string (referred block rank i name)) (text_at key ms)) ms

-- a table that asks for the answer of a step
abbrev pub referred_table : List Data → ℤ → ℕ → Data → Data
referred_table block rank i d = in_table (refer block rank i (codes "step")) d

-- tables that have to hold together
abbrev pub referred_all : List Data → ℤ → ℕ → Option (List Data) → Option Data
referred_all block rank i None = None
referred_all block rank i (Some ds) = Some (array (items_of (map (referred_table block rank i) ds)))

-- the members of a condition: of one table, or by its key `all` of some
abbrev pub refer_condition : List Data → ℤ → ℕ → Members → Members
refer_condition block rank i ms = put_if_some (codes "all") (referred_all block rank i (list_at (codes "all") ms)) (refer block rank i (codes "step") ms)

-- a condition of a step
abbrev pub referred_condition : List Data → ℤ → ℕ → Data → Data
referred_condition block rank i d = in_table (refer_condition block rank i) d

-- a condition, or a list of them
abbrev pub referred_if : List Data → ℤ → ℕ → Option Data → Option Data
referred_if block rank i (Some (table ms)) = Some (referred_condition block rank i (table ms))
referred_if block rank i (Some (array ds)) = Some (array (items_of (map (referred_condition block rank i) (listed ds))))
referred_if block rank i _ = None

-- the members with the number of the iteration behind the text at a key
abbrev pub number : ℕ → List ℕ → Members → Members
number i key ms = put_if_some key (option_map (λ text. string (numbered i text)) (text_at key ms)) ms

-- the members with the tag of the iteration
abbrev pub tag : ℕ → Members → Members
tag i ms = put_if_some (codes "tag") (option_map (λ text. tag_by i text (added text)) (text_at (codes "tag") ms)) ms

-- the members with their conditions of the iteration
abbrev pub refer_if : List Data → ℤ → ℕ → Members → Members
refer_if block rank i ms = put_if_some (codes "if") (referred_if block rank i (get_member (codes "if") ms)) ms

-- what names steps, where the step has a rank
abbrev pub refer_for : List Data → ℕ → Members → Option ℤ → Members
refer_for block i ms None = ms
refer_for block i ms (Some rank) = refer_if block rank i (refer block rank i (codes "comm") (refer block rank i (codes "req") ms))

-- a step of a block in its iteration of this number
abbrev pub iterated : List Data → ℕ → Members → Members
iterated block i ms = refer_for block i (tag i (number i (codes "text") (number i (codes "body") (number i (codes "name") ms)))) (rank_of ms)

-- all steps of a block in so many iterations, of which the first has this number
abbrev pub iterations : List Data → ℕ → ℕ → List Data
iterations block i zero = []
iterations block i (suc n) = map (in_table (iterated block i)) block ++ iterations block (i + 1) n
