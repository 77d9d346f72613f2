-- The keys of a table, with other values.
use Rattle.std.specs.Prelude.{ℕ, List, [], ◌∷◌, Option, Some, None, option_map, option_and_then}
use Rattle.std.specs.Cmp.Lexicographic.{slice_cmp}
use Rattle.std.specs.Ordering.{nat_cmp, match_ordering}
use Rattle.toml.specs.Data.{Data, table, Items, no_items, item, Members, no_members, member, get_member, as_array, as_str, as_table}

-- the members, with this value at a key
abbrev pub put : List ℕ → Data → Members → Members
put key d no_members = member key d no_members
put key d (member k e ms) = match_ordering (slice_cmp nat_cmp key k) (member key d (member k e ms)) (member k d ms) (member k e (put key d ms))

-- the members, with a value at a key where there is one to put
abbrev pub put_if_some : List ℕ → Option Data → Members → Members
put_if_some key None ms = ms
put_if_some key (Some d) ms = put key d ms

-- the text at a key
abbrev pub text_at : List ℕ → Members → Option (List ℕ)
text_at key ms = option_and_then as_str (get_member key ms)

-- the text at a key of what may be no table
abbrev pub text_in : List ℕ → Data → Option (List ℕ)
text_in key d = option_and_then (text_at key) (as_table d)

-- the items, as a list
abbrev pub listed : Items → List Data
listed no_items = []
listed (item d ds) = d ∷ listed ds

-- the list that an array is
abbrev pub list_in : Data → Option (List Data)
list_in d = option_map listed (as_array d)

-- the list at a key, where there is an array
abbrev pub list_at : List ℕ → Members → Option (List Data)
list_at key ms = option_map listed (option_and_then as_array (get_member key ms))

-- what a table becomes whose members change; all else stays
abbrev pub in_table : (Members → Members) → Data → Data
in_table change (table ms) = table (change ms)
in_table change d = d
