-- What has to hold beside the condition that a step has of its own.
use Rattle.std.specs.Prelude.{List, [], ◌∷◌, ◌++◌, map, Option, Some, None, is_none, if◌then◌else◌, codes}
use Rattle.toml.specs.Data.{Data, array, table, Members, no_members, get_member}
use Rattle.toml.specs.View.{items_of}
use Rattle.ulfm_reader.specs.Members.{list_at, listed, put, put_if_some}

-- tables of which all have to hold, as a condition
abbrev pub together : List Data → Data
together ds = table (put (codes "all") (array (items_of ds)) no_members)

-- tables as a condition: one as it is, more by `all`
abbrev pub joined : List Data → Data
joined (d ∷ []) = d
joined ds = together ds

-- the list of an `all`, with more tables behind; one that is empty, or is no list, stays
abbrev pub all_with : List Data → Option (List Data) → Option Data
all_with more (Some (d ∷ ds)) = Some (array (items_of ((d ∷ ds) ++ more)))
all_with more _ = None

-- an alternative that holds where these tables hold too
abbrev pub alternative_with : List Data → Members → Data
alternative_with more ms =
    if is_none (get_member (codes "all") ms) then together (table ms ∷ more)
    else table (put_if_some (codes "all") (all_with more (list_at (codes "all") ms)) ms)

-- an alternative that holds where these tables hold too; what is no table stays
abbrev pub condition_with : List Data → Data → Data
condition_with more (table ms) = alternative_with more ms
condition_with more d = d

-- the conditions of a step, each alternative with these tables; what is no condition stays
abbrev pub conditions_with : List Data → Data → Data
conditions_with more (table ms) = alternative_with more ms
conditions_with more (array ds) = array (items_of (map (condition_with more) (listed ds)))
conditions_with more d = d

-- what a step asks for, by what it asks for of its own, where it does
abbrev pub asks_with : List Data → Option Data → Data
asks_with more None = joined more
asks_with more (Some d) = conditions_with more d
