-- A step for several ranks, and ranks that are named as they are seen from the rank of the step.
use Rattle.std.specs.Prelude.{ℕ, ℤ, pos, negsuc, ◌+◌, ◌-◌, ◌%◌, List, [], ◌∷◌, ◌++◌, map, Option, Some, None, is_some, option_and_then, if◌then◌else◌, codes}
use Rattle.std.specs.List.{filter_map, list_all, range_with_len}
use Rattle.std.specs.Str.{bytes_eq}
use Rattle.toml.specs.Data.{Data, integer, Items, Members, get, get_member, as_array, as_integer, as_str}
use Rattle.ulfm_reader.specs.Members.{in_table, listed, put}

-- how many ranks further on the rank is that a text names, among so many
abbrev pub further : ℕ → List ℕ → Option ℕ
further ranks text =
    if bytes_eq text (codes "me") then Some 0
    else if bytes_eq text (codes "right") then Some 1
    else if bytes_eq text (codes "left") then Some (ranks - 1)
    else if bytes_eq text (codes "me+1") then Some 1
    else if bytes_eq text (codes "me+2") then Some 2
    else if bytes_eq text (codes "me+3") then Some 3
    else if bytes_eq text (codes "me+4") then Some 4
    else if bytes_eq text (codes "me+5") then Some 5
    else if bytes_eq text (codes "me+6") then Some 6
    else if bytes_eq text (codes "me+7") then Some 7
    else None

-- how many ranks further on the text at a key names, where it names one
abbrev pub further_at : ℕ → List ℕ → Members → Option ℕ
further_at ranks key ms = option_and_then (further ranks) (option_and_then as_str (get_member key ms))

-- a number, 0 for those below
abbrev pub natural : ℤ → ℕ
natural (pos n) = n
natural (negsuc n) = 0

-- the rank so many further on, among so many
abbrev pub neighbour : ℕ → ℤ → ℕ → ℕ
neighbour ranks rank n = (natural rank + n) % ranks

-- the members with the rank so many further on at a key
abbrev pub put_neighbour : ℕ → ℤ → List ℕ → Members → Option ℕ → Members
put_neighbour ranks rank key ms None = ms
put_neighbour ranks rank key ms (Some n) = put key (integer (pos (neighbour ranks rank n))) ms

-- the members with the number of the rank that the text at a key names, where it names one
abbrev pub with_neighbour : ℕ → ℤ → List ℕ → Members → Members
with_neighbour ranks rank key ms = put_neighbour ranks rank key ms (further_at ranks key ms)

-- the members with the numbers of the ranks that `to` and `from` name, where the step has a rank
abbrev pub placed_for : ℕ → Members → Option ℤ → Members
placed_for ranks ms None = ms
placed_for ranks ms (Some rank) = with_neighbour ranks rank (codes "from") (with_neighbour ranks rank (codes "to") ms)

-- the number at the key `rank`, where there is one
abbrev pub rank_of : Members → Option ℤ
rank_of ms = option_and_then as_integer (get_member (codes "rank") ms)

-- a step of one rank, with the numbers of the ranks that its `to` and its `from` name
abbrev pub placed : ℕ → Members → Members
placed ranks ms = placed_for ranks ms (rank_of ms)

-- the numbers of a list, where it has nothing else
abbrev pub numbers : List Data → List ℤ
numbers ds = if list_all (λ d. is_some (as_integer d)) ds then filter_map as_integer ds else []

-- those of what may be no array
abbrev pub numbers_in : Option Items → List ℤ
numbers_in None = []
numbers_in (Some ds) = numbers (listed ds)

-- all ranks, of so many, where a text says so
abbrev pub all_ranks : ℕ → Option (List ℕ) → List ℤ
all_ranks ranks None = []
all_ranks ranks (Some text) = if bytes_eq text (codes "all") then map pos (range_with_len 0 ranks) else []

-- the ranks of what stands for several: of a list of numbers, or of the text `all`
abbrev pub several : ℕ → Option Data → List ℤ
several ranks None = []
several ranks (Some d) = numbers_in (as_array d) ++ all_ranks ranks (as_str d)

-- those of a step
abbrev pub shared_by : ℕ → Data → List ℤ
shared_by ranks step = several ranks (get (codes "rank") step)

-- a step as one of another rank
abbrev pub for_rank : ℕ → Members → ℤ → Members
for_rank ranks ms rank = placed ranks (put (codes "rank") (integer rank) ms)

-- the steps of these ranks; where there are none, that of its own
abbrev pub written_for : ℕ → Data → List ℤ → List Data
written_for ranks step [] = in_table (placed ranks) step ∷ []
written_for ranks step (rank ∷ more) = map (λ r. in_table (λ ms. for_rank ranks ms r) step) (rank ∷ more)

-- the steps that a step is written out to: one for each of its ranks, with the numbers of the ranks that it names
abbrev pub written_step : ℕ → Data → List Data
written_step ranks step = written_for ranks step (shared_by ranks step)
