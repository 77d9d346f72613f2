-- A block of steps: `{ repeat = n, on_error = "name", steps = [..] }`.
use Rattle.std.specs.Prelude.{ℕ, ◌+◌, ◌==◌, ◌&&◌, nat_le, ℤ, pos, Bool, true, false, List, [], ◌∷◌, ◌++◌, map, Option, Some, None, is_some, if◌then◌else◌, codes}
use Rattle.std.specs.Option.{option_and_then}
use Rattle.toml.specs.Data.{Data, Members, no_members, member, get_member, as_integer, as_table}
use Rattle.ulfm_reader.specs.Iterations.{is_text, iterations}
use Rattle.ulfm_reader.specs.Line.{Line, line, steps_of}
use Rattle.ulfm_reader.specs.Members.{list_at, text_at, text_in}
use Rattle.ulfm_reader.specs.Shared.{shared_out, step_lines}
use Rattle.ulfm_reader.specs.declared.block.Block.{Block as Kept}
use Rattle.toml.specs.View.{view}

-- how often the steps are written, where it says so, and the steps as they stand in the file
pub record Block : Type 0 where
  pub times : Option ℕ
  pub steps : List Data

-- a block as it is kept
abbrev pub block_view : Kept → Block
block_view b = record { times = b.times; steps = map view b.steps.now }

-- how many members there are
abbrev pub members_len : Members → ℕ
members_len no_members = 0
members_len (member k d ms) = members_len ms + 1

-- a number of iterations, 1 to 256
abbrev pub times_of : Option ℤ → Option ℕ
times_of (Some (pos n)) = if nat_le 1 n && nat_le n 256 then Some n else None
times_of _ = None

-- how often a block says that its steps are written
abbrev pub times_in : Members → Option ℕ
times_in ms = times_of (option_and_then as_integer (get_member (codes "repeat") ms))

-- the name that an item has
abbrev pub name_in : Data → Option (List ℕ)
name_in d = text_in (codes "name") d

-- the name of the step to which an error in it leads
abbrev pub goal_in : Data → Option (List ℕ)
goal_in d = text_in (codes "on_error") d

-- one of these items has this name, and none before it leads to another
abbrev pub leads_to : List ℕ → List Data → Bool
leads_to name [] = false
leads_to name (d ∷ ds) = if is_text name (name_in d) then true else if is_some (goal_in d) then false else leads_to name ds

-- the name to which an error leads is that of one of the items behind
abbrev pub leads_on : List Data → Option (List ℕ) → Bool
leads_on behind None = false
leads_on behind (Some name) = leads_to name behind

-- how many keys a block has
abbrev pub keys_of : Option ℕ → Bool → ℕ
keys_of None false = 0
keys_of None true = 2
keys_of (Some n) false = 2
keys_of (Some n) true = 3

-- a block of steps, if there are some, and it has no other keys
abbrev pub block_by : Option (List Data) → Option ℕ → Bool → ℕ → Option Block
block_by (Some (d ∷ ds)) times leads len = if len == keys_of times leads then Some (record { times = times; steps = d ∷ ds }) else None
block_by _ times leads len = None

-- the block that members are, with these items behind it
abbrev pub block_of : List Data → Members → Option Block
block_of behind ms = block_by (list_at (codes "steps") ms) (times_in ms) (leads_on behind (text_at (codes "on_error") ms)) (members_len ms)

-- the block that an item is
abbrev pub block_in : List Data → Data → Option Block
block_in behind d = option_and_then (block_of behind) (as_table d)

-- steps, once or in so many iterations
abbrev pub repeated : List Data → Option ℕ → List Data
repeated steps None = steps
repeated steps (Some n) = iterations steps 0 n

-- the lines of a block in a job of so many ranks: its steps, each for its ranks, once or in each iteration
abbrev pub lines_of_block : ℕ → ℕ → Block → List Line
lines_of_block ranks place block = map (line place) (repeated (steps_of (shared_out ranks block.steps)) block.times)

-- the lines of an item
abbrev pub lines_by : ℕ → ℕ → Data → Option Block → List Line
lines_by ranks place d None = step_lines ranks place d
lines_by ranks place d (Some block) = lines_of_block ranks place block

-- the lines of an item, with these items behind it
abbrev pub item_lines : ℕ → ℕ → List Data → Data → List Line
item_lines ranks place behind d = lines_by ranks place d (block_in behind d)

-- lines, and behind them those of these items, the first of which has this number
abbrev pub items_behind : ℕ → ℕ → List Line → List Data → List Line
items_behind ranks place lines [] = lines
items_behind ranks place lines (d ∷ ds) = items_behind ranks (place + 1) (lines ++ item_lines ranks place ds d) ds
