-- The text of a job, written out.
use Rattle.std.specs.Prelude.{ℕ, ℤ, pos, ◌&&◌, nat_le, List, length, Option, Some, None, if◌then◌else◌, codes}
use Rattle.std.specs.Option.{option_and_then}
use Rattle.toml.specs.Data.{Data, array, Members, get_member, as_integer}
use Rattle.toml.specs.View.{items_of}
use Rattle.ulfm_reader.specs.Lines.{Line, steps_of, written_out}
use Rattle.ulfm_reader.specs.Members.{list_at, put}
use Rattle.ulfm_reader.specs.Rows.{rows_out}

-- how many ranks a job has that says so; eight where it doesn't
abbrev pub ranks_or_eight : Option ℤ → ℕ
ranks_or_eight (Some (pos n)) = if nat_le 1 n && nat_le n 8 then n else 8
ranks_or_eight _ = 8

-- how many ranks a job's table says that the job has; eight where it doesn't
abbrev pub ranks_in : Members → ℕ
ranks_in ms = ranks_or_eight (option_and_then as_integer (get_member (codes "ranks") ms))

-- the steps of a job's table, where it has an array of them
abbrev pub steps_in : Members → Option (List Data)
steps_in ms = list_at (codes "step") ms

-- lines, where they aren't more than 256
abbrev pub few_lines : List Line → Option (List Line)
few_lines lines = if nat_le (length lines) 256 then Some lines else None

-- the steps of a job's table, written out
abbrev pub lines_in : Members → Option (List Line)
lines_in ms = option_and_then (λ ds. few_lines (written_out (ranks_in ms) ds)) (steps_in ms)

-- a job's table with the steps of these lines
abbrev pub with_lines : Members → Option (List Line) → Members
with_lines ms None = ms
with_lines ms (Some lines) = put (codes "step") (array (items_of (steps_of lines))) ms

-- the rows of a job's table of these lines, written out, where it has an array of them, and they aren't more than 1024
abbrev pub rows_in : Members → Option (List Line) → Option (List Data)
rows_in ms None = None
rows_in ms (Some lines) = option_and_then (rows_out lines (ranks_in ms)) (list_at (codes "never") ms)

-- a job's table with these rows
abbrev pub with_rows : Members → Option (List Data) → Members
with_rows ms None = ms
with_rows ms (Some rows) = put (codes "never") (array (items_of rows)) ms

-- a job's table with its steps and its rows written out; as it is where it has no array of steps, or more than 256
abbrev pub written_job : Members → Members
written_job ms = with_rows (with_lines ms (lines_in ms)) (rows_in ms (lines_in ms))
