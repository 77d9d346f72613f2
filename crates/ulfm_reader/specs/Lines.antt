-- The steps of a job, written out.
use Rattle.std.specs.Prelude.{ℕ, List, []}
use Rattle.toml.specs.Data.{Data}
use Rattle.ulfm_reader.specs.Blocks.{items_behind}
use Rattle.ulfm_reader.specs.Guards.{guarded_from}
pub use Rattle.ulfm_reader.specs.Line.{Line, line, line_view, steps_of}

-- the lines of a job's items, by blocks and by ranks
abbrev pub lines_of : ℕ → List Data → List Line
lines_of ranks items = items_behind ranks 0 [] items

-- the steps of a job of so many ranks, written out
abbrev pub written_out : ℕ → List Data → List Line
written_out ranks items = guarded_from items (lines_of ranks items) 0 (lines_of ranks items)
