-- Steps for several ranks, one after the other.
use Rattle.std.specs.Prelude.{ℕ, ◌+◌, List, [], ◌∷◌, ◌++◌, map}
use Rattle.toml.specs.Data.{Data}
use Rattle.ulfm_reader.specs.Line.{Line, line}
use Rattle.ulfm_reader.specs.Ranks.{written_step}

-- the lines of a step of the file
abbrev pub step_lines : ℕ → ℕ → Data → List Line
step_lines ranks place step = map (line place) (written_step ranks step)

-- lines, and behind them those of these steps, the first of which has this number
abbrev pub shared_behind : ℕ → ℕ → List Line → List Data → List Line
shared_behind ranks place lines [] = lines
shared_behind ranks place lines (d ∷ ds) = shared_behind ranks (place + 1) (lines ++ step_lines ranks place d) ds

-- these steps, each for its ranks
abbrev pub shared_out : ℕ → List Data → List Line
shared_out ranks ds = shared_behind ranks 0 [] ds
