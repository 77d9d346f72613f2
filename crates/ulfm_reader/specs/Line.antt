-- A step as it is written out.
use Rattle.std.specs.Prelude.{ℕ, List, map}
use Rattle.toml.specs.Data.{Data}
use Rattle.toml.specs.View.{view}
use Rattle.ulfm_reader.specs.declared.line.Line.{Line as Kept}

-- a step as it is written out, and the number that the item it comes from has in the file
pub record Line : Type 0 where
  pub place : ℕ
  pub step : Data

-- the line of a step
abbrev pub line : ℕ → Data → Line
line place step = record { place = place; step = step }

-- a line as it is kept
abbrev pub line_view : Kept → Line
line_view l = line l.place (view l.step)

-- the steps of lines
abbrev pub steps_of : List Line → List Data
steps_of lines = map (λ (line : Line). line.step) lines
