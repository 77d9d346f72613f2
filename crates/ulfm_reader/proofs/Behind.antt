-- Steps written out, one after the other.
use Rattle.std.proofs.Common.{◌≡◌, ℕ, ◌+◌, ◌<◌, ◌≤◌, List, [], ◌∷◌, ◌++◌, length, map, get_or, drop, refl, arith, length-append}
use Rattle.std.proofs.lemmas.List.{drop_more}
use Rattle.toml.specs.Data.{Data}
use Rattle.ulfm_reader.proofs.WrittenOut.{Line, Value, view}
use Rattle.ulfm_reader.specs.Shared.{step_lines, shared_behind}

-- no line is taken away
pub longer : (ranks place : ℕ) (lines : List Line) (ds : List Data) → length lines ≤ length (shared_behind ranks place lines ds)
longer ranks place lines [] = omega arith
longer ranks place lines (d ∷ ds) = omega (arith, longer ranks (place + 1) (lines ++ step_lines ranks place d) ds, length-append lines (step_lines ranks place d))

module _ (ranks i : ℕ) (lines : List Line) (steps : List Value) where
  pub behind-one : (v : Value) → i < length steps → v ≡ get_or steps i v
      → shared_behind ranks i lines (map view (drop i steps)) ≡ shared_behind ranks (i + 1) (lines ++ step_lines ranks i (view v)) (map view (drop (i + 1) steps))
  behind-one v lt here = rw (drop_more steps i v lt, ← here) refl
