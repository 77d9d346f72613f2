-- Items written out, one after the other, and lines with guards.
use Rattle.std.proofs.Common.{◌≡◌, ℕ, ◌+◌, ◌<◌, ◌≤◌, List, [], ◌∷◌, ◌++◌, length, map, get_or, drop, refl, arith, length-append}
use Rattle.std.proofs.lemmas.List.{drop_more}
use Rattle.toml.specs.Data.{Data}
use Rattle.ulfm_reader.proofs.WrittenOut.{Line, Value, view}
use Rattle.ulfm_reader.specs.Blocks.{item_lines, items_behind}
use Rattle.ulfm_reader.specs.Guards.{guarded_from}

-- no line is taken away
pub items-longer : (ranks place : ℕ) (lines : List Line) (ds : List Data) → length lines ≤ length (items_behind ranks place lines ds)
items-longer ranks place lines [] = omega arith
items-longer ranks place lines (d ∷ ds) = omega (arith, items-longer ranks (place + 1) (lines ++ item_lines ranks place ds d) ds, length-append lines (item_lines ranks place ds d))

module _ (ranks i : ℕ) (lines : List Line) (items : List Value) where
  pub items-one : (v : Value) → i < length items → v ≡ get_or items i v
      → items_behind ranks i lines (map view (drop i items)) ≡ items_behind ranks (i + 1) (lines ++ item_lines ranks i (map view (drop (i + 1) items)) (view v)) (map view (drop (i + 1) items))
  items-one v lt here = rw (drop_more items i v lt, ← here) refl

-- as many lines with guards as without
pub length-guarded_from : (items : List Data) (all : List Line) (k : ℕ) (lines : List Line) → length (guarded_from items all k lines) ≡ length lines
length-guarded_from items all k [] = refl
length-guarded_from items all k (l ∷ lines) = omega (arith, length-guarded_from items all (k + 1) lines)
