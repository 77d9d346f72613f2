-- Blocks of steps, in their iterations.
use Rattle.std.proofs.Common.{◌≡◌, ℕ, zero, suc, ◌+◌, ◌-◌, ◌<◌, ◌≤◌, List, ◌++◌, length, map, get_or, drop, Bool, true, false, ◌||◌, Option, Some, None, IfSome, refl, sym, ap, ◌∙◌, arith, length-append}
use Rattle.std.proofs.lemmas.List.{append_assoc, append-nil, drop_more, length-map, map-append}
use Rattle.std.specs.List.{list_any}
use Rattle.toml.specs.Data.{Data}
use Rattle.ulfm_reader.proofs.WrittenOut.{Kept, Line, Value, line, line_view, view}
use Rattle.ulfm_reader.specs.Blocks.{Block, lines_of_block, repeated}
use Rattle.ulfm_reader.specs.Iterations.{iterated, iterations}
use Rattle.ulfm_reader.specs.Line.{steps_of}
use Rattle.ulfm_reader.specs.Members.{in_table}
use Rattle.ulfm_reader.specs.Shared.{shared_out}

module _ (p : Data → Bool) (vs : List Value) (i : ℕ) (v : Value) (lt : i < length vs) (here : v ≡ get_or vs i v) where
  any-one : list_any p (map view (drop i vs)) ≡ (p (view v) || list_any p (map view (drop (i + 1) vs)))
  any-one = rw (drop_more vs i v lt, ← here) refl

  -- one of the values is such a one
  pub any-here : p (view v) ≡ true → list_any p (map view (drop i vs)) ≡ true
  any-here is = any-one ∙ rw is refl

  -- this value isn't
  pub any-past : p (view v) ≡ false → list_any p (map view (drop i vs)) ≡ list_any p (map view (drop (i + 1) vs))
  any-past is = any-one ∙ rw is refl

-- one iteration, and those behind it
iterations-one : (block : List Data) (i n : ℕ) → i < n → iterations block i (n - i) ≡ map (in_table (iterated block i)) block ++ iterations block (i + 1) (n - (i + 1))
iterations-one block i n lt = let one : n - i ≡ suc (n - (i + 1)) = omega arith in rw one refl

pub iterations-longer : (block : List Data) (i n : ℕ) → 0 < n → length block ≤ length (iterations block i n)
iterations-longer block i zero lt = absurd (omega (arith, lt))
iterations-longer block i (suc n) lt = omega (arith, length-append (map (in_table (iterated block i)) block) (iterations block (i + 1) n), length-map block (in_table (iterated block i)))

module _ (place i n : ℕ) (block : List Data) (lines : List Line) (total : List Line) where
  -- the lines of one more iteration
  pub iterations-on : (more : List Line) → i < n → more ≡ lines ++ map (line place) (map (in_table (iterated block i)) block)
      → lines ++ map (line place) (iterations block i (n - i)) ≡ total → more ++ map (line place) (iterations block (i + 1) (n - (i + 1))) ≡ total
  iterations-on more lt grown so_far =
      let one = map (in_table (iterated block i)) block in
      let rest = iterations block (i + 1) (n - (i + 1)) in
      ap (λ (ls : List Line). ls ++ map (line place) rest) grown
      ∙ append_assoc lines (map (line place) one) (map (line place) rest)
      ∙ ap (λ (ls : List Line). lines ++ ls) (sym (map-append (line place) one rest))
      ∙ ap (λ (ds : List Data). lines ++ map (line place) ds) (sym (iterations-one block i n lt))
      ∙ so_far

  -- no iteration is left
  pub iterations-done : n ≤ i → lines ++ map (line place) (iterations block i (n - i)) ≡ total → lines ≡ total
  iterations-done le so_far =
      let none : n - i ≡ 0 = omega arith in
      sym (append-nil lines) ∙ ap (λ (k : ℕ). lines ++ map (line place) (iterations block i k)) (sym none) ∙ so_far

-- so many lines there are on both sides
pub same_lengths : (place : ℕ) (lines more : List Kept) (ds es : List Data) → map line_view lines ++ map (line place) ds ≡ map line_view more ++ map (line place) es
    → length lines + length ds ≡ length more + length es
same_lengths place lines more ds es same = omega (
  arith,
  ap length same,
  length-append (map line_view lines) (map (line place) ds),
  length-append (map line_view more) (map (line place) es),
  length-map lines line_view,
  length-map more line_view,
  length-map ds (line place),
  length-map es (line place),
)

repeated-longer : (steps : List Data) (times : Option ℕ) → IfSome times (λ n. 0 < n) → length steps ≤ length (repeated steps times)
repeated-longer steps None some = omega arith
repeated-longer steps (Some n) some = iterations-longer steps 0 n some

-- a block has as many lines as its steps have, at least
pub block-longer : (ranks place : ℕ) (block : Block) → IfSome block.times (λ n. 0 < n) → length (shared_out ranks block.steps) ≤ length (lines_of_block ranks place block)
block-longer ranks place block some =
    let steps = steps_of (shared_out ranks block.steps) in
    omega (
      arith,
      repeated-longer steps block.times some,
      length-map (shared_out ranks block.steps) (λ (l : Line). l.step),
      length-map (repeated steps block.times) (line place),
    )
