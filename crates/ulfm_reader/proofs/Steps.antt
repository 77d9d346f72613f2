-- The steps of an array, one after the other.
use Rattle.std.proofs.Common.{◌≡◌, ℕ, ◌+◌, ◌<◌, ◌≤◌, List, [], ◌∷◌, length, map, get_or, drop, Bool, cond, ◌&&◌, Option, Some, is_some, Result, Ok, Err, refl, sym, ap, ◌∙◌, arith}
use Rattle.std.proofs.lemmas.List.{drop_all, drop_more}
use Rattle.ulfm_reader.proofs.Values.{listed-view}
use Rattle.ulfm_reader.specs.Lines.{line_view, written_out}
use Rattle.ulfm_reader.specs.Members.{listed}
use Rattle.ulfm_reader.specs.declared.line.Line.{Line as Kept}
use Rattle.ulfm_reader.proofs.Common.{Value, view, items_view, JobFault, Draft, items_len, list_all, ◌>>=◌}
use Rattle.toml.specs.Data.{Data, as_table, as_array}
use Rattle.ulfm_job.specs.declared.fault.Fault.TheVariants.{BadKey}
use Rattle.ulfm_reader.specs.JobText.{Head, lines_of, step_at, steps_of, are_tables, step_items_in}

module _ (ranks i : ℕ) (draft : Draft) (lines : List Kept) (line : Kept) (total : Result Draft JobFault) (lt : i < length lines) (here : line ≡ get_or lines i line) where
  -- the lines that follow one give what they give after it
  one : steps_of ranks draft (map line_view (drop i lines)) ≡ (step_at ranks line.place draft (view line.step) >>= (λ more. steps_of ranks more (map line_view (drop (i + 1) lines))))
  unfolding steps_of
  one = rw (drop_more lines i line lt, ← here) refl

  pub goes_on : (more : Draft) → step_at ranks line.place draft (view line.step) ≡ Ok more
      → steps_of ranks draft (map line_view (drop i lines)) ≡ total → steps_of ranks more (map line_view (drop (i + 1) lines)) ≡ total
  goes_on more read so_far = sym (one ∙ rw read refl) ∙ so_far

  pub ends : (e : JobFault) → step_at ranks line.place draft (view line.step) ≡ Err e
      → steps_of ranks draft (map line_view (drop i lines)) ≡ total → total ≡ Err e
  ends e read so_far = sym so_far ∙ one ∙ rw read refl

pub is_done : (ranks i : ℕ) (draft : Draft) (lines : List Kept) (total : Result Draft JobFault) → length lines ≤ i → steps_of ranks draft (map line_view (drop i lines)) ≡ total → total ≡ Ok draft
unfolding steps_of
is_done ranks i draft lines total le so_far =
    let one : steps_of ranks draft (map line_view (drop i lines)) ≡ Ok draft = rw (drop_all i lines le) refl in
    sym so_far ∙ one

-- the test of the code and of the definition
pub are_tables-view : (vs : List Value) → list_all (λ v. is_some (as_table (view v))) vs ≡ are_tables (items_view vs)
are_tables-view [] = refl
are_tables-view (v ∷ vs) = ap (λ b. is_some (as_table (view v)) && b) (are_tables-view vs)

pub tables_found : (d : Data) (vs : List Value) (found : Option Data) (good : Bool) → Some d ≡ found → Some (items_view vs) ≡ as_array d → good ≡ list_all (λ v. is_some (as_table (view v))) vs
    → step_items_in found ≡ cond good (Ok (items_view vs)) (Err BadKey)
tables_found d vs found good a b c = rw (← a, ← b, ← are_tables-view vs, ← c) refl

pub items_len-view : (vs : List Value) → items_len (items_view vs) ≡ length vs
items_len-view [] = refl
items_len-view (v ∷ vs) = ap (λ n. n + 1) (items_len-view vs) ∙ (omega arith)

-- the lines of steps, as they are kept
pub lines-view : (h : Head) (vs : List Value) (lines : List Kept) → h.steps ≡ items_view vs → map line_view lines ≡ written_out h.ranks (map view vs) → lines_of h ≡ map line_view lines
lines-view h vs lines steps written = ap (λ ds. written_out h.ranks (listed ds)) steps ∙ ap (written_out h.ranks) (listed-view vs) ∙ sym written
