-- Counting one more text, row by row, and one more run.
use Rattle.std.proofs.Common.{◌≡◌, ◌<◌, ℕ, Bool, ◌+◌, ◌&&◌, ◌||◌, List, [], ◌∷◌, ◌++◌, Option, Some, None, true, false, take, drop, set, get_or, length, take-append-drop, map, bytes_eq, string_bytes, append_assoc, drop-set-lt, arith, refl, sym, ap, ap₂, subst, ◌∙◌, if◌then◌else◌}
use Rattle.std.specs.List.{cons_option, filter_map, list_all, list_any}
use Rattle.std.proofs.Math.Bool.{and-true, or-false}
use Rattle.std.proofs.lemmas.List.{append-nil, drop_more, get_or_default, map-append, take_more_set}
use Rattle.std.proofs.lemmas.List.Elements.{filter_map-append}
use Rattle.std.proofs.lemmas.List.Folds.{list_all-append, list_any-append}
use Rattle.std.proofs.lemmas.List.Sums.{fold-append}
use Rattle.ulfm_answer.specs.Report.{Report}
use Rattle.ulfm_job.specs.Job.{JobView}
use Rattle.ulfm_forms.specs.Form.{trace_in}
use Rattle.ulfm_forms.specs.declared.form.Form.{Form}
use Rattle.ulfm_reader.specs.declared.name.Name.{Name}
use Rattle.ulfm_run_reply.specs.Brief.{Lines, Spot, line_at, line_counted, lines_there, repeats_in, with_run}
use Rattle.ulfm_run_reply.specs.declared.tally.Counted.{Counted}
use Rattle.ulfm_run_reply.specs.inside.Tallied.{spots_told, told_in}
use Rattle.ulfm_run_reply.specs.Tally.{Row, counted, counted_once, row_of, rows_of, tally}

-- the first i rows, and then the others with one more text
abbrev pub counted_from : List Counted → Row → ℕ → List Row
counted_from rows m i = rows_of (take i rows) ++ counted (rows_of (drop i rows)) m

same : (row : Counted) (rest : List Counted) (m : Row) → bytes_eq (string_bytes row.text) m.0 ≡ true → counted (rows_of (row ∷ rest)) m ≡ (string_bytes row.text, row.count + m.1) ∷ rows_of rest
same row rest m is = ap (λ b. if b then (string_bytes row.text, row.count + m.1) ∷ rows_of rest else row_of row ∷ counted (rows_of rest) m) is

joined : (front : List Counted) (row : Counted) (rest : List Row) → rows_of (front ++ row ∷ []) ++ rest ≡ rows_of front ++ row_of row ∷ rest
joined front row rest = ap (λ rows. rows ++ rest) (map-append row_of front (row ∷ [])) ∙ append_assoc (rows_of front) (row_of row ∷ []) rest

-- the count of a row of this text rises; the row was read twice
pub found : (rows : List Counted) (m : Row) (i : ℕ) (q p new : Counted) → i < length rows → q ≡ get_or rows i q → p ≡ get_or rows i p
    → bytes_eq (string_bytes q.text) m.0 ≡ true → new.text ≡ p.text → new.count ≡ p.count + m.1 → rows_of (set rows i new) ≡ counted_from rows m i
found rows m i q p new lt read again is text count =
    let rest = drop (i + 1) rows in
    let row = get_or rows i q in
    let both : p ≡ row = again ∙ get_or_default rows i p q lt in
    let parts : set rows i new ≡ (take i rows ++ new ∷ []) ++ rest =
    sym (take-append-drop (i + 1) (set rows i new)) ∙ ap₂ (λ xs ys. xs ++ ys) (take_more_set rows i new lt) (drop-set-lt (i + 1) rows i new (omega arith)) in
    ap rows_of parts ∙ map-append row_of (take i rows ++ new ∷ []) rest ∙ joined (take i rows) new (rows_of rest)
    ∙ ap₂ (λ a n. rows_of (take i rows) ++ (string_bytes a, n) ∷ rows_of rest) (text ∙ ap (λ (r : Counted). r.text) both) (count ∙ ap (λ (r : Counted). r.count + m.1) both)
    ∙ sym (ap (λ ys. rows_of (take i rows) ++ ys) (same row rest m (subst (λ (r : Counted). bytes_eq (string_bytes r.text) m.0 ≡ true) read is)))
    ∙ sym (ap (λ xs. rows_of (take i rows) ++ counted (rows_of xs) m) (drop_more rows i q lt))

-- one more run is one more trace
pub one_more : (told : List Report → List ℕ) (runs : List (List Report)) (reports : List Report) → tally (map told (runs ++ reports ∷ [])) ≡ counted_once (tally (map told runs)) (told reports)
one_more told runs reports = ap tally (map-append told runs (reports ∷ [])) ∙ fold-append counted_once [] (map told runs) (told reports ∷ [])

-- and may be the one that left a step unfinished
pub some_more : (is_bad : List Report → Bool) (runs : List (List Report)) (reports : List Report) → list_any is_bad (runs ++ reports ∷ []) ≡ (list_any is_bad runs || is_bad reports)
some_more is_bad runs reports = list_any-append is_bad runs (reports ∷ []) ∙ ap (λ b. list_any is_bad runs || b) (or-false (is_bad reports))

-- and may be the one whose answers aren't as the job asks
pub all_more : (is_good : List Report → Bool) (runs : List (List Report)) (reports : List Report) → list_all is_good (runs ++ reports ∷ []) ≡ (list_all is_good runs && is_good reports)
all_more is_good runs reports = list_all-append is_good runs (reports ∷ []) ∙ ap (λ b. list_all is_good runs && b) (and-true (is_good reports))

-- a line beside others is one more text, if there is one
counted_after : (lines : List (List ℕ)) (line : Option (List ℕ)) → line_counted (tally lines) line ≡ tally (lines ++ cons_option line [])
counted_after lines None = ap tally (sym (append-nil lines))
counted_after lines (Some line) = sym (fold-append counted_once [] lines (line ∷ []))

-- one more run is one more line at each place where it has one
pub lines_more : (form : Form) (names : List Name) (job : JobView) (runs : List (List Report)) (reports : List Report) (places : List Spot)
    → map (with_run form names job reports) (map (lines_there form names job runs) places) ≡ map (lines_there form names job (runs ++ reports ∷ [])) places
lines_more form names job runs reports [] = refl
lines_more form names job runs reports (spot ∷ places) =
    let at = line_at form names job spot in
    let here = counted_after (filter_map at runs) (at reports) ∙ ap tally (sym (filter_map-append at runs (reports ∷ []))) in
    ap₂ (λ (rows : List Row) (lines : List Lines). (spot, rows) ∷ lines) here (lines_more form names job runs reports places)

-- what is told of runs by their traces and lines
pub repeats : (form : Form) (is_brief : Bool) (names : List Name) (job : JobView) (runs : List (List Report))
    → told_in form is_brief names job (length runs) (tally (map (trace_in form names job) runs)) (map (lines_there form names job runs) (spots_told is_brief job)) ≡ repeats_in form is_brief names job runs
repeats form true names job runs = refl
repeats form false names job runs = refl
