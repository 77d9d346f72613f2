-- Provisos of rows, one after the other.
use Rattle.std.proofs.Common.{◌≡◌, ℕ, ◌+◌, ◌<◌, ◌≤◌, List, length, get_or, drop, Result, Ok, Err, refl, ap, ◌∙◌}
use Rattle.std.proofs.lemmas.List.{drop_all}
use Rattle.toml.specs.Data.{as_table}
use Rattle.toml.proofs.Views.{items_view-drop}
use Rattle.ulfm_job.specs.declared.fault.Fault.{Fault}
use Rattle.ulfm_reader.proofs.Claims.{in_job-err, in_job-ok}
use Rattle.ulfm_reader.proofs.Common.{JobFault, Name, Value, items_view, view, ◌>>=◌}
use Rattle.ulfm_reader.specs.JobText.{in_job}
use Rattle.ulfm_reader.specs.Provisos.{if_named, row_proviso_onto, row_provisos_onto}
use Rattle.ulfm_reader.specs.declared.proviso.Proviso.{Proviso}

-- the rows that follow one give what they give after it
provisos-one : (n : ℕ) (before : List Proviso) (vs : List Value) (v : Value) (i : ℕ) → i < length vs → v ≡ get_or vs i v
    → row_provisos_onto n before (items_view (drop i vs)) ≡ (row_proviso_onto n before (as_table (view v)) >>= (λ more. row_provisos_onto (n + 1) more (items_view (drop (i + 1) vs))))
unfolding row_provisos_onto
provisos-one n before vs v i lt here = rw (items_view-drop vs i v lt, ← here) refl

pub provisos-on : (n : ℕ) (before more : List Proviso) (vs : List Value) (v : Value) (i : ℕ) → i < length vs → v ≡ get_or vs i v → in_job (row_proviso_onto n before (as_table (view v))) ≡ Ok more
    → row_provisos_onto n before (items_view (drop i vs)) ≡ row_provisos_onto (n + 1) more (items_view (drop (i + 1) vs))
provisos-on n before more vs v i lt here read =
    provisos-one n before vs v i lt here ∙ ap (λ (r : Result (List Proviso) Fault). r >>= (λ more. row_provisos_onto (n + 1) more (items_view (drop (i + 1) vs)))) (in_job-ok _ more read)

pub provisos-end : (n : ℕ) (before : List Proviso) (vs : List Value) (v : Value) (e : JobFault) (i : ℕ) → i < length vs → v ≡ get_or vs i v → in_job (row_proviso_onto n before (as_table (view v))) ≡ Err e
    → in_job (row_provisos_onto n before (items_view (drop i vs))) ≡ Err e
provisos-end n before vs v e i lt here read = ap in_job (provisos-one n before vs v i lt here) ∙ in_job-err _ _ e read

pub provisos-done : (n : ℕ) (before : List Proviso) (vs : List Value) (i : ℕ) → length vs ≤ i → row_provisos_onto n before (items_view (drop i vs)) ≡ Ok before
unfolding row_provisos_onto
provisos-done n before vs i le = rw (drop_all i vs le) refl

-- of provisos that were found it is asked whether steps have their names
pub named_found : (names : List Name) (r : Result (List Proviso) Fault) (found : List Proviso) → in_job r ≡ Ok found → in_job (r >>= if_named names) ≡ in_job (if_named names found)
named_found names r found read = ap (λ (x : Result (List Proviso) Fault). in_job (x >>= if_named names)) (in_job-ok r found read)
