-- The rows of a list, and what goals ask for.
use Rattle.std.proofs.Common.{◌≡◌, ℕ, ◌+◌, Bool, true, false, List, drop, slice_get, Some}
use Rattle.std.specs.List.{list_any}
use Rattle.ulfm_job.specs.declared.clause.Clause.{Clause}
use Rattle.ulfm_outcomes_list.specs.declared.open_step.OpenStep.{OpenStep}
use Rattle.ulfm_outcomes_list.specs.Goals.{tells, tells_open}
use Rattle.ulfm_outcomes_list.proofs.Any.{any_here, any_on}

module _ (found : List (List ℕ)) (place : ℕ) (row : List ℕ) (whole : Bool) (here : slice_get found place ≡ Some row) where
  -- the row of a place tells of an answer, or doesn't
  pub tells_here : (c : Clause) → list_any (tells c) (drop place found) ≡ whole → tells c row ≡ true → true ≡ whole
  tells_here c so_far passes = any_here (tells c) found place row whole so_far here passes

  pub tells_on : (c : Clause) → list_any (tells c) (drop place found) ≡ whole → tells c row ≡ false → list_any (tells c) (drop (place + 1) found) ≡ whole
  tells_on c so_far fails = any_on (tells c) found place row whole so_far here fails

  -- it tells of an open step, or doesn't
  pub open_here : (o : OpenStep) → list_any (tells_open o) (drop place found) ≡ whole → tells_open o row ≡ true → true ≡ whole
  open_here o so_far passes = any_here (tells_open o) found place row whole so_far here passes

  pub open_on : (o : OpenStep) → list_any (tells_open o) (drop place found) ≡ whole → tells_open o row ≡ false → list_any (tells_open o) (drop (place + 1) found) ≡ whole
  open_on o so_far fails = any_on (tells_open o) found place row whole so_far here fails
