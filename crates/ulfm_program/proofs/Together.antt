-- Rows of `never` that no schedule has, and reports of one.
use Rattle.std.proofs.Common.{◌≡◌, ℕ, Bool, true, false, List, refl, sym, subst, ◌∙◌, Option, Some, None, slice_get, get_or}
use Rattle.std.proofs.lemmas.Bool.{and_parts, false≢true}
use Rattle.std.proofs.lemmas.List.Folds.{list_any_none}
use Rattle.std.proofs.lemmas.List.Sums.{AllPass-from_list_all}
use Rattle.std.specs.List.{list_all}
use Rattle.ulfm_job.specs.Job.{JobView}
use Rattle.ulfm_job.specs.declared.clause.Clause.{Clause}
use Rattle.ulfm_answer.specs.Report.{Report}
use Rattle.ulfm_command_line.specs.Asking.{is_looked_at}
use Rattle.ulfm_outcomes_spec.specs.Scheduled.{AreOfSchedule, HasAnswer}
use Rattle.ulfm_outcomes_spec.proofs.StayAway.{answers_stay_away}
use Rattle.ulfm_outcomes_reply.specs.Wanted.{NeverComes}
use Rattle.ulfm_run_reply.specs.Asking.{has_come, holds_among, holds_in}
use Rattle.ulfm_run_reply.specs.Played.{given_turns}
use Rattle.ulfm_program.specs.Laws.{RowsStayAway}

module _ (job : JobView) (reports : List Report) (h : AreOfSchedule job reports) where
  -- an answer that holds among the reports is one of them
  among : (c : Clause) → holds_among reports c ≡ true → HasAnswer reports c
  among c is = by (slice_get reports c.rank) refl is
    where
      by : (o : Option Report) → slice_get reports c.rank ≡ o → holds_in o c ≡ true → HasAnswer reports c
      by None there holds = absurd (false≢true holds)
      by (Some told) there holds = record { told = told; here = there; holds = holds }

  -- which rows are looked at doesn't go by turns
  looked : (turns : Option ℕ) (row : List Clause) → is_looked_at (given_turns turns job) row ≡ is_looked_at job row
  looked None row = refl
  looked (Some n) row = refl

  stays_away : (turns : Option ℕ) (row : List Clause) → NeverComes job row → has_come (given_turns turns job) reports row ≡ false
  stays_away turns row never = by (has_come (given_turns turns job) reports row) refl
    where
      by : (b : Bool) → has_come (given_turns turns job) reports row ≡ b → b ≡ false
      by false is = refl
      by true is =
          let parts = and_parts (is_looked_at (given_turns turns job) row) (list_all (holds_among reports) row) is in
          let none = never (sym (looked turns row) ∙ parts.0) in
          absurd (answers_stay_away job row none.0 reports none.1 none.2 h (λ c there. among c (subst (λ (x : Clause). holds_among reports x ≡ true) there.2 (AllPass-from_list_all (holds_among reports) row parts.1 there.0 c there.1))))

pub rows_stay_away : RowsStayAway
rows_stay_away asked turns reports none h =
    list_any_none (has_come (given_turns turns asked.job) reports) asked.rows (λ k d low. stays_away asked.job reports h turns (get_or asked.rows k d) (none k d low))
