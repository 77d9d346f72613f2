use Rattle.std.proofs.Common.{◌≡◌, ◌∙◌, ℕ, All, Some, ap, ap₂, map, subst, sym}
use Rattle.std.specs.List.{list_all, list_any}
use Rattle.ulfm_job.specs.Job.{JobView}
use Rattle.ulfm_reader.specs.JobText.{rows_of}
use Rattle.ulfm_reader.specs.declared.reading.Reading.{Reading}
use Rattle.ulfm_command_line.specs.Stopped.{IsAsked, asked_view}
use Rattle.ulfm_run_reply.specs.Played.{AreOfRun, RanTo, ran, repeated, not_run, given_turns}
use Rattle.ulfm_forms.specs.Form.{trace_in}
use Rattle.ulfm_run_reply.specs.Brief.{lines_there, repeats_in}
use Rattle.ulfm_run_reply.specs.Tally.{tally}
use Rattle.ulfm_run_reply.specs.Asking.{as_asked}
use Rattle.ulfm_run_reply.specs.Unfinished.{has_unfinished, played_status}
use Rattle.ulfm_run_reply.specs.inside.Shown.{IsShown}
use Rattle.ulfm_run_reply.specs.inside.Tallied.{spots_told, told_in}
use Rattle.ulfm_run_reply.proofs.Failing.{run_failed, without_repeat}
use Rattle.ulfm_run_reply.proofs.Tallied.{repeats}
use Rattle.ulfm_run_reply.proofs.run.run_reply.Goals as goal

pub returns-in-Err : goal.returns-in-Err
returns-in-Err g c = rw (c.plain.ensures.status, c.plain.ensures.body) (not_run _ _ (subst (IsAsked c.args.options.place c.args.bytes.now) c.in-Err.is c.in_ok-read.ensures c.args.form))

pub returns-in-Ok-tally_of : goal.returns-in-Ok-tally_of
returns-in-Ok-tally_of g c =
    let given = c.given_turns-asked.ensures in
    let job : c.given_turns-asked.result.job ≡ given_turns c.args.options.turns c.in-Ok.asked.job = ap (λ (asked : Reading). asked.job) given in
    let read = subst (IsAsked c.args.options.place c.args.bytes.now) c.in-Ok.is c.in_ok-read.ensures in
    let runs = c.in-Ok-tally_of.ensures.runs in
    let names = c.given_turns-asked.result.names.items in
    rw (
      c.tally_reply.ensures.status ∙ ap₂ (played_status c.args.options.is_strict) (runs.4 ∙ ap (λ (asked : Reading). list_all (as_asked (rows_of asked.never.items) asked.job) runs.0) given)
          (runs.3 ∙ ap (λ (j : JobView). list_any (has_unfinished j) runs.0) job),
      c.tally_reply.ensures.body c.args.form ∙ ap₂ (told_in c.args.form c.args.options.is_brief names c.given_turns-asked.result.job c.in-Some.times) runs.5 runs.6
          ∙ ap (λ (n : ℕ). told_in c.args.form c.args.options.is_brief names c.given_turns-asked.result.job n (tally (map (trace_in c.args.form names c.given_turns-asked.result.job) runs.0))
          (map (lines_there c.args.form names c.given_turns-asked.result.job runs.0) (spots_told c.args.options.is_brief c.given_turns-asked.result.job))) (sym runs.1)
          ∙ repeats c.args.form c.args.options.is_brief names c.given_turns-asked.result.job runs.0
          ∙ ap (λ (asked : Reading). repeats_in c.args.form c.args.options.is_brief asked.names.items asked.job runs.0) given,
    )
    (repeated (asked_view c.in-Ok.asked) runs.0 (c.in-Some.is ∙ ap Some (sym runs.1)) read (subst (λ (j : JobView). All (AreOfRun j) runs.0) job runs.2))

pub returns-in-Err-tally_of : goal.returns-in-Err-tally_of
returns-in-Err-tally_of g c =
    let f = c.in-Err-tally_of.failure in
    let read = subst (IsAsked c.args.options.place c.args.bytes.now) c.in-Ok.is c.in_ok-read.ensures in
    let job : c.given_turns-asked.result.job ≡ given_turns c.args.options.turns c.in-Ok.asked.job = ap (λ (asked : Reading). asked.job) c.given_turns-asked.ensures in
    let shown : IsShown (given_turns c.args.options.turns c.in-Ok.asked.job) f = subst (λ (j : JobView). IsShown j f) job c.in-Err-tally_of.ensures.shown in
    rw (c.plain-in-Err-tally_of.ensures.status, c.plain-in-Err-tally_of.ensures.body, c.failed.ensures.status, c.failed.ensures.body) (run_failed c.args.form (asked_view c.in-Ok.asked) f _ read shown)

pub returns-in-Ok-ran : goal.returns-in-Ok-ran
returns-in-Ok-ran g c =
    let reports = c.in-Ok-ran.ran.reports.items in
    let is_at_rest = c.in-Ok-ran.ran.is_at_rest in
    let given = c.given_turns-asked.ensures in
    let job : c.given_turns-asked.result.job ≡ given_turns c.args.options.turns c.in-Ok.asked.job = ap (λ (asked : Reading). asked.job) given in
    let ran_to : RanTo (given_turns c.args.options.turns c.in-Ok.asked.job) reports is_at_rest = subst (λ (j : JobView). RanTo j reports is_at_rest) job c.in-Ok-ran.ensures.ran in
    let read = subst (IsAsked c.args.options.place c.args.bytes.now) c.in-Ok.is c.in_ok-read.ensures in
    rw (c.ran_reply.ensures.status, c.ran_reply.ensures.body, given) (ran (asked_view c.in-Ok.asked) reports is_at_rest (without_repeat c.args.options.repeat c.in_default.not-Some) read ran_to)

pub returns-in-Err-ran : goal.returns-in-Err-ran
returns-in-Err-ran g c =
    let f = c.in-Err-ran.failure in
    let read = subst (IsAsked c.args.options.place c.args.bytes.now) c.in-Ok.is c.in_ok-read.ensures in
    let job : c.given_turns-asked.result.job ≡ given_turns c.args.options.turns c.in-Ok.asked.job = ap (λ (asked : Reading). asked.job) c.given_turns-asked.ensures in
    let shown : IsShown (given_turns c.args.options.turns c.in-Ok.asked.job) f = subst (λ (j : JobView). IsShown j f) job c.in-Err-ran.ensures.shown in
    rw (c.plain-in-Err-ran.ensures.status, c.plain-in-Err-ran.ensures.body, c.failed-in-Err-ran.ensures.status, c.failed-in-Err-ran.ensures.body) (run_failed c.args.form (asked_view c.in-Ok.asked) f _ read shown)
