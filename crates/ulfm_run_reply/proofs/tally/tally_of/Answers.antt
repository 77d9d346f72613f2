use Rattle.std.proofs.Common.{◌≤◌, [], ◌∷◌, ◌++◌, ◌+◌, ◌&&◌, ◌||◌, ◌∙◌, arith, ap, ap₂, length-append, map, refl, subst, sym}
use Rattle.std.proofs.lemmas.List.Elements.{All-nil, All-push}
use Rattle.ulfm_run_reply.specs.Played.{AreOfRun}
use Rattle.ulfm_reader.specs.JobText.{rows_of as rows_asked}
use Rattle.ulfm_forms.specs.Form.{trace_in}
use Rattle.ulfm_run_reply.specs.Brief.{with_run}
use Rattle.ulfm_run_reply.specs.Tally.{counted_once, rows_of}
use Rattle.ulfm_run_reply.specs.declared.tally.Counted.{Counted}
use Rattle.ulfm_run_reply.specs.inside.Tallied.{AreFew, spots_told}
use Rattle.ulfm_run_reply.specs.Asking.{as_asked}
use Rattle.ulfm_run_reply.specs.Unfinished.{has_unfinished}
use Rattle.ulfm_run_reply.proofs.Tallied.{one_more, some_more, all_more, lines_more}
use Rattle.ulfm_run_reply.proofs.tally.tally_of.Goals as goal

pub loop-done-init : goal.loop-done-init
loop-done-init g c =
    let fresh = c.in-Ok.ensures.fresh in (
      omega arith,
      subst (AreFew 0) (sym fresh.0) (All-nil (λ (row : Counted). row.count ≤ 0)),
      c.in-Ok.ensures.few,
      ([], refl, All-nil (AreOfRun c.args.asked.now.job), fresh.1, fresh.2, ap rows_of fresh.0, c.in-Ok.ensures.spots),
    )

pub loop-done-preserved : goal.loop-done-preserved
loop-done-preserved g c =
    let known = c.loop-done.invariant.3 in
    let asked = c.args.asked.now in
    let names = asked.names.items in
    let told = trace_in c.args.form names asked.job in
    let is_bad = has_unfinished asked.job in
    let is_good = as_asked (rows_asked asked.never.items) asked.job in
    let runs = known.0 in
    let reports = c.in_ok-ran.ran.reports.items in
    let counted = c.in-Ok-counted_run.ensures in
    let value = c.as_slice.ensures.value in (
      omega (arith, c.loop-done-test.true),
      counted.few,
      counted.few_at,
      (
        runs ++ reports ∷ [],
        length-append runs (reports ∷ []) ∙ ap (λ n. n + 1) known.1,
        All-push (AreOfRun asked.job) runs reports known.2 c.in_ok-ran.ensures.ran.run,
        counted.unfinished ∙ ap₂ (λ b rs. b || is_bad rs) known.3 value ∙ sym (some_more is_bad runs reports),
        counted.met ∙ ap₂ (λ b rs. b && is_good rs) known.4 value ∙ sym (all_more is_good runs reports),
        counted.traces ∙ ap₂ (λ rows rs. counted_once rows (told rs)) known.5 value ∙ sym (one_more told runs reports),
        counted.lines ∙ ap₂ (λ places rs. map (with_run c.args.form names asked.job rs) places) known.6 value
            ∙ lines_more c.args.form names asked.job runs reports (spots_told c.args.options.is_brief asked.job),
      ),
    )
