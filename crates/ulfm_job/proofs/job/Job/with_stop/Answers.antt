use Rattle.std.proofs.Common.{subst, ap, sym, ◌∙◌}
use Rattle.ulfm_job.proofs.Common.{IsJob, leaving, lists_of, naming, stopped_at}
use Rattle.ulfm_job.specs.Job.{moved_clause, moved_condition, moved_left, moved_naming}
use Rattle.ulfm_job.proofs.WithStop.{moved-as, seen-stopped, is_job-stopped, is_job-leaving}
use Rattle.ulfm_job.proofs.job.Job.with_stop.Goals as goal

pub new-job-requires : goal.new-job-requires
new-job-requires c =
    let steps = c.in_ok-steps.ensures.exact ∙ ap (stopped_at c.args.at) c.script-script.ensures in
    let moved = moved-as (moved_condition c.args.rank c.args.at) c.args.self.now c.args.rank _ _ c.self.inside.conditions.items _ c.script-script.ensures c.as_slice.ensures.value c.in_ok-conditions.ensures.exact in
    let kept = moved-as (moved_clause c.args.rank c.args.at) c.args.self.now c.args.rank _ _ c.self.inside.expected.items _ c.script-script.ensures c.as_slice-2.ensures.value c.in_ok-expected.ensures.exact in
    let lefts = moved-as (moved_left c.args.rank c.args.at) c.args.self.now c.args.rank _ _ c.self.inside.left.items _ c.script-script.ensures c.as_slice-4.ensures.value c.in_ok-left.ensures.exact in
    let named = moved-as (moved_naming c.args.rank c.args.at) c.args.self.now c.args.rank _ _ c.self.inside.namings.items _ c.script-script.ensures c.as_slice-5.ensures.value c.in_ok-namings.ensures.exact in
    let made = seen-stopped c.args.self.now _ _ c.args.rank c.args.at c.self.inside.scripts.items _ c.in_ok-steps.steps c.self.inside.conditions.items _ c.self.inside.expected.items _ c.self.inside.left.items _ c.self.inside.namings.items _ (sym c.self.view_is) (c.in_ok-scripts.ensures.exact ∙ ap lists_of c.as_slice-3.ensures.value) steps moved kept lefts named in
    is_job-leaving _ _ _ (subst IsJob (sym made) (is_job-stopped _ c.args.rank c.args.at c.len.ensures.ranges c.requires.inside c.requires.place (λ e. c.if-len-eq-MOST_STEPS.false (c.len.ensures.exact ∙ e))))

pub returns-clause-exact : goal.returns-clause-exact
returns-clause-exact c =
    let steps = c.in_ok-steps.ensures.exact ∙ ap (stopped_at c.args.at) c.script-script.ensures in
    let moved = moved-as (moved_condition c.args.rank c.args.at) c.args.self.now c.args.rank _ _ c.self.inside.conditions.items _ c.script-script.ensures c.as_slice.ensures.value c.in_ok-conditions.ensures.exact in
    let kept = moved-as (moved_clause c.args.rank c.args.at) c.args.self.now c.args.rank _ _ c.self.inside.expected.items _ c.script-script.ensures c.as_slice-2.ensures.value c.in_ok-expected.ensures.exact in
    let lefts = moved-as (moved_left c.args.rank c.args.at) c.args.self.now c.args.rank _ _ c.self.inside.left.items _ c.script-script.ensures c.as_slice-4.ensures.value c.in_ok-left.ensures.exact in
    let named = moved-as (moved_naming c.args.rank c.args.at) c.args.self.now c.args.rank _ _ c.self.inside.namings.items _ c.script-script.ensures c.as_slice-5.ensures.value c.in_ok-namings.ensures.exact in
    c.naming.ensures ∙ ap (naming _) (c.leaving.ensures ∙ ap (leaving _) c.new-job.ensures) ∙ seen-stopped c.args.self.now _ _ c.args.rank c.args.at c.self.inside.scripts.items _ c.in_ok-steps.steps c.self.inside.conditions.items _ c.self.inside.expected.items _ c.self.inside.left.items _ c.self.inside.namings.items _ (sym c.self.view_is) (c.in_ok-scripts.ensures.exact ∙ ap lists_of c.as_slice-3.ensures.value) steps moved kept lefts named
