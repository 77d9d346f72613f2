use Rattle.std.specs.Prelude.{⊤}
use Rattle.std.proofs.Common.{rules, ◌≡◌, ℕ, Bool, true, subst, ◌∙◌}
use Rattle.ulfm_run.proofs.Common.{JobView, script_at, WentOn}
use Rattle.ulfm_run.proofs.Working.{goes-on, has-answered, works-on}
use Rattle.ulfm_run.specs.inside.Turns.{IsOver}
use Rattle.ulfm_run.proofs.at_work.AtWork.go_through.Goals as goal

pub loop-smaller : goal.loop-smaller
loop-smaller g c =
    let polled : c.go_on.result.1 ≡ true = search rules in
    let same = c.loop.invariant.same_job in
    let W : JobView → ℕ → Bool → Type 0 = λ (j : JobView) r b. WentOn (script_at j r) j.turns c.loop.self.worker.player.player c.go_on.new.self.worker.player.player b in
    (subst (W c.args.self.now.job.now c.args.self.now.me) polled (goes-on (λ (j : JobView) r. W j r c.go_on.result.1) same.0 same.1 c.loop.invariant.keeps c.go_on.ensures.keeps c.go_on.ensures.polls).1).1

pub loop-preserved : goal.loop-preserved
loop-preserved g c =
    let same = c.loop.invariant.same_job in
    let on = goes-on (λ (j : JobView) r. ⊤) same.0 same.1 c.loop.invariant.keeps c.go_on.ensures.keeps tt in
    record {
      same_job = (c.go_on.ensures.same_job.0 ∙ same.0, c.go_on.ensures.same_job.1 ∙ same.1);
      keeps = on.0;
    }

pub serve-requires-clause-at_work : goal.serve-requires-clause-at_work
serve-requires-clause-at_work g c =
    let same = c.loop.invariant.same_job in
    let on = goes-on (λ (j : JobView) r. ⊤) same.0 same.1 c.loop.invariant.keeps c.go_on.ensures.keeps tt in
    works-on (c.go_on.ensures.same_job.0 ∙ same.0) (c.go_on.ensures.same_job.1 ∙ same.1) on.0 c.requires.at_work

pub returns : goal.returns
returns g c =
    let same = c.loop.invariant.same_job in
    let on = goes-on (λ (j : JobView) r. ⊤) same.0 same.1 c.loop.invariant.keeps c.go_on.ensures.keeps tt in
    let ends = goes-on (λ (j : JobView) r. IsOver (script_at j r) c.serve.new.self.worker.player.player) (c.go_on.ensures.same_job.0 ∙ same.0) (c.go_on.ensures.same_job.1 ∙ same.1) on.0 c.serve.ensures.keeps c.serve.ensures.over in
    record {
      keeps = ends.0;
      done = has-answered (ends.0.at_work c.requires.at_work).follows ends.1;
    }
