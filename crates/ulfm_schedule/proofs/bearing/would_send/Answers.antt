use Rattle.std.proofs.Common.{ap, sym, ◌∙◌}
use Rattle.ulfm_job.proofs.Sendings.{one-of-both, sending-is}
use Rattle.ulfm_job.specs.Naming.{sending_in}
use Rattle.ulfm_job.specs.declared.step.Step.{Step}
use Rattle.ulfm_schedule.specs.Waits.{would_bring}
use Rattle.ulfm_schedule.proofs.bearing.would_send.Goals as goal

pub returns-in-Some : goal.returns-in-Some
returns-in-Some c =
    let asked = c.args.asked.now in
    c.would_reach.ensures ∙ ap (λ (s : Step). would_bring c.args.need.now c.args.position s) (sym (sending-is asked (sending_in c.in-Some.sent) (sym c.in-Some.ensures)))

pub returns-in-None : goal.returns-in-None
returns-in-None c = absurd (one-of-both c.args.asked.now (sym c.in-None.ensures) c.requires)
