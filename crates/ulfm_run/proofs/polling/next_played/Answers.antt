use Rattle.std.proofs.Common.{arith, ap, sym, ◌∙◌}
use Rattle.ulfm_script.proofs.Honestly.{honest-skipped}
use Rattle.ulfm_script.proofs.MeantAlong.{next-past, next-within}
use Rattle.ulfm_script.proofs.Reacting.{idle_none}
use Rattle.ulfm_script.specs.Meant.{next_step}
use Rattle.ulfm_run.proofs.Common.{State}
use Rattle.ulfm_run.proofs.Polled.{asked_played, skips-none, skips-one}
use Rattle.ulfm_run.proofs.polling.next_played.Goals as goal

pub loop-asked-init : goal.loop-asked-init
loop-asked-init c = record { skips = skips-none c.args.player.now c.requires.follows; honest = λ known h. h }

pub skip-requires : goal.skip-requires
skip-requires c =
    let skips = c.loop-asked.invariant.skips in
    let idle = asked_played c.args.job.now c.args.me c.loop-asked.player.player (ap (λ (r : State). r.me) skips.same_rank ∙ c.requires.mine) c.conditions.ensures c.is_next_played.ensures ∙ c.if-is_next_played.false in
    let next = ap (next_step c.args.job.now c.args.me) (sym c.done.ensures) ∙ sym c.next_step.ensures ∙ c.in-Some.is in
    record {
      none_open = idle_none skips.follows idle;
      room = omega (arith, skips.room, c.requires.room, next-within c.args.job.now c.args.me c.loop-asked.player.player.done c.in-Some.asked next);
    }

pub returns-then-is_next_played-clause-played : goal.returns-then-is_next_played-clause-played
returns-then-is_next_played-clause-played c = asked_played c.args.job.now c.args.me c.loop-asked.player.player (ap (λ (r : State). r.me) c.loop-asked.invariant.skips.same_rank ∙ c.requires.mine) c.conditions.ensures c.is_next_played.ensures ∙ c.if-is_next_played.true

pub loop-asked-smaller : goal.loop-asked-smaller
loop-asked-smaller c =
    let skips = c.loop-asked.invariant.skips in
    let idle = asked_played c.args.job.now c.args.me c.loop-asked.player.player (ap (λ (r : State). r.me) skips.same_rank ∙ c.requires.mine) c.conditions.ensures c.is_next_played.ensures ∙ c.if-is_next_played.false in
    let next = ap (next_step c.args.job.now c.args.me) (sym c.done.ensures) ∙ sym c.next_step.ensures ∙ c.in-Some.is in
    (skips-one c.args.me c.args.player.now c.loop-asked.player c.skip.new.self c.turns.ensures.ranges skips c.requires.running next idle c.skip.ensures.skipped c.skip.ensures.room).1

pub loop-asked-preserved : goal.loop-asked-preserved
loop-asked-preserved c =
    let skips = c.loop-asked.invariant.skips in
    let idle = asked_played c.args.job.now c.args.me c.loop-asked.player.player (ap (λ (r : State). r.me) skips.same_rank ∙ c.requires.mine) c.conditions.ensures c.is_next_played.ensures ∙ c.if-is_next_played.false in
    let next = ap (next_step c.args.job.now c.args.me) (sym c.done.ensures) ∙ sym c.next_step.ensures ∙ c.in-Some.is in
    record {
      skips = (skips-one c.args.me c.args.player.now c.loop-asked.player c.skip.new.self c.turns.ensures.ranges skips c.requires.running next idle c.skip.ensures.skipped c.skip.ensures.room).0;
      honest = λ known h. honest-skipped known c.loop-asked.player.player c.in-Some.asked c.skip.new.self.player (c.loop-asked.invariant.honest known h) c.skip.ensures.skipped;
    }

pub returns-clause-none : goal.returns-clause-none
returns-clause-none c =
    next-past c.args.job.now c.args.me c.loop-asked.player.player.done (ap (next_step c.args.job.now c.args.me) (sym c.done.ensures) ∙ sym c.next_step.ensures ∙ c.in_default.is)
