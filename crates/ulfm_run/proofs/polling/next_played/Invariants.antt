use Rattle.ulfm_run.proofs.Common.{Known, AnswersFollowSoFar, polls_left, script_at, SkipsOn}
use Rattle.ulfm_run.proofs.polling.next_played.Given as goal

abbrev pub invariant-loop-asked : goal.invariant-loop-asked
invariant-loop-asked l = record {
  skips : SkipsOn l.fn.job l.fn.me l.fn.player l.player;
  honest : (known : Known) → AnswersFollowSoFar known l.fn.player.player → AnswersFollowSoFar known l.player.player;
}

abbrev pub decreases-loop-asked : goal.decreases-loop-asked
decreases-loop-asked l = polls_left (script_at l.fn.job l.fn.me) l.fn.job.turns l.player.player
