use Rattle.ulfm_world.proofs.Common.{measure}
use Rattle.ulfm_replay.proofs.rounds.polling.+poll.Given as goal

abbrev pub decreases-poll : goal.decreases-poll
decreases-poll l = measure l.job.now l.world.now
