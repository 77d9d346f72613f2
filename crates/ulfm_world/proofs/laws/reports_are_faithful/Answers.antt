use Rattle.ulfm_world.proofs.Common.{IsFaithful}
use Rattle.ulfm_report_laws.proofs.Faithful.{faithful}
use Rattle.ulfm_world.proofs.Reported.{in_world, in_replay}
use Rattle.ulfm_world.proofs.laws.reports_are_faithful.Goals as goal

pub returns : goal.returns
returns c = record { worlds = in_world IsFaithful faithful; replays = in_replay IsFaithful faithful }
