use Rattle.ulfm_rank.proofs.Groups.{member_at}
use Rattle.ulfm_rank.proofs.sources.source_of.Goals as goal

pub returns-in-Some-world_of-clause-members : goal.returns-in-Some-world_of-clause-members
returns-in-Some-world_of-clause-members c = member_at c.args.group.now c.in-Some.position c.in-Some-world_of.rank.number c.in-Some-world_of.ensures
