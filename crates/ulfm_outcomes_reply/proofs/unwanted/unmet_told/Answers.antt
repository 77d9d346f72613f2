use Rattle.ulfm_outcomes_reply.specs.Wanted.{unmet}
use Rattle.ulfm_outcomes_reply.proofs.unwanted.unmet_told.Goals as goal

pub told_of-requires : goal.told_of-requires
told_of-requires g c = c.requires c.in_ok-goals.goals c.in_ok-goals.ensures

pub returns : goal.returns
returns g c = λ found first. rw (c.unmet.ensures, c.in_ok-text.ensures) (unmet c.args.unmet c.in_ok-goals.goals c.in_ok-told.told first c.in_ok-goals.ensures c.in_ok-told.ensures)
