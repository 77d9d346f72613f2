use Rattle.std.proofs.Common.{◌≡◌, true, sym, subst}
use Rattle.ulfm_base.specs.declared.topic.Topic.{Topic}
use Rattle.ulfm_log.proofs.Sifted.{last_is_current}
use Rattle.ulfm_log.specs.Decisive.{is_current}
use Rattle.ulfm_rank.proofs.Common.{rounds_of}
use Rattle.ulfm_rank.proofs.rank.Rank.is_in_round.Goals as goal

pub has_entered-requires : goal.has_entered-requires
has_entered-requires c =
    let log = c.args.self.now.state.log in
    subst (λ (t : Topic). is_current (rounds_of log) t ≡ true) (sym c.last_round-topic.ensures) (last_is_current (rounds_of log) c.args.agrees c.args.context)

pub has_adopted-requires : goal.has_adopted-requires
has_adopted-requires c =
    let log = c.args.self.now.state.log in
    subst (λ (t : Topic). is_current (rounds_of log) t ≡ true) (sym c.last_round-topic.ensures) (last_is_current (rounds_of log) c.args.agrees c.args.context)
