use Rattle.std.proofs.Common.{refl}
use Rattle.ulfm_rank.proofs.Joining.{joined-quiet}
use Rattle.ulfm_log.specs.Facts.{is_stopped}
use Rattle.ulfm_log.specs.declared.entry.Entry.TheVariants.{Stopped}
use Rattle.ulfm_c.proofs.Keeping.{quiet-unless}
use Rattle.ulfm_c.proofs.process.Process.stop.Goals as goal

pub invariant_of-self : goal.invariant_of-self
invariant_of-self c =
    let h = c.self.invariant in let new = c.stop.new.self.state in
    joined-quiet new h (quiet-unless new (is_stopped c.self.inside.rank.state.log) Stopped h.sound (record { signed = tt; takes_none = λ x. refl }) c.stop.ensures.state)
