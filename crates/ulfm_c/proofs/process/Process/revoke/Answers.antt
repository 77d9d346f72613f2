use Rattle.std.proofs.Common.{refl}
use Rattle.ulfm_log.specs.Facts.{is_revoked}
use Rattle.ulfm_log.specs.declared.entry.Entry.TheVariants.{Revoked}
use Rattle.ulfm_c.proofs.Keeping.{kept-ok, quiet-unless}
use Rattle.ulfm_c.proofs.process.Process.revoke.Goals as goal

pub invariant_of-self : goal.invariant_of-self
invariant_of-self c =
    let h = c.self.invariant in let new = c.revoke.new.self.state in let context = c.args.comm.context in
    kept-ok new h c.revoke.result c.revoke.ensures.state c.revoke.ensures.unchanged (λ s. quiet-unless new (is_revoked c.self.inside.rank.state.log context.number) (Revoked context) h.sound (record { signed = tt; takes_none = λ x. refl }) s)
