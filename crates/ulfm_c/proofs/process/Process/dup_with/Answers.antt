use Rattle.std.proofs.Common.{refl}
use Rattle.ulfm_log.specs.Communicators.{dups_of}
use Rattle.ulfm_log.specs.declared.entry.Entry.TheVariants.{Duplicated}
use Rattle.ulfm_c.proofs.Keeping.{kept-ok, quiet-one}
use Rattle.ulfm_c.proofs.process.Process.dup_with.Goals as goal

pub invariant_of-self : goal.invariant_of-self
invariant_of-self c =
    let h = c.self.invariant in let new = c.dup_with.new.self.state in
    kept-ok new h c.dup_with.result c.dup_with.ensures.state c.dup_with.ensures.unchanged (λ s. quiet-one new (Duplicated c.args.comm.context (dups_of c.self.inside.rank.state.log c.args.comm.context.number)) h.sound (record { signed = tt; takes_none = λ x. refl }) s)
