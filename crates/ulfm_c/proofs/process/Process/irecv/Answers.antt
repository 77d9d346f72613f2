use Rattle.std.proofs.Common.{refl}
use Rattle.ulfm_log.specs.declared.entry.Entry.TheVariants.{Posted}
use Rattle.ulfm_c.proofs.Keeping.{kept-ok, quiet-one}
use Rattle.ulfm_c.proofs.process.Process.irecv.Goals as goal

pub invariant_of-self : goal.invariant_of-self
invariant_of-self c =
    let h = c.self.invariant in let new = c.irecv.new.self.state in
    kept-ok new h c.irecv.result c.irecv.ensures.posts c.irecv.ensures.unchanged (λ s. quiet-one new (Posted s.pattern) h.sound (record { signed = tt; takes_none = λ x. refl }) s.only)
