use Rattle.std.proofs.Common.{refl}
use Rattle.ulfm_log.specs.declared.entry.Entry.TheVariants.{Sent}
use Rattle.ulfm_c.proofs.Keeping.{kept-ok, quiet-one}
use Rattle.ulfm_c.proofs.process.Process.isend.Goals as goal

pub invariant_of-self : goal.invariant_of-self
invariant_of-self c =
    let h = c.self.invariant in let new = c.isend.new.self.state in
    kept-ok new h c.isend.result c.isend.ensures.sends c.isend.ensures.unchanged (λ s. quiet-one new (Sent s.to s.letter) h.sound (record { signed = s.source; takes_none = λ x. refl }) s.only)
