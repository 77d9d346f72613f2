use Rattle.ulfm_c.proofs.Keeping.{kept-if, quiet-probed}
use Rattle.ulfm_c.proofs.process.Process.improbe.Goals as goal

pub invariant_of-self : goal.invariant_of-self
invariant_of-self c =
    let h = c.self.invariant in let new = c.improbe.new.self.state in
    kept-if new h c.improbe.result c.improbe.ensures.answer c.improbe.ensures.unchanged (λ probed s. quiet-probed new c.args.comm c.args.source c.args.tag h.sound probed s)
