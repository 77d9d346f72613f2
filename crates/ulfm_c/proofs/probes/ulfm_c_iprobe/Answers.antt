use Rattle.ulfm_c.proofs.probes.ulfm_c_iprobe.Goals as goal

pub returns-in-Some : goal.returns-in-Some
returns-in-Some c = rw (c.in-Some.ensures.taken, c.put.ensures) (rw c.deref.ensures at c.iprobe-code.ensures)
