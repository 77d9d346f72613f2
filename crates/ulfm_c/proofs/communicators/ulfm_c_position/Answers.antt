use Rattle.ulfm_c.proofs.communicators.ulfm_c_position.Goals as goal

pub returns-in-Some : goal.returns-in-Some
returns-in-Some c = rw (c.in-Some.ensures.taken, c.put.ensures) (rw c.deref.ensures at c.position-code.ensures)
