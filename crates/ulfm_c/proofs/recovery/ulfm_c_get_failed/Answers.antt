use Rattle.ulfm_c.proofs.recovery.ulfm_c_get_failed.Goals as goal

pub returns-in-Some : goal.returns-in-Some
returns-in-Some c = rw (c.in-Some.ensures.taken, c.put.ensures) (rw c.deref.ensures at c.get_failed-code.ensures)
