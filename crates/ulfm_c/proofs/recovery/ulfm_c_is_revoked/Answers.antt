use Rattle.ulfm_c.proofs.recovery.ulfm_c_is_revoked.Goals as goal

pub returns-in-Some : goal.returns-in-Some
returns-in-Some c = rw (c.in-Some.ensures.taken, c.put.ensures) (rw c.deref.ensures at c.is_revoked-code.ensures)
