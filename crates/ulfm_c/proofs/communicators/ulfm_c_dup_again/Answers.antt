use Rattle.ulfm_c.proofs.communicators.ulfm_c_dup_again.Goals as goal

pub returns-in-Some : goal.returns-in-Some
returns-in-Some c = rw (c.in-Some.ensures.taken, c.put.ensures) (rw c.deref_mut.ensures.value at c.dup-code.ensures)
