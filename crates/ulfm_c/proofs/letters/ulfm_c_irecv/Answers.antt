use Rattle.ulfm_c.proofs.letters.ulfm_c_irecv.Goals as goal

pub returns-in-Some : goal.returns-in-Some
returns-in-Some c = rw (c.in-Some.ensures.taken, c.put.ensures) (rw c.deref_mut.ensures.value at c.receive-code.ensures)
