use Rattle.ulfm_c.proofs.recovery.ulfm_c_enter_shrink_again.Goals as goal

pub returns-in-Some : goal.returns-in-Some
returns-in-Some c = rw (c.in-Some.ensures.taken, c.put.ensures) (rw c.deref_mut.ensures.value at c.enter_shrink-code.ensures)
