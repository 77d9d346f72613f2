use Rattle.ulfm_c.proofs.steps.ulfm_c_would.Goals as goal

pub returns-in-Some : goal.returns-in-Some
returns-in-Some c = rw (c.in-Some.ensures.taken, c.put.ensures) (rw c.deref_mut.ensures.value at c.would-code.ensures)
