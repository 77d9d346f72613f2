use Rattle.std.proofs.Common.{refl, inl, inr}
use Rattle.ulfm_c.proofs.recovery.get_failed.Goals as goal

pub returns-in-None : goal.returns-in-None
returns-in-None c = inl (refl, c.in-None.ensures, refl, refl)

pub returns-in-Ok : goal.returns-in-Ok
returns-in-Ok c = inr (c.in-Some.comm, c.in-Some.ensures, inl (refl, (c.in-Ok.ensures.accepted, rw c.in-Ok.ensures.failed at c.list.ensures, refl)))

pub returns-in-Err : goal.returns-in-Err
returns-in-Err c = inr (c.in-Some.comm, c.in-Some.ensures, inr (c.in-Err.error, c.number_of.ensures, c.in-Err.ensures.refused, refl, refl))
