use Rattle.std.proofs.Common.{refl, inl, inr}
use Rattle.ulfm_c.proofs.recovery.revoke.Goals as goal

pub returns-in-None : goal.returns-in-None
returns-in-None c = inl (refl, c.in-None.ensures, refl, tt)

pub returns-in-Ok : goal.returns-in-Ok
returns-in-Ok c = inr (c.in-Some.comm, c.in-Some.ensures, inl (refl, (c.in-Ok.ensures.accepted, c.in-Ok.ensures.only)))

pub returns-in-Err : goal.returns-in-Err
returns-in-Err c = inr (c.in-Some.comm, c.in-Some.ensures, inr (c.in-Err.error, c.number_of.ensures, c.in-Err.ensures.refused, c.in-Err.ensures.unchanged, tt))
