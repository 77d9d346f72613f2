use Rattle.std.proofs.Common.{refl, inl, inr}
use Rattle.ulfm_c.proofs.deciding.poll_shrink.Goals as goal

pub returns-in-None : goal.returns-in-None
returns-in-None c = inl (refl, c.in-None.ensures, refl, refl)

pub returns-in-Ok-Some : goal.returns-in-Ok-Some
returns-in-Ok-Some c = let a = rw c.in-Ok-Some.field-0-is at c.in-Ok-Some.ensures.adopts in inr (c.in-Some.comm, c.in-Some.ensures, inl (refl, a.0, a.1, a.2))

pub returns-in-Ok-None : goal.returns-in-Ok-None
returns-in-Ok-None c = inr (c.in-Some.comm, c.in-Some.ensures, inr (inl (refl, c.in-Ok-None.ensures.waits c.in-Ok-None.field-0-is, refl)))

pub returns-in-Err : goal.returns-in-Err
returns-in-Err c = inr (c.in-Some.comm, c.in-Some.ensures, inr (inr (c.in-Err.error, c.number_of.ensures, c.in-Err.ensures.refused, refl)))
