use Rattle.std.proofs.Common.{◌∙◌, refl, sym, inl, inr}
use Rattle.ulfm_c.proofs.recovery.is_revoked.Goals as goal

pub returns-in-None : goal.returns-in-None
returns-in-None c = inl (refl, c.in-None.ensures, refl, refl)

pub returns-then-is_it : goal.returns-then-is_it
returns-then-is_it c = inr (c.in-Some.comm, c.in-Some.ensures, inl (refl, (c.in-Ok.ensures.accepted, rw (sym c.in-Ok.ensures.revoked ∙ c.if-is_it.true) refl, refl)))

pub returns-else-is_it : goal.returns-else-is_it
returns-else-is_it c = inr (c.in-Some.comm, c.in-Some.ensures, inl (refl, (c.in-Ok.ensures.accepted, rw (sym c.in-Ok.ensures.revoked ∙ c.if-is_it.false) refl, refl)))

pub returns-in-Err : goal.returns-in-Err
returns-in-Err c = inr (c.in-Some.comm, c.in-Some.ensures, inr (c.in-Err.error, c.number_of.ensures, c.in-Err.ensures.refused, refl, refl))
