use Rattle.std.proofs.Common.{refl, sym, inl, inr}
use Rattle.ulfm_base.specs.declared.error.CallError.TheVariants.{NotMember}
use Rattle.ulfm_c.proofs.communicators.position.Goals as goal

pub returns-in-None : goal.returns-in-None
returns-in-None c = inl (refl, c.in-None.ensures, refl, refl)

pub returns-in-Err : goal.returns-in-Err
returns-in-Err c = inr (c.in-Some.comm, c.in-Some.ensures, inr (c.in-Err.error, c.number_of.ensures, inl c.in-Err.ensures.refused, refl, refl))

pub returns-in-Some-rank_of : goal.returns-in-Some-rank_of
returns-in-Some-rank_of c = inr (c.in-Some.comm, c.in-Some.ensures, inl (refl, (c.in-Ok.group, c.in-Ok.ensures.group, sym (rw c.me.ensures.number at c.in-Some-rank_of.ensures), refl)))

pub returns-in-None-rank_of : goal.returns-in-None-rank_of
returns-in-None-rank_of c = inr (c.in-Some.comm, c.in-Some.ensures, inr (NotMember, refl, inr (refl, c.in-Ok.group, c.in-Ok.ensures.group, sym (rw c.me.ensures.number at c.in-None-rank_of.ensures)), refl, refl))
