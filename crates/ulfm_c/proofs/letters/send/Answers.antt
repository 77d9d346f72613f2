use Rattle.std.proofs.Common.{refl, inl, inr}
use Rattle.ulfm_c.proofs.letters.send.Goals as goal

pub returns-in-None : goal.returns-in-None
returns-in-None c = inl (refl, c.in-None.ensures, refl, tt)

pub returns-in-Err : goal.returns-in-Err
returns-in-Err c = inr (c.in-Some.comm, c.in-Some.ensures, inl (refl, c.in-Err.ensures.1, refl))

pub returns-in-Ok-isend : goal.returns-in-Ok-isend
returns-in-Ok-isend c = inr (c.in-Some.comm, c.in-Some.ensures, inr (c.in-Ok.tag, c.in-Ok.ensures, inl (refl, (rw c.position_of.ensures at c.in-Ok-isend.ensures.accepted, (rw c.position_of.ensures at c.in-Ok-isend.ensures.sends, c.in-Ok-isend.ensures.only_rank)))))

pub returns-in-Err-isend : goal.returns-in-Err-isend
returns-in-Err-isend c = inr (c.in-Some.comm, c.in-Some.ensures, inr (c.in-Ok.tag, c.in-Ok.ensures, inr (c.in-Err-isend.error, c.number_of.ensures, rw c.position_of.ensures at c.in-Err-isend.ensures.refused, c.in-Err-isend.ensures.unchanged, tt)))
