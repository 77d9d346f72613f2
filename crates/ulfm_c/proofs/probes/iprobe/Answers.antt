use Rattle.std.proofs.Common.{refl, inl, inr}
use Rattle.ulfm_c.proofs.probes.iprobe.Goals as goal

pub returns-in-None : goal.returns-in-None
returns-in-None c = inl (refl, c.in-None.ensures, refl, refl)

pub returns-in-Err : goal.returns-in-Err
returns-in-Err c = inr (c.in-Some.comm, c.in-Some.ensures, inl (refl, c.in-Err.ensures.1, c.in-Err.ensures.2, refl, refl))

pub returns-in-Ok-Some : goal.returns-in-Ok-Some
returns-in-Ok-Some c = let found = c.in-Ok-Some.ensures in inr (
  c.in-Some.comm,
  c.in-Some.ensures,
  inr (
    c.in-Ok.tag,
    c.in-Ok.ensures,
    inl (
      rw c.source_of.ensures at found.accepted,
      inl (
        refl,
        (
          record {
            told = c.in-Ok-Some.told;
            seen = rw (c.source_of.ensures, c.in-Ok-Some.field-0-is) at found.answer;
            tells = c.status_of.ensures;
          },
          refl,
        ),
      ),
    ),
  ),
)

pub returns-in-Ok-None : goal.returns-in-Ok-None
returns-in-Ok-None c = let none = c.in-Ok-None.ensures in inr (c.in-Some.comm, c.in-Some.ensures, inr (c.in-Ok.tag, c.in-Ok.ensures, inl (rw c.source_of.ensures at none.accepted, inr (refl, rw (c.source_of.ensures, c.in-Ok-None.field-0-is) at none.answer, refl, refl))))

pub returns-in-Err-iprobe : goal.returns-in-Err-iprobe
returns-in-Err-iprobe c = inr (c.in-Some.comm, c.in-Some.ensures, inr (c.in-Ok.tag, c.in-Ok.ensures, inr (c.in-Err-iprobe.error, c.number_of.ensures, rw c.source_of.ensures at c.in-Err-iprobe.ensures.refused, refl, refl)))
