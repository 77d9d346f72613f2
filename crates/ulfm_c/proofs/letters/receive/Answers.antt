use Rattle.std.proofs.Common.{refl, inl, inr}
use Rattle.ulfm_c.proofs.letters.receive.Goals as goal

pub returns-in-None : goal.returns-in-None
returns-in-None c = inl (refl, c.in-None.ensures, refl, refl)

pub returns-in-Err : goal.returns-in-Err
returns-in-Err c = inr (c.in-Some.comm, c.in-Some.ensures, inl (refl, c.in-Err.ensures.1, c.in-Err.ensures.2, refl, refl))

pub returns-in-Ok-irecv : goal.returns-in-Ok-irecv
returns-in-Ok-irecv c = let did = c.in-Ok-irecv.ensures in inr (
  c.in-Some.comm,
  c.in-Some.ensures,
  inr (
    c.in-Ok.tag,
    c.in-Ok.ensures,
    inl (
      refl,
      (
        rw c.source_of.ensures at did.accepted,
        record {
          posts = rw (c.source_of.ensures, c.room_of.ensures) at did.posts;
          number = did.number;
          stands = did.request;
          only = did.only_rank;
        },
      ),
    ),
  ),
)

pub returns-in-Err-irecv : goal.returns-in-Err-irecv
returns-in-Err-irecv c = inr (c.in-Some.comm, c.in-Some.ensures, inr (c.in-Ok.tag, c.in-Ok.ensures, inr (c.in-Err-irecv.error, c.number_of.ensures, rw c.source_of.ensures at c.in-Err-irecv.ensures.refused, c.in-Err-irecv.ensures.unchanged, refl)))
