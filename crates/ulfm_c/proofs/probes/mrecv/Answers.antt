use Rattle.std.proofs.Common.{refl, inl, inr}
use Rattle.ulfm_c.proofs.probes.mrecv.Goals as goal

pub returns-in-Ok : goal.returns-in-Ok
returns-in-Ok c = let did = c.in-Ok.ensures in inl (
  c.in-Ok.answer,
  c.tell.ensures,
  record {
    running = did.running;
    message = did.message;
    pairing = did.pairing;
    answers = rw c.min-room.ensures at did.answer;
    only = did.received;
  },
)

pub returns-in-Err : goal.returns-in-Err
returns-in-Err c = inr (c.in-Err.error, c.number_of.ensures, c.in-Err.ensures.refused, c.in-Err.ensures.unchanged, (refl, refl))
