use Rattle.std.proofs.Common.{refl, inl, inr}
use Rattle.ulfm_c.proofs.letters.cancel.Goals as goal
use Rattle.ulfm_log.specs.declared.entry.Cancel.TheVariants.{Cancelled, Completed}

pub returns-in-Ok-Completed : goal.returns-in-Ok-Completed
returns-in-Ok-Completed c = let did = c.in-Ok-Completed.ensures in let is = c.in-Ok-Completed.field-0-is in inl (
  Completed c.in-Ok-Completed.answer,
  c.tell.ensures,
  record {
    asked = record { running = did.running; request = did.request; pairing = did.pairing };
    answers = rw is at did.answer;
    only = rw is at did.released;
  },
)

pub returns-in-Ok-Cancelled : goal.returns-in-Ok-Cancelled
returns-in-Ok-Cancelled c = let did = c.in-Ok-Cancelled.ensures in let is = c.in-Ok-Cancelled.field-0-is in inl (
  Cancelled,
  (refl, c.ended.ensures, refl),
  record {
    asked = record { running = did.running; request = did.request; pairing = did.pairing };
    answers = rw is at did.answer;
    only = rw is at did.released;
  },
)

pub returns-in-Err : goal.returns-in-Err
returns-in-Err c = inr (c.in-Err.error, c.number_of.ensures, c.in-Err.ensures.refused, c.in-Err.ensures.unchanged, (refl, refl))
