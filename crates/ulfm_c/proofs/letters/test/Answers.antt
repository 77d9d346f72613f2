use Rattle.std.proofs.Common.{◌≡◌, refl, inl, inr}
use Rattle.std.proofs.lemmas.Bool.{cond_both}
use Rattle.ulfm_c.proofs.letters.test.Goals as goal
use Rattle.ulfm_c.specs.View.{ProcessView}
use Rattle.ulfm_rank.specs.Answer.{is_release}

pub returns-in-Ok : goal.returns-in-Ok
returns-in-Ok c = let did = c.in-Ok.ensures in inl (
  c.in-Ok.answer,
  c.tell.ensures,
  record {
    asked = record { running = did.running; request = did.request; pairing = did.pairing };
    answers = did.answer;
    only = cond_both (is_release c.in-Ok.answer) _ _ (λ (p : ProcessView). c.test.new.self.view ≡ p) did.released did.stays;
  },
)

pub returns-in-Err : goal.returns-in-Err
returns-in-Err c = inr (c.in-Err.error, c.number_of.ensures, c.in-Err.ensures.refused, c.in-Err.ensures.unchanged, (refl, refl))
