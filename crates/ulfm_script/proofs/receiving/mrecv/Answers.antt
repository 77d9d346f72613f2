use Rattle.std.proofs.Common.{sym, ◌∙◌}
use Rattle.ulfm_script.proofs.Common.{Receives}
use Rattle.ulfm_script.proofs.Waits.{answers_mrecv, receipt_releases}
use Rattle.ulfm_script.proofs.receiving.mrecv.Goals.{After-released}
use Rattle.ulfm_script.proofs.receiving.mrecv.Goals as goal

received : (c : After-released) → Receives c.args.done.now c.args.rank.now.state c.args.req c.args.room c.in-Ok.answer c.mrecv.new.self.state
received c =
    let message = c.in-Ok.ensures.message in
    record {
      id = c.in-Some.found;
      found = sym c.message_at.ensures ∙ c.in-Some.is;
      place = message.0;
      pattern = message.1;
      message = message.2;
      pairing = c.in-Ok.ensures.pairing.0;
      lawful = c.in-Ok.ensures.pairing.1;
      answers = c.in-Ok.ensures.answer;
      only = c.in-Ok.ensures.received;
    }

pub released-requires : goal.released-requires
released-requires c = receipt_releases c.in-Ok.answer c.in-Ok.ensures.answer.receipt

pub returns-in-Ok-clause-answers : goal.returns-in-Ok-clause-answers
returns-in-Ok-clause-answers c = answers_mrecv _ _ _ _ _ _ _ (received c) (receipt_releases c.in-Ok.answer c.in-Ok.ensures.answer.receipt) c.released.ensures
