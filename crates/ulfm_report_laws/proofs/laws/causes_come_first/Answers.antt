use Rattle.ulfm_report_laws.proofs.Excluded.{excluded_later}
use Rattle.ulfm_report_laws.proofs.Lawful.{lawful_enters, so_far}
use Rattle.ulfm_report_laws.proofs.Ordered.{failed_later, revoked_later}
use Rattle.ulfm_report_laws.proofs.SentBefore.{sent_before}
use Rattle.ulfm_report_laws.proofs.Whole.{decisions_are_proposals}
use Rattle.ulfm_report_laws.proofs.laws.causes_come_first.Goals as goal

pub returns : goal.returns
returns c = record {
  letters = λ job inboxes knows reports h. sent_before inboxes h.flow h.one_order;
  revocations = λ job inboxes knows reports h. revoked_later h.one_order;
  failures = λ job inboxes knows reports h. failed_later h.one_order;
  exclusions = λ job inboxes knows reports h. excluded_later h.one_order h.decisions (lawful_enters (so_far h));
  proposals = λ job inboxes knows reports h. decisions_are_proposals (so_far h);
}
