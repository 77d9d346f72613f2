use Rattle.ulfm_report_laws.proofs.Each.{pends_exactly}
use Rattle.ulfm_report_laws.proofs.Excluded.{excluded_later}
use Rattle.ulfm_report_laws.proofs.Lawful.{lawful_enters, so_far}
use Rattle.ulfm_report_laws.proofs.Ordered.{failed_later, revoked_later}
use Rattle.ulfm_report_laws.proofs.SentBefore.{sent_before}
use Rattle.ulfm_report_laws.proofs.Whole.{decisions_are_proposals}
use Rattle.ulfm_report_laws.proofs.laws.lawful_so_far.Goals as goal

pub returns : goal.returns
returns c = record {
  at_the_end = λ job inboxes knows reports h. so_far h;
  causes = λ inboxes knows reports h. record {
    letters = sent_before inboxes h.flow h.one_order;
    revocations = revoked_later h.one_order;
    failures = failed_later h.one_order;
    exclusions = excluded_later h.one_order h.decisions (lawful_enters h);
    proposals = decisions_are_proposals h;
  };
  pends = λ inboxes knows reports h. pends_exactly h;
}
