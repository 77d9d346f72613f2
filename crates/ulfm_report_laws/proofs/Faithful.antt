-- What is true of the reports, all in one.
use Rattle.std.proofs.Common.{List}
use Rattle.ulfm_report_laws.proofs.Common.{IsFaithful, Report}
use Rattle.ulfm_report_laws.proofs.Finding.{AreHonest}
use Rattle.ulfm_report_laws.proofs.Given.{asks_rightly, done_given, found_given, over_true, gives_once, dones_differ}
use Rattle.ulfm_report_laws.proofs.Missed.{one_each, none_missed}
use Rattle.ulfm_report_laws.proofs.Order.{letters_keep_order, receives_keep_order}

pub faithful : (reports : List Report) → AreHonest reports → IsFaithful reports
faithful reports all = record {
  as_sent = all.sent;
  asks = asks_rightly reports all;
  found = found_given reports all;
  done = done_given reports all;
  over = over_true reports all;
  once = gives_once reports all;
  dones_differ = dones_differ reports all;
  letters_in_order = letters_keep_order reports all;
  receives_in_order = receives_keep_order reports all;
  one_pairing = one_each reports all;
  none_missed = none_missed reports all;
}
