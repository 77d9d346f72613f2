-- Each rank's history has one lawful pairing, by which no match is missed.
use Rattle.std.proofs.Common.{List, length, arith}
use Rattle.ulfm_report_laws.proofs.Common.{Report, history_at, HasOnePairing, NoneIsMissed, one_pairing, some_pairing}
use Rattle.ulfm_report_laws.proofs.Finding.{AreHonest, poster}
use Rattle.ulfm_report_laws.proofs.Senders.{sender}

module _ (reports : List Report) (all : AreHonest reports) where
  pub one_each : HasOnePairing reports
  one_each d inside =
      let h = history_at reports d in
      let r = some_pairing h (all.honest d inside).formed in
      (r.0, r.1, λ s law i b. (λ q. one_pairing h r.0 s r.1 law i b q, λ q. one_pairing h s r.0 law r.1 i b q))

  pub none_missed : NoneIsMissed reports
  none_missed d i s j pattern letter inside w k adm =
      let h = history_at reports d in
      let r = some_pairing h (all.honest d inside).formed in
      r.1.none_missed (length h) w.place k.place pattern letter (omega arith)
      (record {
        live = w.live;
        unpaired = λ b l q.
            let m = r.1.matched w.place b q in
            let sent = sender reports all d inside b m.letter m.letter_live.came in
            w.given_none m.letter.envelope.source.number sent.0 (record { inside = inside; post_place = w.place; pattern = pattern; receive = w.receive; come_place = b; letter = m.letter; sent = sent.1; pairing = r.0; lawful = r.1; pairs = q });
      })
      (record {
        live = k.live;
        unpaired = λ e l q.
            let m = r.1.matched e k.place q in
            let by = poster reports all d inside e m.pattern m.receive_live.posted in
            k.given_to_none by.0 (record { inside = inside; post_place = e; pattern = m.pattern; receive = by.1; come_place = k.place; letter = letter; sent = k.sent; pairing = r.0; lawful = r.1; pairs = q });
      })
      adm
