-- Each step that is done or over tells of the letter that the receive it asks for is given, and nothing is given twice.
use Rattle.std.proofs.Common.{◌≡◌, ℕ, ◌<◌, inl, inr, List, length, refl, ap, sym, ◌∙◌, subst, Some, slice_get}
use Rattle.ulfm_report_laws.proofs.Common.{Entry, Letter, Pattern, Status, Step, StepAnswer, StepReport, TestAnswer, group_at, Probe, Done, Over, Found, Cancelled, asks_of, step_report, Report, report_at, history_at, IsNamed, IsStep, IsPostedBy, IsSentBy, IsGiven, AsksRightly, MayAskFor, DoneIsGiven, FoundIsGiven, OverIsTrue, GivesOnce, DonesDiffer, same_Some, ProcFailed, Revoked, Truncated, Admits, History, Post, PostAt, ComeAt, count_before, compared, same_number, one_pairing, same_pattern, same_letter, some_pairing}
use Rattle.ulfm_match.specs.Pairing.{Pairing, Pairs, LawfulPairing}
use Rattle.ulfm_log.specs.declared.entry.TestAnswer.TheVariants.{Done as TestDone, Over as TestOver}
use Rattle.ulfm_rank.specs.Answer.{Got}
use Rattle.ulfm_rank.specs.Messages.{TellsOf}
use Rattle.ulfm_report_laws.proofs.Finding.{AreHonest, IsPoster, same_asked, its_number, may_ask, receipt_posted, same_step, verdict_posted}
use Rattle.ulfm_report_laws.proofs.Senders.{sender, same_come, same_send}
use Rattle.ulfm_report_laws.proofs.Tells.{IsFinding, IsVerdict, Tells, TellsVerdict}

-- a receive admits the letter that it is paired with
pub pair_admits : (h : History) {r : Pairing} → LawfulPairing h r → (i b : ℕ) (p : Pattern) (l : Letter) → PostAt h i p → ComeAt h b l → Pairs r i b → Admits p l.envelope
pair_admits h law i b p l posted came q =
    let m = law.matched i b q in
    rw (same_pattern h i m.pattern p m.receive_live.posted posted, same_letter h b m.letter l m.letter_live.came came) at m.admits

-- a step posted one receive
same_place : {report : Report} (i : ℕ) {place other : ℕ} {p q : Pattern} (a : IsPostedBy report i place p) (b : IsPostedBy report i other q) → place ≡ other
same_place {report} i {place} {other} {p} {q} a b =
    let same = same_Some a.number b.number (sym (its_number a) ∙ its_number b) in
    same_number _ place other (Post p) (Post q) a.posted refl b.posted refl (a.numbered ∙ same ∙ sym b.numbered)

module _ (reports : List Report) (all : AreHonest reports) where
  -- a letter that the receive of a step got is given to it
  given_by : (d req : ℕ) (inside : d < length reports) (place : ℕ) (pattern : Pattern) → IsPostedBy (report_at reports d) req place pattern → (r : Pairing) → LawfulPairing (history_at reports d) r → (letter : Letter) → Got (history_at reports d) r place letter → (j : ℕ) × IsGiven reports d req letter.envelope.source.number j
  given_by d req inside place pattern by r law letter got =
      let sent = sender reports all d inside got.place letter got.came in
      (sent.0, record { inside = inside; post_place = place; pattern = pattern; receive = by; come_place = got.place; letter = letter; sent = sent.1; pairing = r; lawful = law; pairs = got.pairs })

  -- what a status tells of such a letter
  named_by : (d req : ℕ) (inside : d < length reports) (place : ℕ) (pattern : Pattern) (by : IsPostedBy (report_at reports d) req place pattern) (r : Pairing) (law : LawfulPairing (history_at reports d) r) (letter : Letter) (got : Got (history_at reports d) r place letter) (status : Status) → TellsOf (group_at (report_at reports d).rank pattern.context.number) letter status → IsNamed reports d req status
  unfolding given_by
  named_by d req inside place pattern by r law letter got status told =
      let g = given_by d req inside place pattern by r law letter got in
      record {
        sender = letter.envelope.source.number;
        step = g.0;
        given = g.1;
        admits = pair_admits (history_at reports d) law place got.place pattern letter by.posted got.came got.pairs;
        source = told.sender;
        tag = told.has_tag;
        size = told.has_length;
      }

  -- what a step that releases the receive of another one tells
  verdict_at : (d k req : ℕ) (inside : d < length reports) (asked : Step) (said : StepAnswer) (answer : TestAnswer) → asks_of asked ≡ Some req → (st : IsStep (report_at reports d) k asked said) → ((n : ℕ) (log : List Entry) (done : List StepReport) → Tells n log done asked said → TellsVerdict n log done (asks_of asked) asked answer) →
      IsVerdict (report_at reports d).rank.ranks (report_at reports d).rank.log (report_at reports d).steps req asked answer
  verdict_at d k req inside asked said answer asks st tells =
      let report = report_at reports d in
      let t = tells report.rank.ranks report.rank.log report.steps ((all.honest d inside).orderly.tells k (step_report asked said st.at st.polls) st.stands) in
      subst (λ o. TellsVerdict report.rank.ranks report.rank.log report.steps o asked answer) asks t

  -- such a step may ask for that receive
  asks_at : (d req : ℕ) (inside : d < length reports) (asked : Step) (answer : TestAnswer) → IsVerdict (report_at reports d).rank.ranks (report_at reports d).rank.log (report_at reports d).steps req asked answer → (place : ℕ) × (pattern : Pattern) × (receive : IsPostedBy (report_at reports d) req place pattern) × MayAskFor asked receive.asked
  asks_at d req inside asked answer v =
      let by = verdict_posted reports all d inside v in
      (v.place, v.pattern, by, may_ask asked v.kind by)

  pub asks_rightly : AsksRightly reports
  asks_rightly d k req asked (Done status body) inside asks st = asks_at d req inside asked (TestDone status body) (verdict_at d k req inside asked (Done status body) (TestDone status body) asks st (λ n log done t. t))
  asks_rightly d k req asked (Over reason) inside asks st = asks_at d req inside asked (TestOver reason) (verdict_at d k req inside asked (Over reason) (TestOver reason) asks st (λ n log done t. t))
  asks_rightly d k req asked Cancelled inside asks st = asks_at d req inside asked (TestOver ProcFailed) (verdict_at d k req inside asked Cancelled (TestOver ProcFailed) asks st (λ n log done t. t))
  asks_rightly d k req asked _ inside asks st = absurd (cc)

  pub found_given : FoundIsGiven reports
  found_given d k source tag comm id status inside st =
      let report = report_at reports d in
      let f : IsFinding report.rank.ranks report.rank.log source tag comm id.number status = (all.honest d inside).orderly.tells k (step_report (Probe source tag comm) (Found id status) st.at st.polls) st.stands in
      let r = some_pairing (history_at reports d) (all.honest d inside).formed in
      let v : IsPoster report.rank.ranks report.rank.log (Probe source tag comm) (Found id status) id.number =
      record { source = source; tag = tag; room = 1024; comm = comm; receipt = f.receipt; posts = (refl, sym f.receipt.has_tag, sym f.receipt.has_room, sym f.receipt.context, refl) } in
      let by = receipt_posted (step_report (Probe source tag comm) (Found id status) st.at st.polls) st.stands v in
      named_by d k inside v.receipt.place v.receipt.pattern by r.0 r.1 f.letter (f.got r.0 r.1) status
      (subst (λ c. TellsOf (group_at report.rank c.number) f.letter status) (sym v.receipt.context) f.told)

  pub done_given : DoneIsGiven reports
  unfolding named_by given_by
  done_given d k req asked status body inside asks st =
      let v = verdict_at d k req inside asked (Done status body) (TestDone status body) asks st (λ n log done t. t) in
      let r = some_pairing (history_at reports d) (all.honest d inside).formed in
      let a = v.answers r.0 r.1 in
      record {
        named = named_by d req inside v.place v.pattern (verdict_posted reports all d inside v) r.0 r.1 a.letter a.got status
            (record { sender = a.received.sender; has_tag = a.received.has_tag; has_length = a.received.has_length });
        fits = a.received.fits;
        carries = a.received.carries;
      }

  unpaired_given : (d : ℕ) {req s j : ℕ} (inside : d < length reports) {asked : Step} {answer : TestAnswer} (v : IsVerdict (report_at reports d).rank.ranks (report_at reports d).rank.log (report_at reports d).steps req asked answer) (g : IsGiven reports d req s j) → ((b : ℕ) → Pairs g.pairing v.place b → ⊥) → ⊥
  unpaired_given d {req} inside v g none =
      let same = same_place req g.receive (verdict_posted reports all d inside v) in
      none g.come_place (subst (λ i. Pairs g.pairing i g.come_place) same g.pairs)

  pub over_true : OverIsTrue reports
  unfolding given_by
  over_true = record {
    truncated = λ d k req asked inside asks st.
        let v = verdict_at d k req inside asked (Over Truncated) (TestOver Truncated) asks st (λ n log done t. t) in
        let r = some_pairing (history_at reports d) (all.honest d inside).formed in
        let a = v.answers r.0 r.1 in
        let g = given_by d req inside v.place v.pattern (verdict_posted reports all d inside v) r.0 r.1 a.0 a.1 in
        record { sender = a.0.envelope.source.number; step = g.0; given = g.1; longer = a.2 };
    failed = λ d k req s j asked inside asks st g.
        let v = verdict_at d k req inside asked (Over ProcFailed) (TestOver ProcFailed) asks st (λ n log done t. t) in
        unpaired_given d inside v g (v.answers g.pairing g.lawful).0;
    revoked = λ d k req s j asked inside asks st g.
        let v = verdict_at d k req inside asked (Over Revoked) (TestOver Revoked) asks st (λ n log done t. t) in
        unpaired_given d inside v g (v.answers g.pairing g.lawful).0;
    cancelled = λ d k req s j asked inside asks st g.
        let v = verdict_at d k req inside asked Cancelled (TestOver ProcFailed) asks st (λ n log done t. t) in
        unpaired_given d inside v g (v.answers g.pairing g.lawful).0;
  }

  -- a step sent its letter to one rank
  same_destination : (d e : ℕ) {b a : ℕ} {l m : Letter} (s j : ℕ) → IsSentBy reports d b l s j → IsSentBy reports e a m s j → d ≡ e
  same_destination d e {l} {m} s j x y =
      let own = report_at reports s in let steps = same_asked x.step y.step in
      let to : x.to ≡ y.to = cc in
      let comm : l.envelope.context ≡ m.envelope.context = cc in
      same_Some d e (sym x.directed ∙ ap (λ k. slice_get (group_at own.rank k.number) x.to) comm ∙ ap (slice_get (group_at own.rank m.envelope.context.number)) to ∙ y.directed)

  pub gives_once : GivesOnce reports
  gives_once = record {
    one_receive = λ d i e k s j x y.
        let there = same_destination d e s j x.sent y.sent in
        let z = subst (λ q. IsGiven reports q k s j) (sym there) y in
        let h = history_at reports d in
        let come = sym (same_come reports all d x.inside s j x.sent z.sent) in
        let pairs = subst (λ b. Pairs x.pairing z.post_place b) come (one_pairing h z.pairing x.pairing z.lawful x.lawful z.post_place z.come_place z.pairs) in
        let post = x.lawful.one_receive x.post_place z.post_place x.come_place x.pairs pairs in
        (there, same_step reports all d x.inside i k (its_number x.receive) (its_number z.receive) (sym x.receive.numbered ∙ ap (count_before h) post ∙ z.receive.numbered));
    one_letter = λ d i s j t k x y.
        let h = history_at reports d in
        let post = same_place i y.receive x.receive in
        let pairs = subst (λ q. Pairs x.pairing q y.come_place) post (one_pairing h y.pairing x.pairing y.lawful x.lawful y.post_place y.come_place y.pairs) in
        let come = x.lawful.one_letter x.post_place y.come_place x.come_place pairs x.pairs in
        same_send reports all d x.inside s j t k x.sent (subst (λ b. IsSentBy reports d b y.letter t k) come y.sent);
    one_wait = λ d k m req x y inside gx gy cx cy. elim (compared k m) [
      | inl l ↦ absurd ((all.honest d inside).orderly.once k m req x y l gx gy cx cy)
      | inr o ↦ elim o [ inl same ↦ same | inr l ↦ absurd ((all.honest d inside).orderly.once m k req y x l gy gx cy cx) ]
    ];
  }

  -- two steps that are done and tell of one send are one
  pub dones_differ : DonesDiffer reports
  dones_differ x y sends =
      let sender : x.told.named.sender ≡ y.told.named.sender = ap (λ (p : ℕ × ℕ). p.0) sends in
      let step : x.told.named.step ≡ y.told.named.step = ap (λ (p : ℕ × ℕ). p.1) sends in
      let g : IsGiven reports y.rank y.req x.told.named.sender x.told.named.step = rw (sender, step) y.told.named.given in
      let same = gives_once.one_receive x.rank x.req y.rank y.req x.told.named.sender x.told.named.step x.told.named.given g in
      let here : IsStep (report_at reports x.rank) y.step y.asked (Done y.status y.body) = rw same.0 y.stands in
      (same.0, gives_once.one_wait x.rank x.step y.step x.req (step_report x.asked (Done x.status x.body) x.stands.at x.stands.polls) (step_report y.asked (Done y.status y.body) here.at here.polls) x.told.named.given.inside x.stands.stands here.stands x.asks (y.asks ∙ ap Some (sym same.1)))
