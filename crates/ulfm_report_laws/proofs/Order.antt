-- What is given keeps the order of the sends and of the posts.
use Rattle.std.proofs.Common.{◌≡◌, ℕ, ◌<◌, inl, inr, List, ◌++◌, length, take, refl, ap, sym, subst, ◌∙◌, arith, append_assoc, Some, slice_get}
use Rattle.ulfm_report_laws.proofs.Common.{Context, Tag, Letter, Pattern, History, Post, count_before, group_at, Send, Sent, step_report, Report, report_at, Content, content, history_at, IsStep, sent_in, come_in, letters_come, letters_sent, IsPostedBy, IsSentBy, LettersKeepOrder, ReceivesKeepOrder, same_Some, Admits, compared, count_below, same_context, same_rank}
use Rattle.ulfm_report_laws.proofs.Contents.{sent_one, come_few, come_is}
use Rattle.ulfm_report_laws.proofs.Finding.{AreHonest, its_number, poster}
use Rattle.ulfm_report_laws.proofs.Numbers.{number_at}
use Rattle.ulfm_report_laws.proofs.Senders.{sender, sent_letter}
use Rattle.ulfm_report_laws.proofs.Given.{pair_admits}
use Rattle.ulfm_match.proofs.Places.{gives_at, flat_within, flat_front, same_fronts, get_take}

module _ (reports : List Report) (all : AreHonest reports) where
  -- receives stand in the order of their steps
  earlier_step : (d : ℕ) → d < length reports → (i k place : ℕ) {other : ℕ} {p q : Pattern} → IsPostedBy (report_at reports d) i place p → IsPostedBy (report_at reports d) k other q → place < other → i < k
  earlier_step d inside i k place {other} {p} {q} a b l =
      let n = count_below (history_at reports d) place other (Post p) a.posted refl l in
      let less : a.number < b.number = omega (arith, n, a.numbered, b.numbered) in
      let ra = its_number a in let rb = its_number b in
      elim (compared i k) [
        | inl h ↦ h
        | inr o ↦ elim o [
          | inl same ↦
              let e = sym ra ∙ ap (number_at (report_at reports d).steps) same ∙ rb in
              absurd (let f = same_Some a.number b.number e in omega (arith, less, f))
          | inr h ↦ absurd (let r : b.number < a.number = (all.honest d inside).orderly.rises k i b.number a.number h rb ra in omega (arith, less, r))
        ]
      ]

  earlier_place : (d : ℕ) → d < length reports → (i k place : ℕ) {other : ℕ} {p q : Pattern} → IsPostedBy (report_at reports d) i place p → IsPostedBy (report_at reports d) k other q → i < k → place < other
  earlier_place d inside i k place {other} {p} {q} a b l =
      let less : a.number < b.number = (all.honest d inside).orderly.rises i k a.number b.number l (its_number a) (its_number b) in
      elim (compared place other) [
        | inl h ↦ h
        | inr o ↦ elim o [
          | inl same ↦ absurd (let e = ap (count_before (history_at reports d)) same in omega (arith, less, e, a.numbered, b.numbered))
          | inr h ↦ absurd (let n = count_below (history_at reports d) other place (Post q) b.posted refl h in omega (arith, less, n, a.numbered, b.numbered))
        ]
      ]

  pub receives_keep_order : ReceivesKeepOrder reports
  receives_keep_order d i s j k place pattern given l by adm lives =
      let before = earlier_place d given.inside k i place by given.receive l in
      let e = given.lawful.earlier_receives given.post_place given.come_place place pattern given.letter given.pairs given.sent.came before by.posted lives adm in
      let m = given.lawful.matched place e.0 e.2 in
      let sent = sender reports all d given.inside e.0 m.letter m.letter_live.came in (
        m.letter.envelope.source.number,
        sent.0,
        record { inside = given.inside; post_place = place; pattern = pattern; receive = by; come_place = e.0; letter = m.letter; sent = sent.1; pairing = given.pairing; lawful = given.lawful; pairs = e.2 },
        e.1,
      )

  -- a letter that was sent before one that came has come before it
  record HasCome (d s b k : ℕ) (tag : Tag) (body : List ℕ) (comm : Context) : Type 0 where
    pub place : ℕ
    pub letter : Letter
    pub earlier : place < b
    pub sent : IsSentBy reports d place letter s k
    pub source : letter.envelope.source.number ≡ s
    pub tagged : letter.envelope.tag ≡ tag
    pub context : letter.envelope.context.number ≡ comm.number

  as_many : (s c : ℕ) {es fs : History} {ys : List Content} → es ≡ fs → letters_come s c fs ≡ ys → length (letters_come s c es) ≡ length ys
  as_many s c e f = ap (λ gs. length (letters_come s c gs)) e ∙ ap (λ xs. length xs) f

  has_come : {b : ℕ} (d s j k to : ℕ) {l : Letter} (tag : Tag) (body : List ℕ) (comm : Context) → d < length reports → IsSentBy reports d b l s j → l.envelope.context.number ≡ comm.number → k < j → IsStep (report_at reports s) k (Send to tag body comm) Sent → slice_get (group_at (report_at reports s).rank comm.number) to ≡ Some d → HasCome d s b k tag body comm
  has_come {b} d s j k to tag body comm inside x same less step directed =
      let own = report_at reports s in let h = history_at reports d in let c = comm.number in
      let group = group_at own.rank c in
      let p = flat_front (come_in s c) h b in
      let w = all.sent s d c x.inside inside in
      let q = flat_front (sent_in group c d) own.steps j in
      let joined =
      sym (append_assoc (letters_come s c (take b h)) p.0 w.0) ∙ ap (λ xs. xs ++ w.0) p.1 ∙ w.1 ∙ sym q.1 in
      let fronts = same_fronts (letters_come s c (take b h)) (p.0 ++ w.0) (letters_sent own.rank c d (take j own.steps)) q.0 joined (rw same at x.in_order) in
      let y = step_report (Send to tag body comm) Sent step.at step.polls in
      let z = flat_within (sent_in group c d) own.steps k j y less step.stands in
      let list =
      fronts ∙ z.1 ∙ ap (λ xs. letters_sent own.rank c d (take k own.steps) ++ (xs ++ z.0)) (sent_one group d to tag body comm directed) in
      let g = gives_at (come_in s c) (come_few s c) (take b h) (letters_sent own.rank c d (take k own.steps)) (content tag body) z.0 list in
      let t = get_take h b g.index g.giver g.at in
      let m = come_is s c g.giver g.gives in
      let its_tag = ap (λ v. v.tag) (sym m.carries) in
      let its_body = ap (λ v. v.body) (sym m.carries) in
      let its_comm = same_context comm m.letter.envelope.context (sym m.context) in
      record {
        place = g.index;
        letter = m.letter;
        earlier = t.0;
        sent = record {
          to = to;
          inside = x.inside;
          step = sent_letter m.letter its_tag its_body its_comm step;
          directed = rw its_comm at directed;
          came = t.1 ∙ ap (λ e. Some e) m.came;
          source = m.source;
          in_order = subst (λ r. length (letters_come s r.number (take g.index h)) ≡ length (letters_sent own.rank r.number d (take k own.steps))) its_comm (as_many s c (sym t.2) g.before);
        };
        source = m.source;
        tagged = sym its_tag;
        context = m.context;
      }

  pub letters_keep_order : LettersKeepOrder reports
  letters_keep_order d i s j k to tag body comm given l step directed adm =
      let h = history_at reports d in
      let own = pair_admits h given.lawful given.post_place given.come_place given.pattern given.letter given.receive.posted given.sent.came given.pairs in
      let x = has_come d s j k to tag body comm given.inside given.sent (own.context ∙ sym adm.context) l step directed in
      let admits : Admits given.pattern x.letter.envelope = record {
        context = x.context ∙ adm.context;
        source = rw (same_rank given.letter.envelope.source x.letter.envelope.source (given.sent.source ∙ sym x.source)) at adm.source;
        tag = rw x.tagged adm.tag;
      } in
      let e = given.lawful.earlier_letters given.post_place given.come_place x.place given.pattern x.letter given.pairs given.receive.posted x.earlier x.sent.came admits in
      let m = given.lawful.matched e.0 x.place e.2 in
      let q = poster reports all d given.inside e.0 m.pattern m.receive_live.posted in (
        q.0,
        earlier_step d given.inside q.0 i e.0 q.1 given.receive e.1,
        record { inside = given.inside; post_place = e.0; pattern = m.pattern; receive = q.1; come_place = x.place; letter = x.letter; sent = x.sent; pairing = given.pairing; lawful = given.lawful; pairs = e.2 },
      )
