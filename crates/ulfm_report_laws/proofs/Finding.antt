-- Which step posted the receive at a place of the history.
use Rattle.std.proofs.Common.{◌≡◌, ℕ, ◌<◌, inl, inr, List, length, refl, ap, sym, ◌∙◌, subst, arith, Option, Some, slice_get}
use Rattle.ulfm_report_laws.proofs.Common.{Context, Pattern, Tag, MessageId, RequestId, Status, Post, PostAt, Entry, Step, Recv, Probe, StepAnswer, Posted, Found, StepReport, Report, report_at, TestAnswer, step_report, history_at, IsStep, ComeAsSent, IsPostedBy, PostsAs, MayAskFor, Wait, Mrecv, Cancel, same_Some, compared, same_number, same_pattern}
use Rattle.ulfm_report_laws.proofs.Honest.{IsHonest}
use Rattle.ulfm_report_laws.proofs.Numbers.{number_at, number_in, number_of, number_step, AsksForAnswer, AsksAt}
use Rattle.ulfm_report_laws.proofs.Tells.{Tells, TellsFound, TellsPosted, IsReceipt, IsVerdict}

-- the steps of each report are true of its log, and what came was sent
pub record AreHonest (reports : List Report) : Type 0 where
  pub honest : (d : ℕ) → d < length reports → IsHonest (report_at reports d).rank.ranks (report_at reports d).rank.log (report_at reports d).steps
  pub counted : (d : ℕ) → d < length reports → (report_at reports d).rank.ranks ≡ length reports
  pub sent : ComeAsSent reports

pub step_at : (report : Report) (k : ℕ) {x : StepReport} {asked : Step} {said : StepAnswer} → slice_get report.steps k ≡ Some x → x.step ≡ asked → x.answer ≡ said → IsStep report k asked said
step_at report k {x} {asked} h step answer =
    record { at = x.at; polls = x.polls; stands = h ∙ ap (λ s. Some (step_report s x.answer x.at x.polls)) step ∙ ap (λ a. Some (step_report asked a x.at x.polls)) answer }

-- two steps at one place are the same
pub same_asked : {report : Report} {k : ℕ} {a b : Step} {s t : StepAnswer} → IsStep report k a s → IsStep report k b t → a ≡ b
same_asked {a} {b} {s} {t} x y = ap (λ z. z.step) (same_Some (step_report a s x.at x.polls) (step_report b t y.at y.polls) (sym x.stands ∙ y.stands))

-- what posted a receive of this number, as its step tells
pub record IsPoster (n : ℕ) (log : List Entry) (asked : Step) (said : StepAnswer) (number : ℕ) : Type 0 where
  pub source : Option ℕ
  pub tag : Option Tag
  pub room : ℕ
  pub comm : Context
  pub receipt : IsReceipt n log source tag room comm number
  pub posts : PostsAs asked said source receipt.pattern number

by_receive : (n : ℕ) (log : List Entry) (asked : Step) (id : RequestId) → TellsPosted n log asked id.number → IsPoster n log asked (Posted id) id.number
by_receive n log (Recv source tag room comm) id h =
    record { source = source; tag = tag; room = room; comm = comm; receipt = h; posts = (refl, sym h.has_tag, sym h.has_room, sym h.context, refl) }
by_receive n log _ id h = absurd h

by_probe : (n : ℕ) (log : List Entry) (asked : Step) (id : MessageId) (status : Status) → TellsFound n log asked id.number status → IsPoster n log asked (Found id status) id.number
by_probe n log (Probe source tag comm) id status h =
    record { source = source; tag = tag; room = 1024; comm = comm; receipt = h.receipt; posts = (refl, sym h.receipt.has_tag, sym h.receipt.has_room, sym h.receipt.context, refl) }
by_probe n log _ id status h = absurd h

posted_is : (n : ℕ) (log : List Entry) (done : List StepReport) (asked : Step) (said : StepAnswer) (number : ℕ) → number_of said ≡ Some number → Tells n log done asked said → IsPoster n log asked said number
posted_is n log done asked (Posted id) number e h = subst (IsPoster n log asked (Posted id)) (same_Some id.number number e) (by_receive n log asked id h)
posted_is n log done asked (Found id status) number e h = subst (IsPoster n log asked (Found id status)) (same_Some id.number number e) (by_probe n log asked id status h)
posted_is n log done asked _ number e h = absurd (cc)

-- the receive of a receipt is posted by its step
pub receipt_posted : {report : Report} {k : ℕ} (x : StepReport) {number : ℕ} → slice_get report.steps k ≡ Some x → (v : IsPoster report.rank.ranks report.rank.log x.step x.answer number) → IsPostedBy report k v.receipt.place v.receipt.pattern
receipt_posted {report} {k} x {number} here v =
    record {
      asked = x.step;
      said = x.answer;
      step = step_at report k here refl refl;
      source = v.source;
      number = number;
      posts = v.posts;
      posted = v.receipt.posted;
      numbered = v.receipt.numbered;
      asks_for = rw v.receipt.context v.receipt.asks_for;
    }

posts_number : (asked : Step) (said : StepAnswer) (source : Option ℕ) (pattern : Pattern) (number : ℕ) → PostsAs asked said source pattern number → number_of said ≡ Some number
posts_number (Recv other tag room comm) (Posted id) source pattern number h = ap Some h.4
posts_number (Probe other tag comm) (Found id status) source pattern number h = ap Some h.4
posts_number _ _ source pattern number h = absurd h

-- what was posted with this answer is of a receive step, or of a probe
asks_receive : (asked posted : Step) (id : RequestId) (source : Option ℕ) (pattern : Pattern) (number : ℕ) → ((from : Option ℕ) (tag : Option Tag) (room : ℕ) (comm : Context) → MayAskFor asked (Recv from tag room comm)) → PostsAs posted (Posted id) source pattern number → MayAskFor asked posted
asks_receive asked (Recv from tag room comm) id source pattern number any h = any from tag room comm
asks_receive asked _ id source pattern number any h = absurd h

asks_probe : (req room : ℕ) (posted : Step) (id : MessageId) (status : Status) (source : Option ℕ) (pattern : Pattern) (number : ℕ) → PostsAs posted (Found id status) source pattern number → MayAskFor (Mrecv req room) posted
asks_probe req room (Probe from tag comm) id status source pattern number h = tt
asks_probe req room _ id status source pattern number h = absurd h

asks_posted : (asked posted : Step) (said : StepAnswer) (source : Option ℕ) (pattern : Pattern) (number : ℕ) → AsksForAnswer asked said → PostsAs posted said source pattern number → MayAskFor asked posted
asks_posted (Mrecv req room) posted (Found id status) source pattern number a h = asks_probe req room posted id status source pattern number h
asks_posted (Wait req) posted (Posted id) source pattern number a h = asks_receive (Wait req) posted id source pattern number (λ from tag room comm. tt) h
asks_posted (Cancel req) posted (Posted id) source pattern number a h = asks_receive (Cancel req) posted id source pattern number (λ from tag room comm. tt) h
asks_posted _ posted _ source pattern number a h = absurd a

-- a step that asks for what step i was answered may ask for the receive that this posted
pub may_ask : {report : Report} {i place : ℕ} {p : Pattern} (asked : Step) → AsksAt report.steps i asked → (q : IsPostedBy report i place p) → MayAskFor asked q.asked
may_ask {p = p} asked k q =
    let same = same_Some k.report (step_report q.asked q.said q.step.at q.step.polls) (sym k.there ∙ q.step.stands) in
    asks_posted asked q.asked q.said q.source p q.number (subst (λ (x : StepReport). AsksForAnswer asked x.answer) same k.names) q.posts

-- the number of a receive that a step posted
pub its_number : {report : Report} {i place : ℕ} {p : Pattern} (q : IsPostedBy report i place p) → number_at report.steps i ≡ Some q.number
its_number {p = p} q = ap (λ o. number_in o) q.step.stands ∙ posts_number q.asked q.said q.source p q.number q.posts

module _ (reports : List Report) (all : AreHonest reports) (d : ℕ) (inside : d < length reports) where
  abbrev report : Report
  report = report_at reports d

  -- receives of the same number are of one step
  pub same_step : (i k : ℕ) {number other : ℕ} → number_at report.steps i ≡ Some number → number_at report.steps k ≡ Some other → number ≡ other → i ≡ k
  same_step i k {number} {other} a b e = elim (compared i k) [
    | inl l ↦ absurd (let r : number < other = (all.honest d inside).orderly.rises i k number other l a b in omega (arith, r, e))
    | inr o ↦ elim o [ inl same ↦ same | inr l ↦ absurd (let r : other < number = (all.honest d inside).orderly.rises k i other number l b a in omega (arith, r, e)) ]
  ]

  -- each receive of the history is posted by a step
  pub poster : (place : ℕ) (p : Pattern) → PostAt (history_at reports d) place p → (i : ℕ) × IsPostedBy report i place p
  poster place p posted =
      let h = history_at reports d in
      let c = (all.honest d inside).covered place p posted in
      let q = number_step report.steps c.0 c.2 in
      let r = posted_is report.rank.ranks report.rank.log report.steps q.0.step q.0.answer c.1 q.2 ((all.honest d inside).orderly.tells c.0 q.0 q.1) in
      let v = r.receipt in
      let there = same_number h v.place place (Post v.pattern) (Post p) v.posted refl posted refl (v.numbered ∙ sym c.3) in
      let same = same_pattern h place v.pattern p (subst (λ k. PostAt h k v.pattern) there v.posted) posted in
      let by = receipt_posted q.0 q.1 r in
      (c.0, subst (λ w. IsPostedBy report c.0 place w) same (subst (λ k. IsPostedBy report c.0 k v.pattern) there by))

  -- the receive that was released for a step
  pub verdict_posted : {req : ℕ} {asked : Step} {answer : TestAnswer} (v : IsVerdict report.rank.ranks report.rank.log report.steps req asked answer) → IsPostedBy report req v.place v.pattern
  verdict_posted {req} v =
      let q = poster v.place v.pattern v.posted in
      subst (λ k. IsPostedBy report k v.place v.pattern) (same_step q.0 req (its_number q.1) v.named (sym q.1.numbered ∙ v.numbered)) q.1
