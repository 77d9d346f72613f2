-- What an engine produces is lawful.
use Rattle.std.proofs.Common.{◌≡◌, ◌≤◌, ℕ, List, [], length, ap, sym, subst, ◌∙◌, arith, Some, All}
use Rattle.ulfm_report_laws.proofs.Common.{at, took, Report, Inboxes, IsAtRest, slice_get_within, IsSigned, there, Known, keeps_of, signed_of, AdoptOwn, AdoptOne, EnterOnce, EntersOnce}
use Rattle.ulfm_board.specs.Known.{BothAgree, known_at}
use Rattle.ulfm_job.specs.Job.{JobView}
use Rattle.ulfm_base.specs.Lists.{InPlace}
use Rattle.ulfm_report_laws.specs.Answers.{AllAgree, AllAnswersFollow}
use Rattle.ulfm_report_laws.specs.Decisions.{AreTrue, NoneIsForeign}
use Rattle.ulfm_report_laws.specs.Flow.{Flows}
use Rattle.ulfm_report_laws.specs.Lawful.{AreProduced, KnowAtRest, LawfulReport, LawfulSoFar}
use Rattle.ulfm_report_laws.specs.Order.{HaveOneOrder}
use Rattle.ulfm_report_laws.proofs.Agreeing.{agreement}
use Rattle.ulfm_report_laws.proofs.Arrivals.{read_at, come_as_sent, all_come}
use Rattle.ulfm_report_laws.proofs.AtRest.{knows-stopped, agrees-revoked}
use Rattle.ulfm_report_laws.proofs.Borne.{borne_out}
use Rattle.ulfm_report_laws.proofs.Faithful.{faithful}
use Rattle.ulfm_report_laws.proofs.Finding.{AreHonest}
use Rattle.ulfm_report_laws.proofs.Flowing.{AreFlowing, gone_stopped}
use Rattle.ulfm_report_laws.proofs.Honest.{IsHonest}
use Rattle.ulfm_report_laws.proofs.Once.{once_of}
use Rattle.ulfm_report_laws.proofs.OneGroup.{one_group}
use Rattle.ulfm_report_laws.proofs.Ordered.{revoked_by_order}
use Rattle.ulfm_report_laws.proofs.Own.{own_at}
use Rattle.ulfm_report_laws.proofs.Proposing.{AllKeep, proposes_each}
use Rattle.ulfm_report_laws.proofs.Taken.{taken_of}

-- steps that are true of their logs, and items that flow, are all that a reader needs
pub honest_reports : {inboxes : Inboxes} {reports : List Report} → AreFlowing inboxes reports → ((k : ℕ) (told : Report) → at reports k told → IsHonest told.rank.ranks told.rank.log told.steps) → AreHonest reports
honest_reports {inboxes} {reports} h honest = record {
  honest = λ d i. let x = there reports d i in rw (read_at reports d x.1) (honest d x.0 x.1);
  counted = λ d i. let x = there reports d i in ap (λ r. r.rank.ranks) (read_at reports d x.1) ∙ h.counted d x.0 x.1;
  sent = come_as_sent inboxes reports h honest;
}

-- what has to be shown of reports, whether or not scripts ended
pub record AreMade (inboxes : Inboxes) (knows : List Known) (reports : List Report) : Type 0 where
  pub known_each : length knows ≡ length reports
  pub counted : (k : ℕ) (told : Report) → at reports k told → told.rank.ranks ≡ length reports
  pub within : (k : ℕ) (told : Report) → at reports k told → (s : ℕ) → length reports ≤ s → took told.rank.log s ≡ []
  pub order : InPlace (λ (report : Report). report.rank.me) reports
  pub flow : Flows inboxes reports
  pub answers : AllAnswersFollow knows reports
  pub agreed : AllAgree knows
  pub decisions : AreTrue reports
  pub none_foreign : NoneIsForeign reports
  pub one_order : HaveOneOrder reports

module _ (inboxes : Inboxes) (knows : List Known) (reports : List Report) (h : AreMade inboxes knows reports) where
  flowing : AreFlowing inboxes reports
  flowing = record { order = h.order; counted = h.counted; flow = h.flow }

  -- what is known for the rank of a report
  known_of : (k : ℕ) {told : Report} → at reports k told → (known : Known) × at knows k known
  known_of k {told} here = there knows k (let inside = slice_get_within reports k told here in omega (arith, inside, h.known_each))

  adopt_own : AdoptOwn knows reports
  adopt_own k told known d here knowing adopted = own_at known told adopted.0 d (h.answers k told known here knowing) adopted.1

  adopt_one : AdoptOne reports
  adopt_one r s told other d e at_r at_s first second same =
      let x = known_of r at_r in let y = known_of s at_s in
      let e_known = ap (known_at y.0) same ∙ (adopt_own s other y.0 e at_s y.1 second).held in
      let both = h.agreed r s x.0 y.0 x.1 y.1 d.topic in
      let B = BothAgree in
      sym (subst (λ o. B (Some d) o) e_known (subst (λ o. B o (known_at y.0 d.topic)) ((adopt_own r told x.0 d at_r x.1 first).held) both))

  all_keep : AllKeep reports
  all_keep r told here =
      let x = known_of r here in
      keeps_of (length reports) r x.0 told (h.answers r told x.0 here x.1) (h.counted r told here) (h.order r told here) (slice_get_within reports r told here)

  each_once : EnterOnce reports
  each_once r told here =
      let x = known_of r here in
      once_of x.0 told (h.answers r told x.0 here x.1) (omega (arith, slice_get_within reports r told here, h.counted r told here, h.order r told here))

  signed : (k : ℕ) (told : Report) → at reports k told → All (IsSigned told.rank.me) told.rank.log
  signed k told here = let x = known_of k here in signed_of x.0 told (h.answers k told x.0 here x.1)

  honest : (k : ℕ) (told : Report) → at reports k told → IsHonest told.rank.ranks told.rank.log told.steps
  honest k told here =
      let x = known_of k here in
      borne_out x.0 told (h.answers k told x.0 here x.1) (rw (h.counted k told here) (taken_of inboxes reports flowing signed (λ d r q s far. h.within d r q s far) k told here))

  at_rest : IsAtRest inboxes reports → KnowAtRest reports
  at_rest rest = record {
    known = knows-stopped inboxes reports flowing rest;
    agreed = agrees-revoked inboxes reports flowing rest;
    proposed = proposes_each inboxes reports flowing adopt_one all_keep rest;
    come = all_come inboxes reports flowing honest rest;
  }

  pub lawful_so_far : LawfulSoFar inboxes knows reports
  lawful_so_far = record {
    known_each = h.known_each;
    counted = h.counted;
    order = h.order;
    flow = h.flow;
    one_order = h.one_order;
    answers = h.answers;
    agreed = h.agreed;
    gone = gone_stopped flowing;
    revoked = revoked_by_order h.one_order;
    entered = each_once;
    own = adopt_own;
    decisions = h.decisions;
    none_foreign = h.none_foreign;
    one_decision = adopt_one;
    one_group = one_group reports adopt_one h.counted;
    agreements = agreement reports (λ r told here. let x = known_of r here in (x.0, h.answers r told x.0 here x.1)) h.decisions all_keep h.order adopt_one;
    reader = faithful reports (honest_reports flowing honest);
    rest = at_rest;
  }

module _ (job : JobView) (inboxes : Inboxes) (knows : List Known) (reports : List Report) (h : AreProduced job inboxes knows reports) where
  made : AreMade inboxes knows reports
  made = record {
    known_each = h.known_each ∙ sym h.each;
    counted = λ k told here. (h.scripts k told here).counted ∙ sym h.each;
    within = λ k told here s far. (h.scripts k told here).within s (omega (arith, far, h.each));
    order = h.order;
    flow = h.flow;
    answers = h.answers;
    agreed = h.agreed;
    decisions = h.decisions;
    none_foreign = h.none_foreign;
    one_order = h.one_order;
  }

  pub lawful : LawfulReport job inboxes knows reports
  lawful = let all = lawful_so_far inboxes knows reports made in record {
    each = h.each;
    flow = all.flow;
    one_order = all.one_order;
    known_each = h.known_each;
    answers = all.answers;
    agreed = all.agreed;
    gone = all.gone;
    revoked = all.revoked;
    entered = all.entered;
    own = all.own;
    decisions = all.decisions;
    none_foreign = all.none_foreign;
    one_decision = all.one_decision;
    one_group = all.one_group;
    agreements = all.agreements;
    scripts = h.scripts;
    order = all.order;
    reader = all.reader;
    rest = all.rest;
  }

-- lawful reports are so at each moment, the last one too
abbrev pub so_far : {job : JobView} {inboxes : Inboxes} {knows : List Known} {reports : List Report} → LawfulReport job inboxes knows reports → LawfulSoFar inboxes knows reports
so_far h = record {
  known_each = h.known_each ∙ sym h.each;
  counted = λ k told here. (h.scripts k told here).counted ∙ sym h.each;
  order = h.order;
  flow = h.flow;
  one_order = h.one_order;
  answers = h.answers;
  agreed = h.agreed;
  gone = h.gone;
  revoked = h.revoked;
  entered = h.entered;
  own = h.own;
  decisions = h.decisions;
  none_foreign = h.none_foreign;
  one_decision = h.one_decision;
  one_group = h.one_group;
  agreements = h.agreements;
  reader = h.reader;
  rest = h.rest;
}

-- a rank enters each topic with the failures that it knows then
pub lawful_enters : {inboxes : Inboxes} {knows : List Known} {reports : List Report} → LawfulSoFar inboxes knows reports → (r : ℕ) (told : Report) → at reports r told → EntersOnce told.rank.log
lawful_enters {inboxes} {knows} {reports} h r told here =
    let inside = slice_get_within reports r told here in
    let known = there knows r (omega (arith, inside, h.known_each)) in
    (keeps_of (length reports) r known.0 told (h.answers r told known.0 here known.1) (h.counted r told here) (h.order r told here) inside).enters_once
