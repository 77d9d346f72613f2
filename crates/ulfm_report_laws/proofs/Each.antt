-- What each answer of a rank says by itself: that none is refused by a revocation, and which waits pend.
use Rattle.std.proofs.Common.{◌≡◌, ◌≢◌, ℕ, Bool, true, false, List, ◌∷◌, length, take, refl, ap, sym, ◌∙◌, subst, inl, inr}
use Rattle.ulfm_report_laws.proofs.Common.{Agree, Decision, Inboxes, Known, OutOfMemory, Refused, Report, Revoked, Shrink, Skipped, State, Step, StepAnswer, StepReport, StoodAt, TestAnswer, Topic, Unfinished, Wait, at, false≢true, none-some, step_report}
use Rattle.ulfm_base.specs.declared.error.CallError.{CallError}
use Rattle.std.specs.List.{list_all}
use Rattle.ulfm_rank.specs.Checks.{Check, FailsOrStarves, adopt_checks, agree_checks, shrink_checks}
use Rattle.ulfm_answer.specs.declared.answer.StepAnswer.TheVariants.{Pending}
use Rattle.ulfm_script.specs.Answered.{AnswerFollows, EntersBetween, by_call, left_by_call, by_decision, left_undecided, by_skip}
use Rattle.ulfm_script.specs.Calls.{AnswersStep, Tests}
use Rattle.ulfm_script.specs.Deciding.{AnswersAdoption}
use Rattle.ulfm_script.specs.Player.{is_joint}
use Rattle.ulfm_log.specs.declared.entry.TestAnswer.TheVariants.{NotYet, Pending as TestPending}
use Rattle.ulfm_rank.specs.Answer.{IsLeftWaiting}
use Rattle.ulfm_report_laws.specs.Lawful.{LawfulSoFar}
use Rattle.ulfm_report_laws.specs.Pending.{PendsExactly, RevokedPairsNone, RevokedRefusesNone, WaitsAt}
use Rattle.std.proofs.Math.Seq.{take-append_seam}
use Rattle.ulfm_script.proofs.Entrances.{nth_answered}
use Rattle.ulfm_report_laws.proofs.Refused.{refused_or_starved}
use Rattle.ulfm_report_laws.proofs.Revoking.{pairs_before}
use Rattle.ulfm_report_laws.proofs.Whole.{known_of}

-- the answer of a step follows, after those before it
record FollowsAt (known : Known) (rank : State) (before : List StepReport) (report : StepReport) : Type 0 where
  from : ℕ
  to : ℕ
  follows : AnswerFollows known rank before from report to

-- an error isn't that of a revocation
abbrev is_other : CallError → Bool
is_other Revoked = false
is_other _ = true

unrevoked : (checks : List Check) (e : CallError) → list_all (λ (check : Check). is_other check.1) checks ≡ true → FailsOrStarves checks e → e ≢ Revoked
unrevoked checks e all refused is = false≢true (ap is_other (sym is) ∙ refused_or_starved is_other checks e refl all refused)

pub by_entry : (before : List StepReport) (r : State) (asked : Step) (answer : StepAnswer) (new : State) → is_joint asked ≡ true → AnswersStep before r asked answer new → answer ≢ Refused Revoked
by_entry before r (Shrink comm again) (Refused e) new joint a is = let same : e ≡ Revoked = cc in unrevoked (shrink_checks again r comm) e refl a.0 same
by_entry before r (Agree flag comm) (Refused e) new joint a is = let same : e ≡ Revoked = cc in unrevoked (agree_checks r comm) e refl a.0 same
by_entry before r (Shrink comm again) _ new joint a is = absurd a
by_entry before r (Agree flag comm) _ new joint a is = absurd a
by_entry before r _ answer new joint a is = absurd (false≢true joint)

by_adoption : (r : State) (asked : Step) (topic : Topic) (held : Decision) (answer : StepAnswer) (new : State) → is_joint asked ≡ true → AnswersAdoption r asked topic held answer new → answer ≢ Refused Revoked
by_adoption r (Shrink comm again) topic held (Refused e) new joint a is = let same : e ≡ Revoked = cc in unrevoked (adopt_checks r topic held) e refl a.0 same
by_adoption r (Agree flag comm) topic held (Refused e) new joint a is = let same : e ≡ Revoked = cc in unrevoked (adopt_checks r topic held) e refl a.0 same
by_adoption r (Shrink comm again) topic held _ new joint a is = let bad : ⊥ = cc in bad
by_adoption r (Agree flag comm) topic held _ new joint a is = let bad : ⊥ = cc in bad
by_adoption r _ topic held answer new joint a is = absurd (false≢true joint)

-- another answer isn't this one
other_answer : (one answer : StepAnswer) → one ≢ Refused Revoked → answer ≡ one → answer ≢ Refused Revoked
other_answer one answer apart same is = apart (sym same ∙ is)

joint_unrevoked : (known : Known) (rank : State) (before : List StepReport) (report : StepReport) → FollowsAt known rank before report → is_joint report.step ≡ true → report.answer ≢ Refused Revoked
joint_unrevoked known rank before report f joint = elim f.follows.how [
  | by_call a ↦ by_entry before f.follows.old report.step report.answer f.follows.new joint a.answers
  | left_by_call l ↦ other_answer Unfinished report.answer (λ e. cc) l.given_up
  | by_decision d ↦ elim d.outcome [
    | inl adopted ↦ by_adoption f.follows.old report.step d.topic adopted.held report.answer f.follows.new joint adopted.adoption
    | inr lacks ↦ other_answer (Refused OutOfMemory) report.answer (λ e. cc) lacks.refused
  ]
  | left_undecided u ↦ other_answer Unfinished report.answer (λ e. cc) u.given_up
  | by_skip s ↦ other_answer Skipped report.answer (λ e. cc) s.skipped
]

-- a wait enters nothing
enters_none : (rank : State) (req : ℕ) (topic : Topic) (from to : ℕ) → EntersBetween rank (Wait req) topic from to → ⊥
enters_none rank req topic from to h = none-some topic h.enters.about

module _ (known : Known) (told : Report) (k req place polls : ℕ) where
  -- a test that leaves the receive says that it waits
  waits_at : (pending : Bool) (test : TestAnswer) (old new : State) → StoodAt told.rank place old → (t : Tests (take k told.steps) old req test new) → IsLeftWaiting old.ranks old.log t.pairing t.place t.pattern pending → WaitsAt told k req place pending
  waits_at pending test old new stood t waits = record {
    then = old;
    stood = stood;
    id = t.id;
    posted = t.posted;
    post_place = t.place;
    pattern = t.pattern;
    request = t.request;
    pairing = t.pairing;
    lawful = t.lawful;
    waits = waits;
  }

  told_pending : FollowsAt known told.rank (take k told.steps) (step_report (Wait req) Pending place polls) → WaitsAt told k req place true
  told_pending f = elim f.follows.how [
    | by_call a ↦ let t : Tests (take k told.steps) f.follows.old req TestPending f.follows.new = a.answers in waits_at true TestPending f.follows.old f.follows.new f.follows.stood t (t.answers t.place t.pattern t.request t.pairing t.lawful)
    | left_by_call l ↦ let is : Pending ≡ Unfinished = l.given_up in let bad : ⊥ = cc in absurd bad
    | by_decision d ↦ absurd (enters_none told.rank req d.topic f.from place d.entered)
    | left_undecided u ↦ absurd (enters_none told.rank req u.topic f.from place u.entered)
    | by_skip s ↦ let is : Pending ≡ Skipped = s.skipped in let bad : ⊥ = cc in absurd bad
  ]

  left_waiting : FollowsAt known told.rank (take k told.steps) (step_report (Wait req) Unfinished place polls) → WaitsAt told k req place false
  left_waiting f = elim f.follows.how [
    | by_call a ↦ absurd a.answers
    | left_by_call l ↦ let t : Tests (take k told.steps) f.follows.old req NotYet f.follows.new = l.opens in waits_at false NotYet f.follows.old f.follows.new f.follows.stood t (t.answers t.place t.pattern t.request t.pairing t.lawful)
    | by_decision d ↦ absurd (enters_none told.rank req d.topic f.from place d.entered)
    | left_undecided u ↦ absurd (enters_none told.rank req u.topic f.from place u.entered)
    | by_skip s ↦ let is : Unfinished ≡ Skipped = s.skipped in let bad : ⊥ = cc in absurd bad
  ]

-- these laws, of reports that are lawful so far
module _ {inboxes : Inboxes} {knows : List Known} {reports : List Report} (h : LawfulSoFar inboxes knows reports) where
  follows_at : (r k : ℕ) (told : Report) (step : StepReport) (here : at reports r told) → at told.steps k step → FollowsAt (known_of h r told here).0 told.rank (take k told.steps) step
  follows_at r k told step here stands =
      let known = known_of h r told here in
      let n = nth_answered known.0 told (h.answers r told known.0 here known.1) k step stands in
      let a = n.0 in
      let before : a.done ≡ take k told.steps = sym (take-append_seam a.done (step ∷ a.rest)) ∙ ap (take (length a.done)) a.whole ∙ ap (λ (m : ℕ). take m told.steps) n.1 in
      subst (λ (front : List StepReport). FollowsAt known.0 told.rank front step) before (record { from = a.from; to = a.to; follows = a.follows })

  pub revoked_refuses_none : RevokedRefusesNone reports
  revoked_refuses_none r k told step here at_k joint = joint_unrevoked (known_of h r told here).0 told.rank (take k told.steps) step (follows_at r k told step here at_k) joint

  pub pends_exactly : PendsExactly reports
  pends_exactly = record {
    pending = λ r k req place polls told here at_k. told_pending (known_of h r told here).0 told k req place polls (follows_at r k told (step_report (Wait req) Pending place polls) here at_k);
    left = λ r k req place polls told here at_k. left_waiting (known_of h r told here).0 told k req place polls (follows_at r k told (step_report (Wait req) Unfinished place polls) here at_k);
  }

  pub revoked_pairs_none : RevokedPairsNone reports
  revoked_pairs_none d i b told front rest pattern pairing here whole revoked law posted pairs =
      let known = known_of h d told here in
      pairs_before told.rank.log front rest pattern pairing i b (h.answers d told known.0 here known.1).paired.well_formed whole revoked law posted pairs
