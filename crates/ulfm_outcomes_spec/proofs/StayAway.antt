-- Answers that no schedule has together aren't all among those of one.
use Rattle.std.proofs.Common.{◌≡◌, ◌&&◌, ◌||◌, not, ℕ, zero, suc, Bool, true, false, cond, List, [], ◌∷◌, Contains, filter, map, length, refl, ap, sym, subst, ◌∙◌, arith, Option, Some, None, slice_get, codes, true≢false}
use Rattle.std.proofs.lemmas.Bool.{and_from, false≢true}
use Rattle.std.proofs.lemmas.Slice.Eq.{bytes_eq-Decides}
use Rattle.std.specs.List.{list_all}
use Rattle.std.specs.Str.{bytes_eq}
use Rattle.ulfm_job.specs.Begins.{begins}
use Rattle.ulfm_job.specs.Job.{JobView, may_leave}
use Rattle.ulfm_job.specs.declared.clause.Clause.{Clause}
use Rattle.ulfm_answer.specs.Reacting.{begins_in}
use Rattle.ulfm_answer.specs.Report.{Report}
use Rattle.ulfm_answer.specs.Trace.{answer_text}
use Rattle.ulfm_answer.specs.declared.answer.StepAnswer.{StepAnswer}
use Rattle.ulfm_answer.specs.declared.answer.StepAnswer.TheVariants.{Sent, Posted, Done, Over, Pending, Found, Cancelled, Ranks, Acked, Revoked, Made, Shrunk, Agreed, Noted, Stopped, Unfinished, Skipped, Refused}
use Rattle.ulfm_answer.specs.declared.answer.StepReport.{StepReport}
use Rattle.ulfm_world.specs.World.{player_at}
use Rattle.ulfm_reduction_laws.specs.Played.{SameAnswers}
use Rattle.ulfm_outcomes_list.specs.Goals.{AreOfClauses, asks_open, step_of}
use Rattle.ulfm_outcomes_list.specs.declared.goals.Goals.{Goals}
use Rattle.ulfm_outcomes_spec.specs.Goals.{IsPossible, is_answered, is_answered_otherwise, is_some_open}
use Rattle.ulfm_outcomes_spec.specs.Scheduled.{AnswersStayAway, AreOfSchedule, HasAnswer}

-- no answer begins as a step that never ends is told
never_ends_not : (answer : StepAnswer) → begins (answer_text answer) (codes "never ends") ≡ true → ⊥
never_ends_not Sent is = false≢true is
never_ends_not (Posted id) is = false≢true is
never_ends_not (Done status body) is = false≢true is
never_ends_not (Over reason) is = false≢true is
never_ends_not Pending is = false≢true is
never_ends_not (Found id status) is = false≢true is
never_ends_not Cancelled is = false≢true is
never_ends_not (Ranks members) is = false≢true is
never_ends_not (Acked total) is = false≢true is
never_ends_not Revoked is = false≢true is
never_ends_not (Made child) is = false≢true is
never_ends_not (Shrunk child group me) is = false≢true is
never_ends_not (Agreed value missing) is = false≢true is
never_ends_not Noted is = false≢true is
never_ends_not Stopped is = false≢true is
never_ends_not Unfinished is = false≢true is
never_ends_not Skipped is = false≢true is
never_ends_not (Refused why) is = false≢true is

-- one answer alone begins so
unfinished_alone : (answer : StepAnswer) → begins (answer_text answer) (codes "unfinished") ≡ true → answer ≡ Unfinished
unfinished_alone Sent is = absurd (false≢true is)
unfinished_alone (Posted id) is = absurd (false≢true is)
unfinished_alone (Done status body) is = absurd (false≢true is)
unfinished_alone (Over reason) is = absurd (false≢true is)
unfinished_alone Pending is = absurd (false≢true is)
unfinished_alone (Found id status) is = absurd (false≢true is)
unfinished_alone Cancelled is = absurd (false≢true is)
unfinished_alone (Ranks members) is = absurd (false≢true is)
unfinished_alone (Acked total) is = absurd (false≢true is)
unfinished_alone Revoked is = absurd (false≢true is)
unfinished_alone (Made child) is = absurd (false≢true is)
unfinished_alone (Shrunk child group me) is = absurd (false≢true is)
unfinished_alone (Agreed value missing) is = absurd (false≢true is)
unfinished_alone Noted is = absurd (false≢true is)
unfinished_alone Stopped is = absurd (false≢true is)
unfinished_alone Unfinished is = refl
unfinished_alone Skipped is = absurd (false≢true is)
unfinished_alone (Refused why) is = absurd (false≢true is)

-- where answers are the same, the same clauses hold
same_holds : (xs ys : List StepReport) (k : ℕ) (words : List ℕ) → SameAnswers xs ys → begins_in (slice_get xs k) words ≡ begins_in (slice_get ys k) words
same_holds [] [] k words h = refl
same_holds (x ∷ xs) (y ∷ ys) zero words h = ap (λ (a : StepAnswer). begins (answer_text a) words) h.0.answer
same_holds (x ∷ xs) (y ∷ ys) (suc k) words h = same_holds xs ys k words h.1
same_holds [] (y ∷ ys) k words h = absurd h
same_holds (x ∷ xs) [] k words h = absurd h

module _ (j : JobView) (reports : List Report) (h : AreOfSchedule j reports) where
  -- such reports have no answer that asks for a step which never ends
  none_open : (c : Clause) → HasAnswer reports c → asks_open j c ≡ false
  none_open c a = by (slice_get a.told.steps c.step) refl a.holds (bytes_eq c.words (codes "never ends")) (bytes_eq c.words (codes "unfinished")) (may_leave j c.rank c.step) refl refl refl
    where
      by : (o : Option StepReport) → slice_get a.told.steps c.step ≡ o → begins_in o c.words ≡ true → (never left may : Bool) → bytes_eq c.words (codes "never ends") ≡ never → bytes_eq c.words (codes "unfinished") ≡ left
          → may_leave j c.rank c.step ≡ may → (never || (left && not may)) ≡ false
      by None there begun never left may is_never is_left is_may = absurd (false≢true begun)
      by (Some report) there begun true left may is_never is_left is_may =
          absurd (never_ends_not report.answer (subst (λ (words : List ℕ). begins (answer_text report.answer) words ≡ true) ((bytes_eq-Decides c.words (codes "never ends")).0 is_never) begun))
      by (Some report) there begun false false may is_never is_left is_may = refl
      by (Some report) there begun false true true is_never is_left is_may = refl
      by (Some report) there begun false true false is_never is_left is_may =
          let is = unfinished_alone report.answer (subst (λ (words : List ℕ). begins (answer_text report.answer) words ≡ true) ((bytes_eq-Decides c.words (codes "unfinished")).0 is_left) begun) in
          absurd (true≢false (sym ((h.whole c.rank c.step a.told report a.here there).0 is) ∙ is_may))

  -- the world of the schedule has each answer that the reports have
  answered : (c : Clause) → HasAnswer reports c → is_answered h.world c ≡ true
  answered c a = sym (same_holds a.told.steps (player_at h.world c.rank).done c.step c.words (h.played c.rank a.told a.here).answers) ∙ a.holds

  -- so of clauses that hold all are answers, none is of an open step, and each is answered
  all_asked : (cs : List Clause) → ((c : Clause) → Contains cs c → HasAnswer reports c) → filter (λ c. not (asks_open j c)) cs ≡ cs
  all_asked [] each = refl
  all_asked (c ∷ cs) each =
      ap (λ (b : Bool). cond (not b) (c ∷ filter (λ x. not (asks_open j x)) cs) (filter (λ x. not (asks_open j x)) cs)) (none_open c (each c (0, omega arith, refl)))
      ∙ ap (λ (xs : List Clause). c ∷ xs) (all_asked cs (λ x there. each x (suc there.0, (let low = there.1 in omega (arith, low)), there.2)))

  none_left : (cs : List Clause) → ((c : Clause) → Contains cs c → HasAnswer reports c) → filter (asks_open j) cs ≡ []
  none_left [] each = refl
  none_left (c ∷ cs) each =
      ap (λ (b : Bool). cond b (c ∷ filter (asks_open j) cs) (filter (asks_open j) cs)) (none_open c (each c (0, omega arith, refl)))
      ∙ none_left cs (λ x there. each x (suc there.0, (let low = there.1 in omega (arith, low)), there.2))

  all_answered : (cs : List Clause) → ((c : Clause) → Contains cs c → HasAnswer reports c) → list_all (is_answered h.world) cs ≡ true
  all_answered [] each = refl
  all_answered (c ∷ cs) each =
      and_from (is_answered h.world c) (list_all (is_answered h.world) cs) (answered c (each c (0, omega arith, refl)))
      (all_answered cs (λ x there. each x (suc there.0, (let low = there.1 in omega (arith, low)), there.2)))

  -- what all these reports answer a schedule shows
  shown : (clauses : List Clause) (goals : Goals) → AreOfClauses j clauses goals → ((c : Clause) → Contains clauses c → HasAnswer reports c) → IsPossible j goals
  shown clauses goals are each =
      let left : goals.left.items ≡ [] = are.left ∙ ap (map step_of) (none_left clauses each) in
      record {
        world = h.world;
        comes = h.comes;
        shows = record {
          answers = ap (list_all (is_answered h.world)) (are.answers ∙ all_asked clauses each) ∙ all_answered clauses each;
          others = ap (list_all (is_answered_otherwise h.world)) are.others;
          left = λ o there. let low = there.1 in absurd (omega (arith, low, ap length left));
        };
        ends = λ some. absurd (true≢false (sym some ∙ ap is_some_open left));
      }

pub answers_stay_away : AnswersStayAway
answers_stay_away j clauses goals reports are never h each = never (shown j reports h clauses goals are each)
