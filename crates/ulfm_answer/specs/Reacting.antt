-- On what conditions a step is played, and what is expected of its answer.
use Rattle.std.specs.Prelude.{◌≡◌, ◌==◌, ◌+◌, ℕ, Bool, true, false, not, ◌&&◌, ◌||◌, List, [], ◌∷◌, length, take, Option, Some, None, slice_get, if◌then◌else◌}
use Rattle.std.specs.List.{list_all, list_any}
use Rattle.ulfm_job.specs.Begins.{begins}
use Rattle.ulfm_job.specs.Job.{JobView}
use Rattle.ulfm_job.specs.declared.clause.Clause.{Clause}
use Rattle.ulfm_job.specs.declared.condition.Condition.{Condition}
use Rattle.ulfm_answer.specs.declared.answer.StepReport.{StepReport}
use Rattle.ulfm_answer.specs.Report.{Report, is_skipped}
use Rattle.ulfm_answer.specs.Trace.{answer_text}

-- the answer of an answered step, where there is one, begins with words
abbrev pub begins_in : Option StepReport → List ℕ → Bool
begins_in None words = false
begins_in (Some report) words = begins (answer_text report.answer) words

-- a clause holds of these answered steps of its rank
abbrev pub holds_of : List StepReport → Clause → Bool
holds_of done c = begins_in (slice_get done c.step) c.words

-- the step k of the rank r asks for a clause
abbrev pub is_of : ℕ → ℕ → Clause → Bool
is_of r k c = (c.rank == r) && (c.at == k)

-- a step that asks for none of these clauses, or for one that holds of these answered steps
abbrev pub one_holds : List Clause → ℕ → ℕ → List StepReport → Bool
one_holds clauses r k done = not (list_any (is_of r k) clauses) || list_any (λ (c : Clause). is_of r k c && holds_of done c) clauses

-- a text begins with one of these words, or by `is_not` with none of them
abbrev pub begins_so : Bool → List (List ℕ) → List ℕ → Bool
begins_so is_not words text = if is_not then not (list_any (begins text) words) else list_any (begins text) words

-- so does the answer of an answered step, where there is one
abbrev pub fulfils_in : Option StepReport → Bool → List (List ℕ) → Bool
fulfils_in None is_not words = false
fulfils_in (Some report) is_not words = begins_so is_not words (answer_text report.answer)

-- a condition holds of these answered steps of its rank
abbrev pub fulfils : List StepReport → Condition → Bool
fulfils done c = fulfils_in (slice_get done c.step) c.is_not c.words

-- the step k of the rank r has the condition
abbrev pub is_asked_by : ℕ → ℕ → Condition → Bool
is_asked_by r k c = (c.rank == r) && (c.at == k)

-- a condition belongs to the alternative a of the step k of the rank r
abbrev pub is_part_of : ℕ → ℕ → ℕ → Condition → Bool
is_part_of r k a c = is_asked_by r k c && (c.alternative == a)

-- all conditions of the alternative a of the step k of the rank r hold of these answered steps
abbrev pub alternative_holds : List Condition → ℕ → ℕ → List StepReport → ℕ → Bool
alternative_holds conditions r k done a = list_all (λ (c : Condition). not (is_part_of r k a c) || fulfils done c) conditions

-- the step k of the rank r has no condition, or one whose alternative holds of these answered steps
abbrev pub one_alternative : List Condition → ℕ → ℕ → List StepReport → Bool
one_alternative conditions r k done =
    not (list_any (is_asked_by r k) conditions)
    || list_any (λ (c : Condition). is_asked_by r k c && alternative_holds conditions r k done c.alternative) conditions

-- The rule of reacting jobs: the next step of the rank r is played where it has no condition, or all those of one of its alternatives hold
-- of the answers so far.
abbrev pub is_played : List Condition → ℕ → List StepReport → Bool
is_played conditions r done = one_alternative conditions r (length done) done

-- each step of the rank r is skipped exactly where it isn't to be played, by the answers before it
abbrev pub SkipsRightly : List Condition → ℕ → List StepReport → Type 0
SkipsRightly conditions r done =
    (k : ℕ) (report : StepReport) → slice_get done k ≡ Some report
    → is_skipped report.answer ≡ not (is_played conditions r (take k done))

-- an answered step of the rank r was skipped, or its answer is one that it expects, if it expects any
abbrev pub is_met : List Clause → ℕ → ℕ → List StepReport → StepReport → Bool
is_met expected r k done report = is_skipped report.answer || one_holds expected r k done

-- each of these steps of a rank, the first of which is numbered k, was skipped, or its answer is one that it expects
abbrev pub each_met : List Clause → ℕ → ℕ → List StepReport → List StepReport → Bool
each_met expected r k done [] = true
each_met expected r k done (report ∷ reports) = is_met expected r k done report && each_met expected r (k + 1) done reports

-- the answers of a rank are as its steps expect
abbrev pub meets_expected : List Clause → Report → Bool
meets_expected expected report = each_met expected report.rank.me 0 report.steps report.steps

-- the answers of all ranks are as their steps expect
abbrev pub all_met : JobView → List Report → Bool
all_met job reports = list_all (meets_expected job.expected) reports
