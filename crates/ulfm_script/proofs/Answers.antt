-- Right answers stay right while the log grows and more is known.
use Rattle.std.proofs.Common.{ℕ, ◌+◌, ◌≤◌, List, [], ◌∷◌, ◌++◌, refl, ◌∙◌, arith, inl, inr, append-nil, append_assoc}
use Rattle.ulfm_script.proofs.Common.{Step, Topic, Entry, Known, Learns, State, StepReport}
use Rattle.ulfm_script.specs.Answered.{OnlyTook, EntersBetween, How, by_call, left_by_call, by_decision, left_undecided, by_skip, AnswerFollows, EachAnswerFollows}
use Rattle.ulfm_script.proofs.Beginnings.{Grew, stood-grew, took-grew, enters-grew}

pub took-forth : (log : List Entry) (from to : ℕ) → OnlyTook log from to → from ≤ to
took-forth log from to h = omega (arith, h.ends)

pub enters-forth : (r : State) (asked : Step) (topic : Topic) (from to : ℕ) → EntersBetween r asked topic from to → from ≤ to
enters-forth r asked topic from to h = omega (arith, took-forth r.log from h.place h.took_before, took-forth r.log (h.place + 1) to h.took_after)

-- the places of answered steps never go back
pub how-forth : (known : Known) (r : State) (before : List StepReport) (from : ℕ) (report : StepReport) (old new : State) →
    How known r before from report old new → from ≤ report.at
how-forth known r before from report old new (by_call h) = took-forth r.log from report.at h.took
how-forth known r before from report old new (left_by_call h) = took-forth r.log from report.at h.took
how-forth known r before from report old new (by_decision h) = enters-forth r report.step h.topic from report.at h.entered
how-forth known r before from report old new (left_undecided h) = enters-forth r report.step h.topic from report.at h.entered
how-forth known r before from report old new (by_skip h) = took-forth r.log from report.at h.took

pub all-forth : (known : Known) (r : State) (before : List StepReport) (from : ℕ) (reports : List StepReport) (to : ℕ) → EachAnswerFollows known r before from reports to → from ≤ to
all-forth known r before from [] to h = omega (arith, h)
all-forth known r before from (x ∷ xs) to h =
    omega (arith, how-forth known r before from x h.1.old h.1.new h.1.how, h.1.onward, all-forth known r (before ++ x ∷ []) h.0 xs to h.2)

-- how a step was answered stays so
how-grew : (known later : Known) (r s : State) (to : ℕ) (before : List StepReport) (from : ℕ) (report : StepReport) (old new : State) → Learns r to known later → report.at ≤ to → Grew r s →
    How known r before from report old new → How later s before from report old new
how-grew known later r s to before from report old new k up g (by_call h) = by_call (record { took = took-grew r.log s.log g.more from report.at g.log h.took; answers = h.answers })
how-grew known later r s to before from report old new k up g (left_by_call h) =
    left_by_call (record { took = took-grew r.log s.log g.more from report.at g.log h.took; given_up = h.given_up; opens = h.opens; first = h.first })
how-grew known later r s to before from report old new k up g (by_decision h) =
    by_decision (record {
      topic = h.topic;
      entered = enters-grew r s report.step h.topic from report.at g h.entered;
      later = h.later;
      proposes = h.proposes;
      outcome = elim h.outcome [
        | inl a ↦ inl (record { held = a.held; knows = k.keeps h.topic a.held a.knows; adoption = a.adoption })
        | inr w ↦ inr (record { unknown = k.same report.step h.topic from report.at h.entered up ∙ w.unknown; refused = w.refused; only = w.only })
      ];
    })
how-grew known later r s to before from report old new k up g (left_undecided h) =
    left_undecided (record {
      topic = h.topic;
      entered = enters-grew r s report.step h.topic from report.at g h.entered;
      given_up = h.given_up;
      later = h.later;
      undecided = h.undecided;
      only = h.only;
    })
how-grew known later r s to before from report old new k up g (by_skip h) = by_skip (record { took = took-grew r.log s.log g.more from report.at g.log h.took; skipped = h.skipped; only = h.only })

pub answered-grew : (known later : Known) (r s : State) (limit : ℕ) (before : List StepReport) (from : ℕ) (report : StepReport) (to : ℕ) → Learns r limit known later → report.at ≤ limit → Grew r s → AnswerFollows known r before from report to → AnswerFollows later s before from report to
answered-grew known later r s limit before from report to k up g h = record {
  old = h.old;
  new = h.new;
  stood = stood-grew r s report.at h.old g h.stood;
  stood_next = stood-grew r s to h.new g h.stood_next;
  onward = h.onward;
  how = how-grew known later r s limit before from report h.old h.new k up g h.how;
}

pub all-grew : (known later : Known) (r s : State) (before : List StepReport) (from : ℕ) (reports : List StepReport) (to : ℕ) → Learns r to known later → Grew r s → EachAnswerFollows known r before from reports to → EachAnswerFollows later s before from reports to
all-grew known later r s before from [] to k g h = h
all-grew known later r s before from (x ∷ xs) to k g h =
    let up : x.at ≤ to = omega (arith, h.1.onward, all-forth known r (before ++ x ∷ []) h.0 xs to h.2) in
    (h.0, answered-grew known later r s to before from x h.0 k up g h.1, all-grew known later r s (before ++ x ∷ []) h.0 xs to k g h.2)

-- one more step is answered
all-push : (known : Known) (r : State) (before : List StepReport) (from : ℕ) (reports : List StepReport) (mid : ℕ) (x : StepReport) (to : ℕ) → EachAnswerFollows known r before from reports mid → AnswerFollows known r (before ++ reports) mid x to → EachAnswerFollows known r before from (reports ++ x ∷ []) to
all-push known r before from [] mid x to h a = (to, rw h (rw (append-nil before) at a), refl)
all-push known r before from (y ∷ ys) mid x to h a = (h.0, h.1, all-push known r (before ++ y ∷ []) h.0 ys mid x to h.2 (rw (append_assoc before (y ∷ []) ys) a))

pub answers-push : (known : Known) (r : State) (reports : List StepReport) (mid : ℕ) (x : StepReport) (to : ℕ) → EachAnswerFollows known r [] 0 reports mid → AnswerFollows known r reports mid x to → EachAnswerFollows known r [] 0 (reports ++ x ∷ []) to
answers-push known r reports mid x to h a = all-push known r [] 0 reports mid x to h a
