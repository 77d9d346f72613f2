-- What each thing that happens to a rank keeps, all that happened to it keeps, where its answers are right.
use Rattle.std.proofs.Common.{◌≡◌, ℕ, ◌+◌, Bool, true, false, List, [], ◌∷◌, ◌++◌, length, take, refl, sym, subst, inl, inr, ◌⊎◌, append-nil, append_assoc, Option, Some, None, All}
use Rattle.std.proofs.Math.Seq.{take-length}
use Rattle.ulfm_script.proofs.Common.{AnswersAdoption, AnswersFollowSoFar, AnswersStep, EntersBy, Topic, Decision, Entry, is_joint, Known, known_at, LeavesOpen, Player, Refused, Report, Shrink, Agree, Stands, State, Step, StepReport, topic_of, Skipped, Unfinished, OutOfMemory, All-head, All-tail, none-some}
use Rattle.ulfm_script.specs.inside.SoFar.{EntersSince}
use Rattle.ulfm_script.proofs.Beginnings.{front_is, stood_is, took_is}
use Rattle.ulfm_script.proofs.Rounds.{entered-topic}
use Rattle.ulfm_script.specs.Answered.{StoodAt, IsTook, OnlyTook, EntersBetween, AnsweredByDecision, by_call, left_by_call, by_decision, left_undecided, by_skip, AnswerFollows, EachAnswerFollows, AnswersFollow}

-- a step that enters its topic is left open
opens_by : (done : List StepReport) (old : State) (asked : Step) (topic : Topic) (new : State) → EntersBy old asked topic new → LeavesOpen done old asked new
opens_by done old (Shrink comm again) topic new h = (topic, h)
opens_by done old (Agree flag comm) topic new h = (topic, h)
opens_by done old _ topic new h = absurd (none-some topic h.about)

-- K holds of the answered steps and the log after each thing that may happen to the rank r, if it held before: an item is
-- taken, a step is answered by a call, left open by one, answered by a decision, or ended without either: given up, skipped, or
-- out of memory
pub record KeepsAll (known : Known) (r : State) (K : List StepReport → List Entry → Type 0) : Type 0 where
  pub takes : (done : List StepReport) (log : List Entry) (e : Entry) → IsTook e → K done log → K done (log ++ e ∷ [])
  pub answers : (n : ℕ) (old new : State) (done : List StepReport) (report : StepReport) → StoodAt r n old → AnswersStep done old report.step report.answer new → K done old.log → K (done ++ report ∷ []) new.log
  pub opens : (n : ℕ) (old new : State) (done : List StepReport) (asked : Step) → StoodAt r n old → LeavesOpen done old asked new → K done old.log → K done new.log
  pub adopts : (n : ℕ) (old new : State) (done : List StepReport) (report : StepReport) (topic : Topic) (held : Decision) → StoodAt r n old → topic_of old.log report.step ≡ Some topic → known_at known topic ≡ Some held → AnswersAdoption old report.step topic held report.answer new → K done old.log → K (done ++ report ∷ []) new.log
  pub ends : (log : List Entry) (done : List StepReport) (report : StepReport) → (report.answer ≡ Unfinished) ⊎ ((report.answer ≡ Skipped) ⊎ (report.answer ≡ Refused OutOfMemory)) → K done log → K (done ++ report ∷ []) log

module _ (known : Known) (r : State) (K : List StepReport → List Entry → Type 0) (keeps : KeepsAll known r K) where
  abbrev Good : List StepReport → ℕ → Type 0
  Good done n = K done (take n r.log)

  -- from a place to the rank that stood there, and back
  to_stood : (done : List StepReport) (n : ℕ) (s : State) → StoodAt r n s → Good done n → K done s.log
  to_stood done n s h good = subst (K done) (stood_is r n s h) good

  from_stood : (done : List StepReport) (n : ℕ) (s : State) → StoodAt r n s → K done s.log → Good done n
  from_stood done n s h k = subst (K done) (sym (stood_is r n s h)) k

  good_more : (done : List StepReport) (log es : List Entry) → All IsTook es → K done log → K done (log ++ es)
  good_more done log [] h good = subst (K done) (sym (append-nil log)) good
  good_more done log (e ∷ es) h good =
      subst (K done) (append_assoc log (e ∷ []) es) (good_more done (log ++ e ∷ []) es (All-tail IsTook e es h) (keeps.takes done log e (All-head IsTook e es h) good))

  good_took : (done : List StepReport) (from to : ℕ) → OnlyTook r.log from to → Good done from → Good done to
  good_took done from to h good =
      let front : K done h.front = subst (K done) (front_is r.log h.front (h.between ++ h.rest) from h.whole h.begins) good in
      subst (K done) (sym (took_is r.log from to h)) (good_more done h.front h.between h.took front)

  good_enters : (done : List StepReport) (asked : Step) (topic : Topic) (from to : ℕ) → EntersBetween r asked topic from to → Good done from → Good done to
  good_enters done asked topic from to h good =
      let before : K done h.old.log = to_stood done h.place h.old h.stood (good_took done from h.place h.took_before good) in
      let entered : K done h.new.log = keeps.opens h.place h.old h.new done asked h.stood (opens_by done h.old asked topic h.new h.enters) before in
      good_took done (h.place + 1) to h.took_after (from_stood done (h.place + 1) h.new h.stood_next entered)

  good_decided : (done : List StepReport) (from n : ℕ) (report : StepReport) (old new : State) → n ≡ report.at → StoodAt r n old → AnsweredByDecision known r from report old new → Good done from → K (done ++ report ∷ []) new.log
  good_decided done from n report old new here stood h good =
      let now : K done old.log = to_stood done n old stood (subst (Good done) (sym here) (good_enters done report.step h.topic from report.at h.entered good)) in
      elim h.outcome [
        | inl a ↦ keeps.adopts n old new done report h.topic a.held stood (entered-topic r old report.step h.topic from n stood (rw here h.entered)) a.knows a.adoption now
        | inr w ↦ keeps.ends new.log done report (inr (inr w.refused)) (subst (λ (s : State). K done s.log) (sym w.only) now)
      ]

  good_answered : (done : List StepReport) (from : ℕ) (report : StepReport) (to : ℕ) → AnswerFollows known r done from report to → Good done from → Good (done ++ report ∷ []) to
  good_answered done from report to h good = from_stood (done ++ report ∷ []) to h.new h.stood_next (elim h.how [
    | by_call a ↦ keeps.answers report.at h.old h.new done report h.stood a.answers (to_stood done report.at h.old h.stood (good_took done from report.at a.took good))
    | left_by_call l ↦ keeps.ends h.new.log done report (inl l.given_up) (keeps.opens report.at h.old h.new done report.step h.stood l.opens (to_stood done report.at h.old h.stood (good_took done from report.at l.took good)))
    | by_decision d ↦ good_decided done from report.at report h.old h.new refl h.stood d good
    | left_undecided u ↦ keeps.ends h.new.log done report (inl u.given_up) (subst (λ (s : State). K done s.log) (sym u.only) (to_stood done report.at h.old h.stood (good_enters done report.step u.topic from report.at u.entered good)))
    | by_skip s ↦ keeps.ends h.new.log done report (inr (inl s.skipped)) (subst (λ (t : State). K done t.log) (sym s.only) (to_stood done report.at h.old h.stood (good_took done from report.at s.took good)))
  ])

  good_all : (done : List StepReport) (from : ℕ) (reports : List StepReport) (to : ℕ) → EachAnswerFollows known r done from reports to → Good done from → Good (done ++ reports) to
  good_all done from [] to h good = subst (λ (ds : List StepReport). Good ds to) (sym (append-nil done)) (subst (Good done) h good)
  good_all done from (x ∷ xs) to h good = subst (λ (ds : List StepReport). Good ds to) (append_assoc done (x ∷ []) xs) (good_all (done ++ x ∷ []) h.0 xs to h.2 (good_answered done from x h.0 h.1 good))

  good_since : (joint : Bool) (done : List StepReport) (from : ℕ) (asked : Step) → EntersSince joint r asked from → Good done from → Good done (length r.log)
  good_since true done from asked h good = good_enters done asked h.0 from (length r.log) h.1 good
  good_since false done from asked h good = good_took done from (length r.log) h good

  good_stands : (done : List StepReport) (from : ℕ) (current : Option Step) (at polls : ℕ) → Stands known r done from current at polls → Good done from → Good done (length r.log)
  good_stands done from None at polls h good = good_took done from (length r.log) h good
  good_stands done from (Some asked) at polls h good = good_since (is_joint asked) done from asked h.since good

  -- what holds at the start holds of the rank as it stood after these answers and what it took then
  pub walked_to : (done : List StepReport) (from n : ℕ) (old : State) → EachAnswerFollows known r [] 0 done from → OnlyTook r.log from n → StoodAt r n old → K [] [] → K done old.log
  walked_to done from n old answers took stood start = to_stood done n old stood (good_took done from n took (good_all [] 0 done from answers start))

-- what holds at the start, and is kept by all that may happen, holds of a player with right answers
pub walked : (known : Known) (p : Player) (K : List StepReport → List Entry → Type 0) → KeepsAll known p.rank K → K [] [] → AnswersFollowSoFar known p → K p.done p.rank.log
walked known p K keeps start h =
    let last : K p.done (take h.place p.rank.log) = good_all known p.rank K keeps [] 0 p.done h.place h.answers start in
    subst (K p.done) (take-length p.rank.log) (good_stands known p.rank K keeps p.done h.place p.current p.at p.polls h.stands last)

-- and of a report of one
pub reported : (known : Known) (told : Report) (K : List StepReport → List Entry → Type 0) → KeepsAll known told.rank K → K [] [] → AnswersFollow known told → K told.steps told.rank.log
reported known told K keeps start h =
    let p : Player = record { rank = told.rank; done = told.steps; current = None; at = 0; polls = 0 } in
    walked known p K keeps start (record { place = h.last; answers = h.answers; stands = h.took; stop = h.stop })
