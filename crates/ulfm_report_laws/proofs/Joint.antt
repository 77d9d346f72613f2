-- A shrink or an agreement that is entered or decided keeps the steps of a rank true of its log.
use Rattle.std.proofs.Common.{ℕ, Bool, true, false, List, [], ◌∷◌, ◌++◌, length, inl, inr, Option}
use Rattle.ulfm_report_laws.proofs.Common.{Context, Topic, Decision, State, Step, StepAnswer, StepReport, Wait, Probe, Shrink, Agree, Shrunk, Agreed, Refused, Player, LeavesOpen, StaysOpen, step_report, OutOfMemory, Known, AnswersAdoption, AnswersDecision, IsDecided}
use Rattle.ulfm_log.specs.declared.entry.Entry.TheVariants.{Entered, Adopted}
use Rattle.ulfm_report_laws.proofs.Answering.{true-same, true-idle, true-one}
use Rattle.ulfm_report_laws.proofs.Closing.{IsTrueOf}

-- an entrance sends, posts and takes nothing
pub true-open : {done : List StepReport} (r : State) (asked : Step) (new : State) → IsTrueOf r done → LeavesOpen done r asked new → IsTrueOf new done
true-open r (Wait req) new h o = rw o.only h
true-open r (Probe source tag comm) new h o = rw o.2 h
true-open {done} r (Shrink comm again) new h o = rw o.1.enters.only (true-idle (Entered o.1.enters.entrance) tt h)
true-open {done} r (Agree flag comm) new h o = rw o.1.enters.only (true-idle (Entered o.1.enters.entrance) tt h)
true-open r _ new h o = absurd o

-- a poll that leaves its step open keeps the steps true
pub true-opens : (waits : Bool) {done : List StepReport} (r : State) (asked : Step) (new : State) → IsTrueOf r done → StaysOpen waits done r asked new → IsTrueOf new done
true-opens true r asked new h o = rw o h
true-opens false {done} r asked new h o = true-open r asked new h o

module _ (r : State) (done : List StepReport) (h : IsTrueOf r done) (at polls : ℕ) (new : State) where
  pub true-adoption : (asked : Step) (topic : Topic) (held : Decision) (answer : StepAnswer) → AnswersAdoption r asked topic held answer new → IsTrueOf new (done ++ step_report asked answer at polls ∷ [])
  true-adoption (Shrink comm again) topic held (Shrunk child group me) a = true-one r done (Shrink comm again) (Shrunk child group me) at polls new (Adopted held) h tt tt a.4
  true-adoption (Agree flag comm) topic held (Agreed value missing) a = true-one r done (Agree flag comm) (Agreed value missing) at polls new (Adopted held) h tt tt a.3
  true-adoption asked topic held (Refused e) a = true-same r done asked (Refused e) at polls new h tt a.1
  true-adoption asked topic held _ a = absurd a

  -- the adoption of a decision sends, posts and takes nothing
  true-decision : {board : Option (List ℕ)} {known later : Known} (asked : Step) {answer : StepAnswer} → AnswersDecision board known later r asked answer new → IsTrueOf new (done ++ step_report asked answer at polls ∷ [])
  true-decision asked {answer} d =
      elim d.outcome [
        | inl adopts ↦ true-adoption asked d.topic adopts.held answer adopts.adoption
        | inr starves ↦ rw starves.refused (true-same r done asked (Refused OutOfMemory) at polls new h tt starves.rank_stays)
      ]

-- a decision keeps the steps true
pub true-decided : {old : Player} (comm : Context) (board : Option (List ℕ)) {known : Known} (later : Known) {new : Player} → IsTrueOf old.rank old.done → IsDecided old comm board known new later → IsTrueOf new.rank new.done
true-decided {old} comm board {known} later h d = rw d.only (true-decision old.rank old.done h (length old.rank.log) old.polls d.rank d.asked d.decision)
