-- What the decision of a step adds to a log, and what it moves at a player.
use Rattle.std.proofs.Common.{◌≡◌, ℕ, ◌<◌, false, List, length, refl, sym, ◌∙◌, inl, inr, Option, Some, slice_get}
use Rattle.ulfm_log.specs.State.{State, IsState}
use Rattle.ulfm_job.specs.Job.{decides_on}
use Rattle.ulfm_script.proofs.Common.{Adopted, Context, Topic, Decision, is_stop_step, is_stopped, Player, Refused, Shrink, Agree, Step, StepAnswer, Skipped, Unfinished, FollowsSoFar, OutOfMemory, slice_get_within, Quiet, none-some}
use Rattle.ulfm_script.specs.Deciding.{Known, AnswersAdoption, AnswersDecision, IsDecided}
use Rattle.ulfm_script.proofs.Polls.{Adds, adds_same, adds_one, adoption_adds, quiet-adds}
use Rattle.ulfm_script.proofs.Advance.{Ready, Advances, IsGiven, advance-given}

-- a decision adds its adoption at most
pub decision_adds : (board : Option (List ℕ)) (known later : Known) (r : State) (asked : Step) (answer : StepAnswer) (new : State) → AnswersDecision board known later r asked answer new → Adds r false new
decision_adds board known later r asked answer new h = elim h.outcome [
  | inl adopts ↦ elim (adoption_adds r asked h.topic adopts.held answer new adopts.adoption) [
    | inl same ↦ adds_same r new same
    | inr one ↦ adds_one r new (Adopted adopts.held) false (record { signed = tt; takes_none = λ s. refl }) refl one.1
  ]
  | inr starves ↦ adds_same r new starves.rank_stays
]

-- a decision takes nothing and lets nothing go out
pub quiet-decided : (old : Player) (comm : Context) (board : Option (List ℕ)) (known later : Known) (new : Player) → IsState old.rank → IsDecided old comm board known new later → Quiet old.rank new.rank
quiet-decided old comm board known later new h d = rw d.only (quiet-adds old.rank false d.rank h (decision_adds board known later old.rank d.asked d.answer d.rank d.decision))

-- a decision gives its step's answer
given_by_adoption : (r : State) (asked : Step) (topic : Topic) (held : Decision) (answer : StepAnswer) (new : State) → AnswersAdoption r asked topic held answer new → IsGiven answer
given_by_adoption r asked topic held answer new h = (λ e. left asked (rw e at h), λ e. skips asked (rw e at h))
  where
    left : (s : Step) → AnswersAdoption r s topic held Unfinished new → ⊥
    left (Shrink comm again) h = h
    left _ h = h

    skips : (s : Step) → AnswersAdoption r s topic held Skipped new → ⊥
    skips (Shrink comm again) h = h
    skips _ h = h

given_by_starving : (answer : StepAnswer) → answer ≡ Refused OutOfMemory → IsGiven answer
given_by_starving answer e = (λ f. other (sym e ∙ f), λ f. skips (sym e ∙ f))
  where
    other : Refused OutOfMemory ≡ Unfinished → ⊥
    other both = let bad : ⊥ = cc in bad

    skips : Refused OutOfMemory ≡ Skipped → ⊥
    skips both = let bad : ⊥ = cc in bad

pub given_by_decision : (board : Option (List ℕ)) (known later : Known) (r : State) (asked : Step) (answer : StepAnswer) (new : State) → AnswersDecision board known later r asked answer new → IsGiven answer
given_by_decision board known later r asked answer new h = elim h.outcome [
  | inl adopts ↦ given_by_adoption r asked h.topic adopts.held answer new adopts.adoption
  | inr starves ↦ given_by_starving answer starves.refused
]

-- the step that stands open comes next, and has a poll to spare
pub ready-decided : (script : List Step) (turns : ℕ) (p : Player) (asked : Step) → FollowsSoFar script turns p → is_stopped p.rank.log ≡ false → p.current ≡ Some asked → Ready script turns p asked
ready-decided script turns p asked h running current =
    let open_step : (slice_get script (length p.done) ≡ Some asked) × (p.polls < turns) = rw current at h.current in
    record {
      follows = h;
      running = running;
      few = open_step.1;
      next = open_step.0;
      inside = slice_get_within script (length p.done) asked open_step.0;
    }

-- a step that is decided
pub advance-decided : (script : List Step) (turns : ℕ) (old : Player) (comm : Context) (board : Option (List ℕ)) (known later : Known) (new : Player) → ((asked : Step) → old.current ≡ Some asked → Ready script turns old asked) → IsDecided old comm board known new later → Advances script turns old new
advance-decided script turns old comm board known later new h d =
    let ready : Ready script turns old d.asked = h d.asked d.waits in
    rw d.only (advance-given script turns old d.rank d.asked d.answer ready (joint-adds d.asked comm d.on (decision_adds board known later old.rank d.asked d.answer d.rank d.decision)) (given_by_decision board known later old.rank d.asked d.answer d.rank d.decision))
  where
    joint-adds : (asked : Step) (on : Context) → decides_on asked ≡ Some on → Adds old.rank false d.rank → Adds old.rank (is_stop_step asked) d.rank
    joint-adds (Shrink comm again) on h adds = adds
    joint-adds (Agree flag comm) on h adds = adds
    joint-adds _ on h adds = absurd (none-some on h)
