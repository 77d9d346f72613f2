-- What a decision makes of a player whose answers are right.
use Rattle.std.proofs.Common.{◌≡◌, ◌≢◌, ℕ, List, length, ap, sym, subst, ◌∙◌, inl, inr, ◌⊎◌, true, false, Option, Some, is_some}
use Rattle.ulfm_board.specs.Known.{Answers as BoardAnswers, Agrees, known_at, number_of}
use Rattle.ulfm_board.proofs.Topics.{known_other, topics_apart}
use Rattle.ulfm_script.proofs.Common.{AnswersFollowSoFar, Context, Topic, Decision, is_stopped, Learns, Player, same_Some, StandsOpen, Step, State, step_report, StepAnswer, cases_eq}
use Rattle.ulfm_script.specs.Deciding.{Known, AnswersDecision, IsDecided}
use Rattle.ulfm_script.specs.Answered.{EntersBetween, AdoptsKnown, LacksMemory, by_decision}
use Rattle.ulfm_script.proofs.Beginnings.{Grew, grew-long, stood-now, stood-before, enters-grew}
use Rattle.ulfm_script.proofs.Added.{grew-adds, ends-adds}
use Rattle.ulfm_script.proofs.Decisions.{decision_adds}
use Rattle.ulfm_script.proofs.Honestly.{honest-closed}
use Rattle.ulfm_script.specs.inside.SoFar.{EntersSince}
use Rattle.ulfm_script.proofs.Once.{entered-once}
use Rattle.ulfm_script.proofs.Rounds.{entered-topic}
use Rattle.ulfm_script.proofs.Polls.{Adds}

pub agreed : (o : Option Decision) (held d : Decision) → Agrees o held → o ≡ Some d → d ≡ held
agreed o held d h e = rw e at h

pub keeps-answered : (board : Option (List ℕ)) (old : Known) (d held : Decision) (new : Known) → BoardAnswers board old d held new → (c : Topic) (x : Decision) → known_at old c ≡ Some x → known_at new c ≡ Some x
keeps-answered board old d held new h c x was = elim (cases_eq (number_of c) (number_of d.topic)) [
  | inl same ↦
      let topic = topics_apart c d.topic same in
      let here : known_at old d.topic ≡ Some x = ap (known_at old) (sym topic) ∙ was in
      ap (known_at new) topic ∙ h.known_now ∙ ap (λ (y : Decision). Some y) (sym (agreed (known_at old d.topic) held x h.as_before here))
  | inr other ↦ ap (λ (k : Known). known_at k c) h.others_stay ∙ known_other old c d.topic held other ∙ was
]

-- what a rank's decider learns when the rank's open step is decided
learns-decided : (board : Option (List ℕ)) (known later : Known) (r : State) (to end : ℕ) (asked : Step) (answer : StepAnswer) (new : State) (h : AnswersDecision board known later r asked answer new) → EntersBetween r asked h.topic to end → Learns r to known later
learns-decided board known later r to end asked answer new h entered = elim h.outcome [
  | inl a ↦ record {
    keeps = keeps-answered board known h.proposal a.held later a.board_answers;
    same = λ other topic from at e up.
        let apart : number_of topic ≢ number_of h.proposal.topic = λ same. entered-once r other asked topic h.topic from at to end e up entered (topics_apart topic h.proposal.topic same ∙ h.proposed.about) in
        ap (λ (k : Known). known_at k topic) a.board_answers.others_stay ∙ known_other known topic h.proposal.topic a.held apart;
  }
  | inr s ↦ record {
    keeps = λ c x was. ap (λ (k : Known). known_at k c) s.known_stay ∙ was;
    same = λ other topic from at e up. ap (λ (k : Known). known_at k topic) s.known_stay;
  }
]

-- the decision that is adopted is known from now on
outcome-decided : (board : Option (List ℕ)) (known later : Known) (r : State) (asked : Step) (answer : StepAnswer) (new : State) (h : AnswersDecision board known later r asked answer new) → AdoptsKnown later r asked h.topic answer new ⊎ LacksMemory later r h.topic answer new
outcome-decided board known later r asked answer new h = elim h.outcome [
  | inl a ↦ inl (record { held = a.held; knows = ap (known_at later) (sym h.proposed.about) ∙ a.board_answers.known_now; adoption = a.adoption })
  | inr s ↦
      inr (record {
        unknown = ap (λ (k : Known). known_at k h.topic) s.known_stay ∙ ap (known_at known) (sym h.proposed.about) ∙ s.starves.unknown;
        refused = s.refused;
        only = s.rank_stays;
      })
]

-- an open step that is decided
pub honest-decided : (board : Option (List ℕ)) (known later : Known) (p : Player) (comm : Context) (q : Player) → AnswersFollowSoFar known p → is_stopped p.rank.log ≡ false → IsDecided p comm board known q later → AnswersFollowSoFar later q
honest-decided board known later p comm q h running d =
    let adds : Adds p.rank false d.rank = decision_adds board known later p.rank d.asked d.answer d.rank d.decision in
    let g : Grew p.rank d.rank = grew-adds p.rank false d.rank adds in
    let was : StandsOpen known p.rank p.done h.place d.asked p.at p.polls = rw d.waits at h.stands in
    let since : EntersSince true p.rank d.asked h.place = subst (λ joint. EntersSince joint p.rank d.asked h.place) (ap is_some d.on) was.since in
    let topic : since.0 ≡ d.decision.topic = same_Some _ _ (sym (entered-topic p.rank p.rank d.asked since.0 h.place (length p.rank.log) (stood-now p.rank) since.1) ∙ d.decision.about) in
    let entered : EntersBetween p.rank d.asked d.decision.topic h.place (length p.rank.log) = subst (λ t. EntersBetween p.rank d.asked t h.place (length p.rank.log)) topic since.1 in
    rw d.only (honest-closed known later p d.rank (step_report d.asked d.answer (length p.rank.log) p.polls) h (learns-decided board known later p.rank h.place (length p.rank.log) d.asked d.answer d.rank d.decision entered) g
    (record {
      old = p.rank;
      new = d.rank;
      stood = stood-before p.rank d.rank g;
      stood_next = stood-now d.rank;
      onward = grew-long p.rank d.rank g;
      how = by_decision (record {
        topic = d.decision.topic;
        entered = enters-grew p.rank d.rank d.asked d.decision.topic h.place (length p.rank.log) g entered;
        later = was.polled;
        proposes = record { accepted = d.decision.accepted; complete = d.decision.proposed.complete };
        outcome = outcome-decided board known later p.rank d.asked d.answer d.rank d.decision;
      });
    })
    (ends-adds p.rank false d.rank running adds))
