-- How a decision is held and adopted.
use Rattle.std.proofs.Common.{◌≡◌, ◌≢◌, ℕ, ◌<◌, true, false, List, [], ◌∷◌, ◌++◌, refl, ap, sym, ◌∙◌, arith, inl, inr, ◌⊎◌, Option, Some, None}
use Rattle.ulfm_world.proofs.Common.{Topic, deciders, Decision, Entry, Adopted, is_stopped, State, Step, Player, World, player_at, rank_at, IsRunning, IsWorld, cases_eq, none-some, same_Some, All-push, CallError, OutOfMemory, is_made, members_of, StepAnswer, AnswersAdoption, Fits, IsOwn, not_foreign, adoption_adds}
use Rattle.ulfm_board.specs.Known.{Answers as BoardAnswers, Known, known_at, number_of}
use Rattle.ulfm_board.proofs.Topics.{known_other, topics_apart}
use Rattle.ulfm_rank.specs.Checks.{Passes, FailsOrStarves, group_at, adopt_checks}
use Rattle.ulfm_log.specs.Proposal.{has_entered, has_adopted, is_foreign, IsProposal}
use Rattle.ulfm_world.proofs.Agreed.{IsAdopted, IsHeld, Settled}
use Rattle.ulfm_world.proofs.Held.{proposal_held, held_own}
use Rattle.ulfm_world.proofs.Grown.{Moved, StillHeld, all_later}
use Rattle.ulfm_script.proofs.Adopted.{agreed}

-- what the board knew, and knows once a proposal is handed in: the one that is held, or what was known
module _ (known later : Known) (proposal held : Decision) (b : BoardAnswers None known proposal held later) where
  pub others_known : (c : Topic) → number_of c ≢ number_of proposal.topic → known_at later c ≡ known_at known c
  others_known c other = ap (λ (ks : Known). known_at ks c) b.others_stay ∙ known_other known c proposal.topic held other

  pub still_known : StillHeld known later
  still_known c d k = elim (cases_eq (number_of c) (number_of proposal.topic)) [
    | inl cell ↦
        let same = topics_apart c proposal.topic cell in
        ap (known_at later) same ∙ b.known_now ∙ ap Some (sym (agreed (known_at known proposal.topic) held d b.as_before (ap (known_at known) (sym same) ∙ k)))
    | inr other ↦ others_known c other ∙ k
  ]

  -- the decision that is held was known, or it is the proposal
  pub held_cases : (known_at known proposal.topic ≡ Some held) ⊎ (held ≡ proposal)
  held_cases = pick (known_at known proposal.topic) refl
    where
      pick : (o : Option Decision) → known_at known proposal.topic ≡ o → (known_at known proposal.topic ≡ Some held) ⊎ (held ≡ proposal)
      pick None e = inr (b.first_stays refl e)
      pick (Some d) e = inl (e ∙ ap Some (agreed (known_at known proposal.topic) held d b.as_before e))

  pub later_cases : (c : Topic) (d : Decision) → known_at later c ≡ Some d → (known_at known c ≡ Some d) ⊎ ((d ≡ held) × (c ≡ proposal.topic))
  later_cases c d k = elim (cases_eq (number_of c) (number_of proposal.topic)) [
    | inl cell ↦ let same = topics_apart c proposal.topic cell in inr (same_Some d held (sym k ∙ ap (known_at later) same ∙ b.known_now), same)
    | inr other ↦ inl (sym (others_known c other) ∙ k)
  ]

-- no check refuses the adoption of a decision that is the rank's own
pub own_passes : (r : State) (c : Topic) (d : Decision) → is_stopped r.log ≡ false → is_made r.ranks r.log c.context.number ≡ true → has_adopted r.log c ≡ false → has_entered r.log c ≡ true → IsOwn r.me (group_at r c.context.number) r.log c d → Passes (adopt_checks r c d)
own_passes r c d running made fresh entered own = rw (not_foreign r.me (group_at r c.context.number) r.log c d own, running, made, fresh, entered) refl

-- a call that no check refuses lacks memory alone
pub starves_alone : (r : State) (c : Topic) (d : Decision) (e : CallError) → Passes (adopt_checks r c d) → FailsOrStarves (adopt_checks r c d) e → e ≡ OutOfMemory
starves_alone r c d e passes (inl fails) = absurd (none-some e (sym passes ∙ fails))
starves_alone r c d e passes (inr starves) = starves.1

-- the rank r of a world decides on a topic
module _ (n : ℕ) (w : World) (r : ℕ) (topic : Topic) (h : IsWorld w) (settled : Settled n w) (i : r < n) (running : IsRunning w r) where
  counted : (rank_at w r).ranks ≡ n
  counted = h.counted r (omega (arith, i, settled.size)) ∙ settled.size

  named : (rank_at w r).me ≡ r
  named = h.named r (omega (arith, i, settled.size))

  module _ (proposal : Decision) (proposed : IsProposal (rank_at w r).ranks (rank_at w r).me (rank_at w r).log topic proposal) where
    own_proposal : IsProposal n r (rank_at w r).log topic proposal
    own_proposal = rw (counted, named) at proposed

    -- what is held may be held
    pub handed_held : {held : Decision} → (known_at w.decided proposal.topic ≡ Some held) ⊎ (held ≡ proposal) → IsHeld n w topic held
    handed_held {held} (inl known) = settled.held topic held (ap (known_at w.decided) (sym own_proposal.about) ∙ known)
    handed_held (inr same) = rw same (proposal_held n w r topic h settled i own_proposal)

    made_here : is_made n (rank_at w r).log topic.context.number ≡ true
    made_here = (settled.keeps r i).enters_made topic own_proposal.entered

    -- and adopted by the rank
    pub held_fits : {held : Decision} → IsHeld n w topic held → IsOwn r (members_of n (rank_at w r).log topic.context.number) (rank_at w r).log topic held
    held_fits {held} ok = held_own n w r topic held h settled i running made_here ok

    pub held_passes : (held : Decision) → IsHeld n w topic held → has_adopted (rank_at w r).log topic ≡ false → Passes (adopt_checks (rank_at w r) topic held)
    held_passes held ok fresh =
        let log : List Entry = (rank_at w r).log in
        own_passes (rank_at w r) topic held running (ap (λ k. is_made k log topic.context.number) counted ∙ made_here) fresh own_proposal.entered (rw named (rw counted (held_fits ok)))

    pub adoption_fits : (held : Decision) → IsHeld n w topic held → Fits n r (rank_at w r).log (Adopted held)
    adoption_fits held ok =
        let log : List Entry = (rank_at w r).log in (
          ap (λ (t : Topic). is_made n log t.context.number) ok.about ∙ made_here,
          ap (has_entered log) ok.about ∙ own_proposal.entered,
          ap (λ (t : Topic). is_foreign r (deciders n log t) log t held) ok.about ∙ not_foreign r (members_of n log topic.context.number) log topic held (held_fits ok),
        )

    -- the rank's log once it adopted or was refused
    pub moved-adopted : (later : Known) (held : Decision) (b : BoardAnswers None w.decided proposal held later) (asked : Step) (answer : StepAnswer) (rank : State) (new : Player) → AnswersAdoption (rank_at w r) asked topic held answer rank → new.rank ≡ rank → new.current ≡ None → Moved n later r (player_at w r) new
    moved-adopted later held b asked answer rank new adoption is closed =
        let log : List Entry = (rank_at w r).log in
        let ok = handed_held (held_cases w.decided later proposal held b) in
        let all = all_later w.decided later r log (still_known w.decided later proposal held b) (settled.adopted r i) in
        let known : known_at later held.topic ≡ Some held = ap (known_at later) (ok.about ∙ sym own_proposal.about) ∙ b.known_now in
        elim (adoption_adds (rank_at w r) asked topic held answer rank adoption) [
          | inl same ↦
              let log_same : new.rank.log ≡ log = ap (λ (s : State). s.log) (is ∙ same) in
              record { grows = inl log_same; adopted = rw log_same all; unadopted = λ other t e about. absurd (none-some other (sym closed ∙ e)) }
          | inr more ↦
              let longer : new.rank.log ≡ log ++ Adopted held ∷ [] = ap (λ (s : State). s.log) (is ∙ more.1) in
              record {
                grows = inr (Adopted held, adoption_fits held ok, longer);
                adopted = rw longer (All-push (IsAdopted later r) log (Adopted held) all (known, (held_fits ok).member));
                unadopted = λ other t e about. absurd (none-some other (sym closed ∙ e));
              }
        ]
