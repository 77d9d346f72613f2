-- The laws of the event that decides a step.
use Rattle.std.proofs.Common.{◌≡◌, ℕ, ◌<◌, List, [], ◌∷◌, ◌++◌, length, refl, ap, sym, ◌∙◌, arith, inl, inr, Some}
use Rattle.ulfm_world.proofs.Common.{Context, Topic, Decision, known_at, Step, IsWorld, CallError, OutOfMemory, StepAnswer, AnswersAdoption, World, player_in, player_at, rank_at, DecidesStep, Player, step_report, StepReport, Refused}
use Rattle.std.proofs.lemmas.List.{same_from_push}
use Rattle.ulfm_board.specs.Known.{Known}
use Rattle.ulfm_script.proofs.Polls.{refused_adoption}
use Rattle.ulfm_world.specs.Safe.{IsSafe, SettlesSafely, StarvesAlone}
use Rattle.ulfm_world.proofs.Changed.{player-same}
use Rattle.ulfm_world.proofs.Agreed.{Settled}
use Rattle.ulfm_world.proofs.Adopting.{held_cases, later_cases, handed_held, held_passes, starves_alone}
use Rattle.ulfm_world.proofs.Safe.{held-safe}

abbrev error_of : StepAnswer → CallError
error_of (Refused e) = e
error_of _ = OutOfMemory

module _ (n : ℕ) (w : World) (r : ℕ) (comm : Context) (h : IsWorld w) (settled : Settled n w) where
  -- a decision that is held after the event was safe before it
  pub settled_safe : {players : List Player} (later : Known) (topic : Topic) (d : Decision) → DecidesStep w.players w.decided r comm players later → known_at later topic ≡ Some d → IsSafe w d
  settled_safe later topic d c known =
      let i : r < n = omega (arith, c.inside, settled.size) in
      let s = c.decided.decision in
      elim (s.outcome) [
        | inl a ↦
            elim (later_cases w.decided later s.proposal a.held a.board_answers topic d known) [
              | inl was ↦ held-safe n w settled (settled.held topic d was)
              | inr now ↦ rw now.0 (held-safe n w settled (handed_held n w r s.topic h settled i c.running s.proposal s.proposed (held_cases w.decided later s.proposal a.held a.board_answers)))
            ]
        | inr b ↦ held-safe n w settled (settled.held topic d (ap (λ (ks : Known). known_at ks topic) (sym b.known_stay) ∙ known))
      ]

  pub settled_starves : (players : List Player) (later : Known) (asked : Step) (e : CallError) (at polls : ℕ) → DecidesStep w.players w.decided r comm players later → (player_in players r).done ≡ (player_at w r).done ++ step_report asked (Refused e) at polls ∷ [] → e ≡ OutOfMemory
  settled_starves players later asked e at polls c refused =
      let i : r < n = omega (arith, c.inside, settled.size) in
      let s = c.decided.decision in
      let after : player_in players r ≡ c.after = ap (λ (ps : List Player). player_in ps r) c.only ∙ player-same w.players r r c.after refl c.inside in
      let longer : c.after.done ≡ (player_at w r).done ++ step_report c.decided.asked c.decided.answer (length (rank_at w r).log) (player_at w r).polls ∷ [] = ap (λ (p : Player). p.done) c.decided.only in
      let same : c.decided.answer ≡ Refused e =
      ap (λ (x : StepReport). x.answer) (same_from_push _ _ _ _ (sym longer ∙ ap (λ (p : Player). p.done) (sym after) ∙ refused)).1 in
      elim (s.outcome) [
        | inl a ↦
            let ok = handed_held n w r s.topic h settled i c.running s.proposal s.proposed (held_cases w.decided later s.proposal a.held a.board_answers) in
            let adoption : AnswersAdoption (rank_at w r) c.decided.asked s.topic a.held (Refused e) c.decided.rank = rw same at a.adoption in
            let refuses = refused_adoption (rank_at w r) c.decided.asked s.topic a.held e c.decided.rank adoption in
            starves_alone (rank_at w r) s.topic a.held e (held_passes n w r s.topic h settled i c.running s.proposal s.proposed a.held ok (settled.unadopted r i c.decided.asked s.topic c.decided.waits s.about)) refuses.0
        | inr b ↦ ap error_of (sym same ∙ b.refused)
      ]

  -- a decision is refused only for want of memory
  pub decided_starves : (players : List Player) (later : Known) (c : DecidesStep w.players w.decided r comm players later) (e : CallError) → c.decided.answer ≡ Refused e → e ≡ OutOfMemory
  decided_starves players later c e is =
      settled_starves players later c.decided.asked e (length (rank_at w r).log) (player_at w r).polls c
      (ap (λ (ps : List Player). (player_in ps r).done) c.only ∙ ap (λ (p : Player). p.done) (player-same w.players r r c.after refl c.inside) ∙ ap (λ (p : Player). p.done) c.decided.only
      ∙ ap (λ (a : StepAnswer). (player_at w r).done ++ step_report c.decided.asked a (length (rank_at w r).log) (player_at w r).polls ∷ []) is)

pub settles-safely : {n : ℕ} (w : World) → IsWorld w → Settled n w → SettlesSafely w
settles-safely {n} w h settled r comm new topic d k known = settled_safe n w r comm h settled k.1 topic d k.2 (ap (λ (x : World). known_at x.decided topic) (sym k.3) ∙ known)

pub starves-alone : {n : ℕ} (w : World) → IsWorld w → Settled n w → StarvesAlone w
starves-alone {n} w h settled r comm new e k refuses = settled_starves n w r comm h settled k.0 k.1 refuses.asked e refuses.at refuses.polls k.2 (ap (λ (x : World). (player_at x r).done) (sym k.3) ∙ refuses.answer)
