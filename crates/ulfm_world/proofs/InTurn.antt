-- A step that is decided keeps one order: its decision was proposed.
use Rattle.std.proofs.Common.{◌≡◌, ℕ, ◌++◌, List, [], ◌∷◌, length, set, refl, ap, sym, subst, ◌∙◌, arith, inl, inr, ◌⊎◌, Some, append-nil, length-append, take}
use Rattle.std.proofs.Math.Seq.{take-length}
use Rattle.ulfm_base.proofs.Longer.{get_here}
use Rattle.ulfm_board.specs.Known.{Known}
use Rattle.ulfm_log.specs.Proposal.{IsProposal}
use Rattle.ulfm_answer.specs.declared.answer.StepAnswer.TheVariants.{Agreed, Shrunk}
use Rattle.ulfm_script.specs.Deciding.{topic_of}
use Rattle.ulfm_world.proofs.Common.{Adopted, Agree, AnswersAdoption, CallError, Context, DecidesStep, Decision, Entry, IsWorld, Player, Refused, Shrink, State, Step, StepAnswer, StepReport, Topic, World, at, logged, player_at, step_report}
use Rattle.ulfm_report_laws.specs.Proposed.{ProposesBy}
use Rattle.ulfm_report_laws.proofs.Proposed.{proposes_by}
use Rattle.ulfm_world.proofs.Adopting.{held_cases, later_cases}
use Rattle.ulfm_world.proofs.Agreed.{Settled}
use Rattle.ulfm_world.proofs.Changed.{player-same}
use Rattle.ulfm_world.proofs.Decided.{decided_starves}
use Rattle.ulfm_world.proofs.InOrder.{HaveOrder, IsGrown, Made, each_goes_on, grown-idle, log_in, made-now, made-set, order-set, ordered-set, steps_in}
use Rattle.ulfm_world.proofs.Ordered.{GoesOn, IsMade, front_goes_on, made_still}

-- an adoption is refused and changes nothing, or it adds its entry
adoption_cases : (r : State) (asked : Step) (topic : Topic) (held : Decision) (answer : StepAnswer) (new : State) → AnswersAdoption r asked topic held answer new → ((e : CallError) × (answer ≡ Refused e) × (new ≡ r)) ⊎ (new ≡ logged r (Adopted held))
adoption_cases r (Shrink on again) topic held (Shrunk child group me) new h = inr h.4
adoption_cases r (Agree flag on) topic held (Agreed value missing) new h = inr h.3
adoption_cases r asked topic held (Refused e) new h = inl (e, refl, h.1)
adoption_cases r asked topic held _ new h = absurd h

-- the player r decides a step
module _ (n : ℕ) (w : World) (r : ℕ) (comm : Context) (players : List Player) (later : Known) (h : IsWorld w) (settled : Settled n w) (all : HaveOrder w.players w.decided) (c : DecidesStep w.players w.decided r comm players later) where
  abbrev new : List Player
  new = set w.players r c.after

  abbrev more_steps : GoesOn (player_at w r).done c.after.done
  more_steps = (step_report c.decided.asked c.decided.answer (length (player_at w r).rank.log) (player_at w r).polls ∷ [], ap (λ (p : Player). p.done) c.decided.only)

  abbrev report : StepReport
  report = step_report c.decided.asked c.decided.answer (length (player_at w r).rank.log) (player_at w r).polls

  -- the step's answer stands at the end
  answer_stands : at (steps_in new r) (length (player_at w r).done) report
  answer_stands =
      subst (λ (xs : List StepReport). at xs (length (player_at w r).done) report) (sym (ap (λ (p : Player). p.done) (player-same w.players r r c.after refl c.inside) ∙ more_steps.1))
      (get_here (player_at w r).done report [])

  -- proposed at a place that the logs before had come to
  abbrev MadeNow : Decision → Type 0
  MadeNow d = IsMade (length w.players) (log_in w.players) (log_in new) (steps_in new) d

  log_here : log_in new r ≡ c.decided.rank.log
  log_here = ap (λ (p : Player). p.rank.log) (player-same w.players r r c.after refl c.inside) ∙ ap (λ (p : Player). p.rank.log) c.decided.only

  -- its proposal was made, where the log got the decision or no memory was found
  mine : (log_in new r ≡ (player_at w r).rank.log) ⊎ (log_in new r ≡ (player_at w r).rank.log ++ Adopted c.decided.decision.proposal ∷ []) → ((log_in new r ≡ (player_at w r).rank.log) → (e : CallError) × (c.decided.answer ≡ Refused e)) → MadeNow c.decided.decision.proposal
  mine log refused =
      let d = c.decided in
      let before : List Entry = (player_at w r).rank.log in
      let proposal = d.decision.proposal in
      let named : (player_at w r).rank.me ≡ r = h.named r c.inside in
      let counted : (player_at w r).rank.ranks ≡ n = h.counted r c.inside ∙ settled.size in
      let proposed : IsProposal n r before d.decision.topic proposal = rw (counted, named) at (d.decision.proposed) in
      let more : GoesOn before (log_in new r) = elim log [ inl same ↦ ([], same ∙ sym (append-nil before)) | inr one ↦ (Adopted proposal ∷ [], one) ] in
      let front : take (length before) (log_in new r) ≡ before = front_goes_on before (log_in new r) more (length before) (omega arith) ∙ take-length before in
      record {
        rank = r;
        inside = c.inside;
        place = length before;
        come = omega arith;
        made = record {
          within = omega (arith, ap length more.1, length-append before more.0);
          asks = elim log [
            | inl same ↦
                let why = refused same in
                inr (record {
                  number = length (player_at w r).done;
                  step = report;
                  stands = answer_stands;
                  placed = refl;
                  about = ap (λ (xs : List Entry). topic_of xs d.asked) front ∙ d.decision.about ∙ ap Some (sym proposed.about);
                  starves = why.1 ∙ ap (λ (e : CallError). Refused e) (decided_starves n w r comm h settled players later c why.0 why.1);
                })
            | inr one ↦ inl (record { held = proposal; stands = subst (λ (xs : List Entry). at xs (length before) (Adopted proposal)) (sym one) (get_here before (Adopted proposal) []); about = refl })
          ];
          proposes = subst (λ (xs : List Entry). ProposesBy r xs proposal) (sym front)
              (proposes_by n r before d.decision.topic proposal proposed);
        };
      }

  pub order-decided : HaveOrder new later
  order-decided = elim (c.decided.decision.outcome) [
    | inl a ↦
        let d = c.decided in let proposal = d.decision.proposal in let b = a.board_answers in let before : List Entry = (player_at w r).rank.log in
        let steps : (x : ℕ) → GoesOn (steps_in w.players x) (steps_in new x) = each_goes_on (λ (q : Player). q.done) w.players r c.after c.inside more_steps in
        let is : c.after.rank ≡ d.rank = ap (λ (p : Player). p.rank) d.only in
        let cases = adoption_cases (player_at w r).rank d.asked d.decision.topic a.held d.answer d.rank a.adoption in
        let more : GoesOn before c.after.rank.log = elim cases [
          | inl refused ↦ ([], ap (λ (s : State). s.log) (is ∙ refused.2) ∙ sym (append-nil before))
          | inr one ↦ (Adopted a.held ∷ [], ap (λ (s : State). s.log) (is ∙ one))
        ] in
        let logs : (x : ℕ) → GoesOn (log_in w.players x) (log_in new x) = each_goes_on (λ (q : Player). q.rank.log) w.players r c.after c.inside more in
        let held : MadeNow a.held = elim (held_cases w.decided later proposal a.held b) [
          | inl known ↦ made_still logs steps (all.held proposal.topic a.held known)
          | inr same ↦ subst MadeNow (sym same) (elim cases [
            | inl refused ↦ mine (inl (log_here ∙ ap (λ (s : State). s.log) refused.2)) (λ stays. (refused.0, refused.1))
            | inr one ↦
                let longer : log_in new r ≡ before ++ Adopted proposal ∷ [] = log_here ∙ ap (λ (s : State). s.log) one ∙ ap (λ (x : Decision). before ++ Adopted x ∷ []) same in
                mine (inr longer) (λ stays. absurd (omega (arith, ap length stays, ap length longer, length-append before (Adopted proposal ∷ []))))
          ])
        ] in
        let g : IsGrown w.players r c.after = record {
          inside = c.inside;
          log = elim cases [
            | inl refused ↦ inl (ap (λ (s : State). s.log) (is ∙ refused.2))
            | inr one ↦ inr (Adopted a.held, ap (λ (s : State). s.log) (is ∙ one), held)
          ];
          steps = more_steps;
        } in
        record {
          ordered = ordered-set w.players r c.after g all.ordered;
          held = λ topic e known. elim (later_cases w.decided later proposal a.held b topic e known) [
            | inl was ↦ made-set w.players r c.after g (all.held topic e was)
            | inr is_held ↦ subst (Made new) (sym is_held.0) (made-now w.players r c.after g held)
          ];
        }
    | inr b ↦
        let same : c.after.rank.log ≡ (player_at w r).rank.log = ap (λ (s : State). s.log) (ap (λ (p : Player). p.rank) c.decided.only ∙ b.rank_stays) in
        subst (HaveOrder new) (sym b.known_stay) (order-set w.players w.decided r c.after (grown-idle w.players r c.after c.inside same more_steps) all)
  ]
