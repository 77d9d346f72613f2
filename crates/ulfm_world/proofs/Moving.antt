-- What each event leaves of a world's topics.
use Rattle.std.proofs.Common.{◌≡◌, ℕ, ◌<◌, Bool, true, false, List, [], ◌∷◌, ◌++◌, length, set, refl, ap, sym, ◌∙◌, arith, inl, inr, Some, None, All}
use Rattle.ulfm_board.specs.Known.{Known}
use Rattle.ulfm_world.proofs.Common.{Context, WorldRank, Item, Topic, topic_of, RoundsCounted, known_at, Entry, Took, has_adopted, State, logged, Step, Event, Call, Push, Take, Decide, Leave, Skip, IsWorld, false≢true, none-some, same_Some, AdoptsEntered, World, player_at, rank_at, inbox_at, with_players, with_player, with_inbox, with_decided, Calls, DecidesStep, GivesUp, Skips, Pushes, Takes, Happens, Run, Player, with_rank, answered, polled, IsFree, StaysOpen, awaits_decision, IsCalled, TakeFrom}
use Rattle.ulfm_world.proofs.Agreed.{HasNotAdopted, IsAdopted, Settled}
use Rattle.ulfm_world.proofs.Grown.{Grows, Moved, settled-moved}
use Rattle.ulfm_script.proofs.Fitting.{AddsPlain, Adds, answers_add, opens_add}
use Rattle.ulfm_script.proofs.Rounds.{topic-took}
use Rattle.ulfm_world.proofs.Plain.{adopted-plain, held-plain, opened_unadopted}
use Rattle.ulfm_world.proofs.Adopting.{still_known, held_cases, later_cases, handed_held, moved-adopted}
use Rattle.ulfm_world.proofs.Runs.{each_run}

grows-plain : (n me : ℕ) {old new : List Entry} → AddsPlain n me old new → Grows n me old new
grows-plain n me (inl same) = inl same
grows-plain n me (inr more) = inr (more.0, more.1, more.3)

-- a change that adopts nothing
moved-plain : (n : ℕ) (decided : Known) (r : ℕ) (old new : Player) → AddsPlain n r old.rank.log new.rank.log → All (IsAdopted decided r) old.rank.log → HasNotAdopted new → Moved n decided r old new
moved-plain n decided r old new adds all unadopted = record { grows = grows-plain n r adds; adopted = held-plain decided n r adds all; unadopted = unadopted }

closed_open : (p : Player) → p.current ≡ None → HasNotAdopted p
closed_open p closed asked topic e about = absurd (none-some asked (sym closed ∙ e))

adds_at : {n r : ℕ} (old new : State) → old.ranks ≡ n → old.me ≡ r → Adds old new → AddsPlain n r old.log new.log
adds_at old new counted named adds = rw (counted, named) at adds

-- a poll that leaves the step open
opened : (old : Player) (asked : Step) (o : State) (b : Bool) → awaits_decision old.current ≡ b → IsFree old asked → AdoptsEntered old.rank.log → RoundsCounted old.rank.log → HasNotAdopted old → StaysOpen b old.done old.rank asked o → Adds old.rank o × ((topic : Topic) → topic_of o.log asked ≡ Some topic → has_adopted o.log topic ≡ false)
opened old asked o true waits (inl none) entered counted unadopted same = absurd (false≢true (sym (ap awaits_decision none) ∙ waits))
opened old asked o true waits (inr this) entered counted unadopted same =
    (inl (ap (λ (s : State). s.log) same), λ topic about. ap (λ (s : State). has_adopted s.log topic) same ∙ unadopted asked topic this (ap (λ (s : State). topic_of s.log asked) (sym same) ∙ about))
opened old asked o false waits free entered counted unadopted opens = (opens_add old.done old.rank asked o counted opens, λ topic about. opened_unadopted old.done old.rank o asked topic entered counted opens about)

moved-called : (n : ℕ) (decided : Known) (r : ℕ) {old : Player} (asked : Step) {new : Player} → old.rank.ranks ≡ n → old.rank.me ≡ r → IsFree old asked → AdoptsEntered old.rank.log → RoundsCounted old.rank.log → All (IsAdopted decided r) old.rank.log → HasNotAdopted old → IsCalled old asked new → Moved n decided r old new
moved-called n decided r {old} asked counted named free entered rounds all unadopted (inl a) =
    let p = answered (with_rank old a.rank) asked a.answer (length old.rank.log) in
    rw a.only (moved-plain n decided r old p (adds_at old.rank a.rank counted named (answers_add old.done old.rank asked a.answer a.rank a.answers)) all (closed_open p refl))
moved-called n decided r {old} asked counted named free entered rounds all unadopted (inr o) =
    let both = opened old asked o.rank (awaits_decision old.current) refl free entered rounds unadopted o.stays in
    rw o.only (moved-plain n decided r old (polled (with_rank old o.rank) asked (length old.rank.log)) (adds_at old.rank o.rank counted named both.0) all (λ other topic e about. both.1 topic (ap (topic_of o.rank.log) (same_Some asked other e) ∙ about)))

module _ (n : ℕ) (w : World) (h : IsWorld w) (settled : Settled n w) where
  below : (r : ℕ) → r < length w.players → r < n
  below r i = omega (arith, i, settled.size)

  settled-calls : (r : ℕ) (asked : Step) (players : List Player) → Calls w.players r asked players → Settled n (with_players w players)
  settled-calls r asked players c =
      let i = below r c.inside in
      rw c.only (settled-moved w (with_players w (set w.players r c.after)) settled i refl (λ c d k. k) settled.held (moved-called n w.decided r asked (h.counted r c.inside ∙ settled.size) (h.named r c.inside) c.free (settled.keeps r i).adopts_entered (settled.keeps r i).rounds_counted (settled.adopted r i) (settled.unadopted r i) c.called))

  settled-gives_up : (r : ℕ) (players : List Player) → GivesUp w.players r players → Settled n (with_players w players)
  settled-gives_up r players c =
      let i = below r c.inside in
      let same : c.after.rank.log ≡ (rank_at w r).log = ap (λ (p : Player). p.rank.log) c.left.only in
      rw c.only (settled-moved w (with_players w (set w.players r c.after)) settled i refl (λ c d k. k) settled.held (moved-plain n w.decided r (player_at w r) c.after (inl same) (settled.adopted r i) (closed_open c.after (ap (λ (p : Player). p.current) c.left.only))))

  settled-skips : (r : ℕ) (asked : Step) (players : List Player) → Skips w.players r asked players → Settled n (with_players w players)
  settled-skips r asked players c =
      let i = below r c.inside in
      let same : c.after.rank.log ≡ (rank_at w r).log = ap (λ (p : Player). p.rank.log) c.skipped.only in
      rw c.only (settled-moved w (with_players w (set w.players r c.after)) settled i refl (λ c d k. k) settled.held (moved-plain n w.decided r (player_at w r) c.after (inl same) (settled.adopted r i) (closed_open c.after (ap (λ (p : Player). p.current) c.skipped.only))))

  settled-takes : (r : ℕ) (passed : List (WorldRank × Item)) {w' : World} → Takes w r passed w' → Settled n w'
  settled-takes r passed t =
      let i = below r t.inside in
      let p = with_rank (player_at w r) (logged (rank_at w r) (Took t.source t.item)) in
      let adds = inr (Took t.source t.item, tt, tt, refl) in
      rw t.only (settled-moved w (with_inbox (with_player w r p) r (passed ++ t.rest)) settled i refl (λ c d k. k) settled.held (moved-plain n w.decided r (player_at w r) p adds (settled.adopted r i) (λ asked topic e about. adopted-plain n r topic adds (settled.unadopted r i asked topic e (sym (topic-took (rank_at w r).log (Took t.source t.item) asked tt) ∙ about)))))

  settled-pushes : (s d : ℕ) {w' : World} → Pushes w s d w' → Settled n w'
  settled-pushes s d t =
      let i = below s t.inside_s in
      let p = with_rank (player_at w s) t.after in
      let same : t.after.log ≡ (rank_at w s).log = ap (λ (x : State). x.log) t.leaves.marked in
      let adds = inl same in
      rw t.only (settled-moved w (with_inbox (with_player w s p) d (inbox_at w d ++ (t.sender, t.item) ∷ [])) settled i refl (λ c d k. k) settled.held (moved-plain n w.decided s (player_at w s) p adds (settled.adopted s i) (λ asked topic e about. adopted-plain n s topic adds (settled.unadopted s i asked topic e (ap (λ (l : List Entry). topic_of l asked) (sym same) ∙ about)))))

  settled-settles : (r : ℕ) (comm : Context) (players : List Player) (later : Known) → DecidesStep w.players w.decided r comm players later → Settled n (with_decided (with_players w players) later)
  settled-settles r comm players later c =
      let i = below r c.inside in let d = c.decided in let proposal = d.decision.proposal in
      let is : c.after.rank ≡ d.rank = ap (λ (p : Player). p.rank) d.only in
      let closed : c.after.current ≡ None = ap (λ (p : Player). p.current) d.only in
      let w' = with_decided (with_players w (set w.players r c.after)) later in
      rw c.only (elim (d.decision.outcome) [
        | inl a ↦
            let still = still_known w.decided later proposal a.held a.board_answers in
            let ok = handed_held n w r d.decision.topic h settled i c.running proposal d.decision.proposed (held_cases w.decided later proposal a.held a.board_answers) in
            settled-moved w w' settled i refl still
            (λ x e known. elim (later_cases w.decided later proposal a.held a.board_answers x e known) [
              | inl was ↦ settled.held x e was
              | inr now ↦ rw now.0 (rw (now.1 ∙ d.decision.proposed.about) ok)
            ])
            (moved-adopted n w r d.decision.topic h settled i c.running proposal d.decision.proposed later a.held a.board_answers d.asked d.answer d.rank c.after a.adoption is closed)
        | inr b ↦
            let log_same : c.after.rank.log ≡ (rank_at w r).log = ap (λ (s : State). s.log) (is ∙ b.rank_stays) in
            settled-moved w w' settled i refl (λ x e known. ap (λ (ks : Known). known_at ks x) b.known_stay ∙ known) (λ x e known. settled.held x e (ap (λ (ks : Known). known_at ks x) (sym b.known_stay) ∙ known))
            (moved-plain n later r (player_at w r) c.after (inl log_same) (rw b.known_stay (settled.adopted r i)) (closed_open c.after closed))
      ])

  pub settled-happens : (event : Event) (w' : World) → Happens w event w' → Settled n w'
  settled-happens (Call r asked) w' k = rw k.2 (settled-calls r asked k.0 k.1)
  settled-happens (Push s d) w' k = settled-pushes s d k
  settled-happens (Take r) w' k = settled-takes r [] k
  settled-happens (TakeFrom r s) w' k = settled-takes r k.passed k.takes
  settled-happens (Decide r comm) w' k = rw k.3 (settled-settles r comm k.0 k.1 k.2)
  settled-happens (Leave r) w' k = rw k.2 (settled-gives_up r k.0 k.1)
  settled-happens (Skip r asked) w' k = rw k.2 (settled-skips r asked k.0 k.1)

pub settled-run : (n : ℕ) (events : List Event) {w : World} (w' : World) → IsWorld w → Settled n w → Run w events w' → Settled n w'
settled-run n events {w} w' h settled k = each_run (Settled n) (λ u event u' i held happens. settled-happens n u i held event u' happens) events w' h settled k
