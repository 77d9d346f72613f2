-- What holds of each answer as it is given holds of all, in every schedule.
use Rattle.std.proofs.Common.{◌≡◌, ℕ, ◌<◌, ◌≤◌, List, length, set, subst, inl, inr, arith, All, length-set}
use Rattle.std.proofs.lemmas.List.Elements.{All-get_or}
use Rattle.ulfm_board.specs.Known.{Known}
use Rattle.ulfm_script.specs.Calls.{AnswersStep}
use Rattle.ulfm_answer.specs.declared.answer.StepAnswer.TheVariants.{Unfinished, Skipped}
use Rattle.ulfm_world.proofs.Common.{All-nil, All-push, Call, CallError, Context, Decide, DecidesStep, Event, GivesUpStep, Happens, IsCalled, IsWorld, Leave, OutOfMemory, Player, Push, Reaches, Refused, Report, Room, Skip, SkipsStep, State, Step, StepAnswer, StepReport, Take, TakeFrom, Took, World, at, get_or_from_slice_get, logged, player_at, player_in, rank_at, reports_in, slice_get_within, start_world, step_report, with_rank}
use Rattle.ulfm_world.proofs.Agreed.{Settled}
use Rattle.ulfm_world.proofs.Changed.{each_player}
use Rattle.ulfm_world.proofs.Decided.{decided_starves}
use Rattle.ulfm_world.proofs.Moving.{settled-happens}
use Rattle.ulfm_world.proofs.Read.{each_report}
use Rattle.ulfm_world.proofs.Runs.{each_run}
use Rattle.ulfm_world.proofs.Safe.{settled-start}
use Rattle.ulfm_world.proofs.Starts.{length-start, player-start, world-start}

-- A poll, a decision that is refused for want of memory alone, a step that is given up, and one that is skipped give answers of which P holds.
module _ (P : StepReport → Type 0)
    (by_poll : (before : List StepReport) (r : State) (asked : Step) (answer : StepAnswer) (new : State) (place polls : ℕ) → AnswersStep before r asked answer new → P (step_report asked answer place polls))
    (by_decision : (asked : Step) (answer : StepAnswer) (place polls : ℕ) → ((e : CallError) → answer ≡ Refused e → e ≡ OutOfMemory) → P (step_report asked answer place polls))
    (given_up : (asked : Step) (place polls : ℕ) → P (step_report asked Unfinished place polls)) (passed : (asked : Step) (place polls : ℕ) → P (step_report asked Skipped place polls)) where
  -- it holds of each step of any player
  abbrev Each : List Player → Type 0
  Each players = (r : ℕ) → r < length players → All P (player_in players r).done

  each-set : (players : List Player) (r : ℕ) (p : Player) → r < length players → All P p.done → Each players → Each (set players r p)
  each-set players r p inside h all x k = each_player players r p (λ (a b : Player). All P b.done) inside h all x (omega (arith, k, length-set players r p))

  each-called : {old : Player} (asked : Step) {new : Player} → All P old.done → IsCalled old asked new → All P new.done
  each-called {old} asked h (inl a) = rw a.only (All-push P old.done (step_report asked a.answer (length old.rank.log) old.polls) h (by_poll old.done old.rank asked a.answer a.rank (length old.rank.log) old.polls a.answers))
  each-called {old} asked h (inr o) = rw o.only h

  each-left : {old new : Player} → All P old.done → GivesUpStep old new → All P new.done
  each-left {old} h left = rw left.only (All-push P old.done (step_report left.step Unfinished old.at old.polls) h (given_up left.step old.at old.polls))

  each-skipped : {old : Player} (asked : Step) {new : Player} → All P old.done → SkipsStep old asked new → All P new.done
  each-skipped {old} asked h skipped = rw skipped.only (All-push P old.done (step_report asked Skipped (length old.rank.log) old.polls) h (passed asked (length old.rank.log) old.polls))

  module _ (n : ℕ) (w : World) (h : IsWorld w) (settled : Settled n w) where
    each-decided : (r : ℕ) (comm : Context) (players : List Player) (later : Known) (c : DecidesStep w.players w.decided r comm players later) → All P (player_at w r).done → All P c.after.done
    each-decided r comm players later c all =
        let d = c.decided in
        rw d.only (All-push P (player_at w r).done (step_report d.asked d.answer (length (rank_at w r).log) (player_at w r).polls) all
        (by_decision d.asked d.answer (length (rank_at w r).log) (player_at w r).polls (λ e is. decided_starves n w r comm h settled players later c e is)))

    each-happens : (event : Event) (w' : World) → Each w.players → Happens w event w' → Each w'.players
    each-happens (Call r asked) w' t k = rw k.2 (rw k.1.only (each-set w.players r k.1.after k.1.inside (each-called asked (t r k.1.inside) k.1.called) t))
    each-happens (Push s d) w' t k = rw k.only (each-set w.players s (with_rank (player_at w s) k.after) k.inside_s (t s k.inside_s) t)
    each-happens (Take r) w' t k = rw k.only (each-set w.players r (with_rank (player_at w r) (logged (rank_at w r) (Took k.source k.item))) k.inside (t r k.inside) t)
    each-happens (TakeFrom r s) w' t k = rw k.takes.only (each-set w.players r (with_rank (player_at w r) (logged (rank_at w r) (Took k.takes.source k.takes.item))) k.takes.inside (t r k.takes.inside) t)
    each-happens (Decide r comm) w' t k = rw k.3 (rw k.2.only (each-set w.players r k.2.after k.2.inside (each-decided r comm k.0 k.1 k.2 (t r k.2.inside)) t))
    each-happens (Leave r) w' t k = rw k.2 (rw k.1.only (each-set w.players r k.1.after k.1.inside (each-left (t r k.1.inside) k.1.left) t))
    each-happens (Skip r asked) w' t k = rw k.2 (rw k.1.only (each-set w.players r k.1.after k.1.inside (each-skipped asked (t r k.1.inside) k.1.skipped) t))

  each-reached : (n : ℕ) (room : Room) (w : World) → n ≤ 8 → Reaches (start_world n room) w → Each w.players
  each-reached n room w small k =
      (each_run (λ (x : World). Settled n x × Each x.players)
      (λ u event u' i held happens. (settled-happens n u i held.0 event u' happens, each-happens n u i held.0 event u' held.1 happens))
      k.0 w (world-start n room small) (settled-start n room, start) k.1).1
    where
      start : Each (start_world n room).players
      start r i = rw (player-start n n r (omega (arith, i, length-start n n))) (All-nil P)

  -- so it holds of each answer that is reported
  pub each_step : (n : ℕ) (room : Room) (w : World) → n ≤ 8 → Reaches (start_world n room) w → (r k : ℕ) (told : Report) (step : StepReport) → at (reports_in w) r told → at told.steps k step → P step
  each_step n room w small h r k told step here stands =
      let all : All P told.steps = each_report (λ x report. All P report.steps) w (each-reached n room w small h) r told here in
      subst P (get_or_from_slice_get told.steps k step step stands) (All-get_or P told.steps k step (slice_get_within told.steps k step stands) all)
