-- In every schedule the answered steps of each rank are true of its log.
use Rattle.std.proofs.Common.{ℕ, ◌<◌, ◌≤◌, List, [], length, set, refl, arith, inl, inr, length-set, None}
use Rattle.ulfm_world.proofs.Common.{WorldRank, Item, Took, State, GoesOut, logged, Step, Event, Call, Push, Take, Decide, Leave, Skip, IsWorld, Takes, World, player_in, player_at, rank_at, start_world, Happens, Reaches, Player, IsCalled, GivesUpStep, SkipsStep, awaits_decision, with_rank, start_player, Skipped, Unfinished, Room, TakeFrom}
use Rattle.ulfm_report_laws.proofs.Answering.{true-same, true-answers}
use Rattle.ulfm_world.proofs.Changed.{each_player}
use Rattle.ulfm_world.proofs.KeepsCalls.{posted-taken}
use Rattle.ulfm_report_laws.proofs.Closing.{IsTrueOf}
use Rattle.ulfm_report_laws.proofs.Honest.{honest-logged, honest-start}
use Rattle.ulfm_report_laws.proofs.Mail.{IsTakenFrom}
use Rattle.ulfm_world.proofs.Runs.{each_run}
use Rattle.ulfm_report_laws.proofs.Joint.{true-opens, true-decided}
use Rattle.ulfm_world.proofs.Starts.{player-start, length-start, world-start}

-- the answered steps of each player are true of its log
abbrev pub AreTrue : List Player → Type 0
AreTrue players = (r : ℕ) → r < length players → IsTrueOf (player_in players r).rank (player_in players r).done

-- a change of one player, whose steps stay true
true-set : (players : List Player) (r : ℕ) (p : Player) → r < length players → IsTrueOf p.rank p.done → AreTrue players → AreTrue (set players r p)
true-set players r p inside h all x k = each_player players r p (λ (a b : Player). IsTrueOf b.rank b.done) inside h all x (omega (arith, k, length-set players r p))

true-called : {old : Player} (asked : Step) {new : Player} → IsTrueOf old.rank old.done → IsCalled old asked new → IsTrueOf new.rank new.done
true-called {old} asked h (inl a) = rw a.only (true-answers old.rank h (length old.rank.log) old.polls a.rank asked a.answer a.answers)
true-called {old} asked h (inr o) = rw o.only (true-opens (awaits_decision old.current) old.rank asked o.rank h o.stays)

true-left : {old new : Player} → IsTrueOf old.rank old.done → GivesUpStep old new → IsTrueOf new.rank new.done
true-left {old} h left = rw left.only (true-same old.rank old.done left.step Unfinished old.at old.polls old.rank h tt refl)

true-skipped : {old : Player} (asked : Step) {new : Player} → IsTrueOf old.rank old.done → SkipsStep old asked new → IsTrueOf new.rank new.done
true-skipped {old} asked h skipped = rw skipped.only (true-same old.rank old.done asked Skipped (length old.rank.log) old.polls old.rank h tt refl)

-- what left an outbox changes no log
true-leaves : (p : Player) {after : State} (d : ℕ) {item : Item} → IsTrueOf p.rank p.done → GoesOut p.rank after d item → IsTrueOf after p.done
true-leaves p d h leaves = rw leaves.marked h

true-took : (p : Player) (source : WorldRank) (item : Item) → IsTrueOf p.rank p.done → IsTakenFrom p.rank.ranks (Took source item) → IsTrueOf (logged p.rank (Took source item)) p.done
true-took p source item h own = honest-logged (Took source item) h tt (λ c d. refl) own

true-takes : (w : World) (r : ℕ) (passed : List (WorldRank × Item)) {w' : World} → IsWorld w → AreTrue w.players → Takes w r passed w' → AreTrue w'.players
true-takes w r passed h t k =
    let posted = posted-taken w r passed h k in
    rw k.only (true-set w.players r (with_rank (player_at w r) (logged (rank_at w r) (Took k.source k.item))) k.inside (true-took (player_at w r) k.source k.item (t r k.inside) (omega (arith, posted.0, h.counted r k.inside), posted.1)) t)

true-happens : (w : World) (event : Event) (w' : World) → IsWorld w → AreTrue w.players → Happens w event w' → AreTrue w'.players
true-happens w (Call r asked) w' h t k = rw k.2 (rw k.1.only (true-set w.players r k.1.after k.1.inside (true-called asked (t r k.1.inside) k.1.called) t))
true-happens w (Push s d) w' h t k = rw k.only (true-set w.players s (with_rank (player_at w s) k.after) k.inside_s (true-leaves (player_at w s) d (t s k.inside_s) k.leaves) t)
true-happens w (Take r) w' h t k = true-takes w r [] h t k
true-happens w (TakeFrom r s) w' h t k = true-takes w r k.passed h t k.takes
true-happens w (Decide r comm) w' h t k = rw k.3 (rw k.2.only (true-set w.players r k.2.after k.2.inside (true-decided comm None k.1 (t r k.2.inside) k.2.decided) t))
true-happens w (Leave r) w' h t k = rw k.2 (rw k.1.only (true-set w.players r k.1.after k.1.inside (true-left (t r k.1.inside) k.1.left) t))
true-happens w (Skip r asked) w' h t k = rw k.2 (rw k.1.only (true-set w.players r k.1.after k.1.inside (true-skipped asked (t r k.1.inside) k.1.skipped) t))

true-start : (n r : ℕ) → IsTrueOf (start_player r n).rank (start_player r n).done
true-start n r = honest-start n

-- the answered steps of each player in a world that a schedule leads to are true of its log
pub true-reached : (n : ℕ) (room : Room) (w : World) → n ≤ 8 → Reaches (start_world n room) w → AreTrue w.players
true-reached n room w small h = each_run (λ (x : World). AreTrue x.players) true-happens h.0 w (world-start n room small) start h.1
  where
    start : AreTrue (start_world n room).players
    start r k = rw (player-start n n r (omega (arith, k, length-start n n))) (true-start n r)
