-- Polls in vain of one step, one after another.
use Rattle.std.proofs.Common.{◌≡◌, ℕ, zero, suc, ◌+◌, ◌-◌, ◌<◌, true, false, cond, List, [], length, get_or, set, refl, ap, sym, subst, ◌∙◌, arith, inl, inr, length-set, set-set, Option, Some, None, is_none, slice_get, MatchOption}
use Rattle.ulfm_board.specs.Known.{Known}
use Rattle.ulfm_script.specs.Player.{IsPolledInVain, polled_on}
use Rattle.ulfm_script.specs.Meant.{next_step, played_script}
use Rattle.ulfm_script.proofs.Advance.{ready-at}
use Rattle.ulfm_script.proofs.MeantAlong.{next-played}
use Rattle.ulfm_script.proofs.Reacting.{open_played}
use Rattle.ulfm_script.proofs.Vain.{vain-after, vain-again, vain-more, vain-next, vain-one, vain-opens}
use Rattle.ulfm_world.specs.World.{CallsInVain}
use Rattle.ulfm_world.specs.inside.Steps.{IsKeptWorld}
use Rattle.ulfm_world.specs.Parts.{parts, players_of, the_player}
use Rattle.ulfm_world.proofs.Changed.{player-same}
use Rattle.ulfm_world.proofs.Kept.{kept-reached}
use Rattle.ulfm_world.proofs.Lists.{players-set, seen_player}
use Rattle.ulfm_world.proofs.Moves.{moves-on}
use Rattle.ulfm_world.proofs.MovesCall.{moves-call}
use Rattle.ulfm_world.proofs.Runs.{keeps-happens, reaches-one, reaches-then}
use Rattle.ulfm_world.proofs.Common.{Answered, awaits_decision, Call, Follows, FollowsSoFar, Happens, IsCalled, is_stopped, IsJob, IsRunning, IsUndecided, IsWorld, Item, length-map, Moves, NotYet, opens_add, outcome_of, Player, player_at, player_in, polled, PollOpens, Reaches, JobView, Step, stopped-adds, PlayerView, with_player, with_players, World, WorldRank, Room}

-- the player r after one poll in vain
abbrev after : World → ℕ → Step → Player
after w r asked = polled (player_at w r) asked (length (player_at w r).rank.log)

-- a poll in vain happens, and is told so
vain-happens : (w : World) (r : ℕ) (asked : Step) → r < length w.players → IsRunning w r → IsPolledInVain (player_at w r) asked → Happens w (Call r asked) (with_player w r (after w r asked))
vain-happens w r asked inside running h =
    (set w.players r (after w r asked), record { inside = inside; running = running; free = inr h.waits; after = after w r asked; called = inr (vain-opens (player_at w r) asked h); only = refl }, refl)

-- the world after one, and the player r there
vain-next_at : (w : World) (r : ℕ) (asked : Step) → r < length w.players → player_at (with_player w r (after w r asked)) r ≡ after w r asked
vain-next_at w r asked inside = player-same w.players r r (after w r asked) refl inside

vain-told : (w : World) (r : ℕ) (asked : Step) → r < length w.players → outcome_of (with_player w r (after w r asked)) (Call r asked) ≡ NotYet
vain-told w r asked inside = ap (λ (p : Player). cond (is_none p.current) Answered NotYet) (vain-next_at w r asked inside)

-- so do several
often : (n : ℕ) (w : World) (r : ℕ) (asked : Step) → r < length w.players → IsRunning w r → IsPolledInVain (player_at w r) asked → CallsInVain (suc n) w r asked (with_player w r (polled_on (player_at w r) (suc n)))
often zero w r asked inside running h =
    (with_player w r (after w r asked), vain-happens w r asked inside running h, vain-told w r asked inside, ap (with_player w r) (vain-one (player_at w r) asked h))
often (suc n) w r asked inside running h =
    let next = with_player w r (after w r asked) in
    let there_is = vain-next_at w r asked inside in
    let more = often n next r asked (omega (arith, inside, length-set w.players r (after w r asked))) (ap (λ (p : Player). is_stopped p.rank.log) there_is ∙ running) (subst (λ (p : Player). IsPolledInVain p asked) (sym there_is) (vain-next (player_at w r) asked h)) in
    let last : polled_on (player_at next r) (suc n) ≡ polled_on (player_at w r) (suc (suc n)) = ap (λ (p : Player). polled_on p (suc n)) there_is ∙ sym (vain-more (player_at w r) asked (suc n) h) in (
      next,
      vain-happens w r asked inside running h,
      vain-told w r asked inside,
      subst (CallsInVain (suc n) next r asked) (ap (with_players w) (set-set w.players r (after w r asked) (polled_on (player_at next r) (suc n))) ∙ ap (with_player w r) last) more,
    )

-- polls in vain of a player that stands at its place among others
pub often_parts : (views : List PlayerView) (inboxes : List (List (WorldRank × Item))) (room : Room) (decided : Known) (r n : ℕ) {old : PlayerView} (new : PlayerView) (asked : Step) → r < length views → old ≡ get_or views r old → new.player ≡ polled_on old.player n → 0 < n
    → IsRunning (parts views inboxes room decided) r → IsPolledInVain (player_at (parts views inboxes room decided) r) asked → CallsInVain n (parts views inboxes room decided) r asked (parts (set views r new) inboxes room decided)
often_parts views inboxes room decided r zero new asked inside same is some running h = absurd (omega (arith, some))
often_parts views inboxes room decided r (suc n) {old} new asked inside same is some running h =
    let w = parts views inboxes room decided in
    let read : player_in (players_of views) r ≡ old.player = seen_player views r inside same in
    let made : players_of (set views r new) ≡ set (players_of views) r (polled_on (player_in (players_of views) r) (suc n)) =
    players-set views r new ∙ ap (set (players_of views) r) (is ∙ ap (λ (p : Player). polled_on p (suc n)) (sym read)) in
    subst (CallsInVain (suc n) w r asked) (ap (with_players w) (sym made)) (often n w r asked (omega (arith, inside, length-map views the_player)) running h)

-- some schedule leads to what several polls lead to
pub often-reaches : (n : ℕ) (w : World) (r : ℕ) (asked : Step) (w' : World) → CallsInVain n w r asked w' → Reaches w w'
often-reaches zero w r asked w' h = ([], h)
often-reaches (suc n) w r asked w' h = reaches-then w h.0 w' (reaches-one w (Call r asked) h.0 h.1) (often-reaches n h.0 r asked w' h.3)

-- a world stays one that some schedule leads to
pub kept-often : (n : ℕ) (w : World) (r : ℕ) (asked : Step) (w' : World) → IsKeptWorld w → CallsInVain n w r asked w' → IsKeptWorld w'
kept-often n w r asked w' h calls =
    let was = h.reached in
    kept-reached w' (record { ranks = was.ranks; room = was.room; few = was.few; schedule = reaches-then _ w w' was.schedule (often-reaches n w r asked w' calls) })

-- one poll and those after it
pub calls_first : (n : ℕ) (w mid w' : World) (r : ℕ) (asked : Step) → 1 < n → Happens w (Call r asked) mid → outcome_of mid (Call r asked) ≡ NotYet → CallsInVain (n - 1) mid r asked w' → CallsInVain n w r asked w'
calls_first zero w mid w' r asked many happens told rest = absurd (omega (arith, many))
calls_first (suc m) w mid w' r asked many happens told rest =
    let one : suc m - 1 ≡ m = omega arith in
    (mid, happens, told, subst (λ (k : ℕ). CallsInVain k mid r asked w') one rest)

-- a poll that left its step open
left_open : (p : Player) (asked : Step) (q : Player) → IsCalled p asked q → cond (is_none q.current) Answered NotYet ≡ NotYet → PollOpens p asked q
left_open p asked q (inr o) told = o
left_open p asked q (inl a) told =
    let answered : Answered ≡ NotYet = ap (λ (x : Player). cond (is_none x.current) Answered NotYet) (sym a.only) ∙ told in
    let bad : ⊥ = cc in
    absurd bad

-- after a poll that left its step open the rank runs, and the next poll is in vain
pub vain-called : (w mid : World) (r : ℕ) (asked : Step) → Happens w (Call r asked) mid → outcome_of mid (Call r asked) ≡ NotYet → (r < length mid.players) × IsRunning mid r × IsPolledInVain (player_at mid r) asked
vain-called w mid r asked happens told =
    let c = happens.1 in let p = player_at w r in
    let mid_is : mid ≡ with_player w r c.after = happens.2 ∙ ap (with_players w) c.only in
    let mid_at : player_at mid r ≡ c.after = ap (λ (x : World). player_at x r) mid_is ∙ player-same w.players r r c.after refl c.inside in
    let opens : PollOpens p asked c.after = left_open p asked c.after c.called (ap (λ (x : Player). cond (is_none x.current) Answered NotYet) (sym mid_at) ∙ told) in
    let runs : is_stopped c.after.rank.log ≡ false = ap (λ (x : Player). is_stopped x.rank.log) opens.only ∙ stopped-adds p.rank false opens.rank c.running (opens_add (awaits_decision p.current) p.done p.rank asked opens.rank opens.stays) in (
      omega (arith, c.inside, ap (λ (x : World). length x.players) mid_is, length-set w.players r c.after),
      ap (λ (x : Player). is_stopped x.rank.log) mid_at ∙ runs,
      subst (λ (x : Player). IsPolledInVain x asked) (sym mid_at) (vain-after p asked c.after c.free opens),
    )

-- a step that stands open for a decision after one more poll stood so before
undecided_still : (p : Player) (asked : Step) → p.current ≡ Some asked → IsUndecided p → IsUndecided (polled p asked (length p.rank.log))
undecided_still p asked waits u comm ready = u comm (record { asked = ready.asked; waits = waits ∙ ready.waits; on = ready.on; ready = ready.ready })

module _ {j : JobView} (job : IsJob j) (r : ℕ) (asked : Step) where
  -- one poll that leaves an open step open moves on, and changes its polls alone
  moves_once : (w mid : World) → IsWorld w → r < length w.players → Follows j w → IsRunning w r → (player_at w r).current ≡ Some asked → IsUndecided (player_at w r) → (player_at w r).polls + 1 < j.turns → Happens w (Call r asked) mid → outcome_of mid (Call r asked) ≡ NotYet
      → Moves j w mid true × (player_at mid r ≡ polled (player_at w r) asked (length (player_at w r).rank.log))
  moves_once w mid h inside f running waits undecided spare happens told =
      let c = happens.1 in let p = player_at w r in
      let mid_is : mid ≡ with_player w r c.after = happens.2 ∙ ap (with_players w) c.only in
      let mid_at : player_at mid r ≡ c.after = ap (λ (x : World). player_at x r) mid_is ∙ player-same w.players r r c.after refl inside in
      let opens : PollOpens p asked c.after = left_open p asked c.after c.called (ap (λ (x : Player). cond (is_none x.current) Answered NotYet) (sym mid_at) ∙ told) in
      let now : player_at mid r ≡ polled p asked (length p.rank.log) = mid_at ∙ vain-again p asked c.after waits opens in
      let few : (player_at mid r).polls < j.turns = omega (arith, ap (λ (x : Player). x.polls) now, spare, job.most_turns) in
      let script = played_script j r p.done in
      let next : slice_get script (length p.done) ≡ Some asked = (subst (λ (o : Option Step). MatchOption o (p.polls ≡ 0) (λ (s : Step). (slice_get script (length p.done) ≡ Some s) × (p.polls < j.turns))) waits (f r inside).follows.current).0 in
      (moves-call r mid job h inside f (ready-at j r p asked job (f r inside).follows running (sym (next-played j r p.done) ∙ next)) (open_played (f r inside) waits) undecided happens (inr few), now)

  -- several do
  moves-often : (n : ℕ) (w w' : World) → IsWorld w → r < length w.players → Follows j w → IsRunning w r → (player_at w r).current ≡ Some asked → IsUndecided (player_at w r) → (player_at w r).polls + suc n < j.turns → CallsInVain (suc n) w r asked w' → Moves j w w' true
  moves-often zero w w' h inside f running waits undecided spare calls =
      subst (λ (x : World). Moves j w x true) (sym calls.3) (moves_once w calls.0 h inside f running waits undecided (omega (arith, spare)) calls.1 calls.2).0
  moves-often (suc m) w w' h inside f running waits undecided spare calls =
      let mid = calls.0 in
      let once = moves_once w mid h inside f running waits undecided (omega (arith, spare)) calls.1 calls.2 in
      let inside_mid : r < length mid.players = omega (arith, inside, once.0.size) in
      let more : (player_at mid r).polls + suc m < j.turns = omega (arith, ap (λ (p : Player). p.polls) once.1, spare, job.most_turns) in
      moves-on j true w mid w' once.0 (moves-often m mid w' (keeps-happens w (Call r asked) mid h calls.1) inside_mid (once.0.follows f)
      (ap (λ (p : Player). is_stopped p.rank.log) once.1 ∙ running) (ap (λ (p : Player). p.current) once.1)
      (subst IsUndecided (sym once.1) (undecided_still (player_at w r) asked waits undecided)) more calls.3)

  pub moves-many : (n : ℕ) (w w' : World) → IsWorld w → r < length w.players → Follows j w → IsRunning w r → (player_at w r).current ≡ Some asked → IsUndecided (player_at w r) → 0 < n → (player_at w r).polls + n < j.turns → CallsInVain n w r asked w' → Moves j w w' true
  moves-many zero w w' h inside f running waits undecided some spare calls = absurd (omega (arith, some))
  moves-many (suc n) w w' h inside f running waits undecided some spare calls = moves-often n w w' h inside f running waits undecided spare calls

-- a step that was polled stands open
pub open_now : (j : JobView) (r : ℕ) (p : Player) (asked : Step) → FollowsSoFar (played_script j r p.done) j.turns p → next_step j r p.done ≡ Some asked → 0 < p.polls → p.current ≡ Some asked
open_now j r p asked f next spent = pick p.current f.current
  where
    pick : (o : Option Step) → MatchOption o (p.polls ≡ 0) (λ (s : Step). (slice_get (played_script j r p.done) (length p.done) ≡ Some s) × (p.polls < j.turns)) → o ≡ Some asked
    pick None h = absurd (omega (arith, h, spent))
    pick (Some s) h = sym h.0 ∙ next-played j r p.done ∙ next
