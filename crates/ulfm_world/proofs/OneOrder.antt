-- In every schedule all logs have one order, so each revocation was made by some rank's own call, and each decision proposed.
use Rattle.std.proofs.Common.{◌≡◌, ℕ, ◌≤◌, List, [], ◌∷◌, length, take, ap, sym, subst, arith, inl, inr, append-nil}
use Rattle.ulfm_world.proofs.Common.{Adopted, Call, Decide, Entry, Event, Happens, IsWorld, Leave, Player, Push, Reaches, Report, RevokedByARank, Room, Skip, Skipped, State, Take, TakeFrom, Took, Unfinished, World, at, cases_lt, get_or_past, no_player, none-some, player_at, rank_at, report_of, reports_in, start_world, step_report, with_rank}
use Rattle.ulfm_report_laws.specs.Order.{HaveOneOrder, Owe}
use Rattle.ulfm_report_laws.proofs.Ordered.{revoked_by_order}
use Rattle.ulfm_world.specs.Each.{InEachWorld}
use Rattle.ulfm_world.proofs.Agreed.{Settled}
use Rattle.ulfm_world.proofs.InOrder.{HaveOrder, grown-called, grown-idle, log_in, order-set, order-takes, steps_in}
use Rattle.ulfm_world.proofs.InTurn.{order-decided}
use Rattle.ulfm_world.proofs.Moving.{settled-happens}
use Rattle.ulfm_world.proofs.Ordered.{GoesOn, ordered_none}
use Rattle.ulfm_world.proofs.Read.{report_there, report_is}
use Rattle.ulfm_world.proofs.Runs.{each_run}
use Rattle.ulfm_world.proofs.Safe.{settled-start}
use Rattle.ulfm_world.proofs.Starts.{player-start, length-start, world-start}

-- what an event leaves of one order
order-happens : (n : ℕ) (w : World) (event : Event) (w' : World) → IsWorld w → Settled n w → HaveOrder w.players w.decided → Happens w event w' → HaveOrder w'.players w'.decided
order-happens n w (Call r asked) w' h settled all k =
    subst (λ (x : World). HaveOrder x.players x.decided) (sym k.2)
    (subst (λ (players : List Player). HaveOrder players w.decided) (sym k.1.only) (order-set w.players w.decided r k.1.after (grown-called w.players r asked k.1.after k.1.inside k.1.called) all))
order-happens n w (Push s d) w' h settled all k =
    let p = with_rank (player_at w s) k.after in
    subst (λ (x : World). HaveOrder x.players x.decided) (sym k.only)
    (order-set w.players w.decided s p (grown-idle w.players s p k.inside_s (ap (λ (x : State). x.log) k.leaves.marked) ([], sym (append-nil (player_at w s).done))) all)
order-happens n w (Take r) w' h settled all k = order-takes w r [] w' h all k
order-happens n w (TakeFrom r s) w' h settled all k = order-takes w r k.passed w' h all k.takes
order-happens n w (Decide r comm) w' h settled all k =
    subst (λ (x : World). HaveOrder x.players x.decided) (sym k.3)
    (subst (λ (players : List Player). HaveOrder players k.1) (sym k.2.only) (order-decided n w r comm k.0 k.1 h settled all k.2))
order-happens n w (Leave r) w' h settled all k =
    let g = k.1 in let only = g.left.only in
    let more : GoesOn (player_at w r).done g.after.done = (step_report g.left.step Unfinished (player_at w r).at (player_at w r).polls ∷ [], ap (λ (p : Player). p.done) only) in
    subst (λ (x : World). HaveOrder x.players x.decided) (sym k.2)
    (subst (λ (players : List Player). HaveOrder players w.decided) (sym g.only) (order-set w.players w.decided r g.after (grown-idle w.players r g.after g.inside (ap (λ (p : Player). p.rank.log) only) more) all))
order-happens n w (Skip r asked) w' h settled all k =
    let g = k.1 in let only = g.skipped.only in
    let more : GoesOn (player_at w r).done g.after.done = (step_report asked Skipped (length (rank_at w r).log) (player_at w r).polls ∷ [], ap (λ (p : Player). p.done) only) in
    subst (λ (x : World). HaveOrder x.players x.decided) (sym k.2)
    (subst (λ (players : List Player). HaveOrder players w.decided) (sym g.only) (order-set w.players w.decided r g.after (grown-idle w.players r g.after g.inside (ap (λ (p : Player). p.rank.log) only) more) all))

-- players that start have empty logs
start_logs : (n : ℕ) (room : Room) (r : ℕ) → log_in (start_world n room).players r ≡ []
start_logs n room r = elim (cases_lt r n) [
  | inl inside ↦ ap (λ (p : Player). p.rank.log) (player-start n n r inside)
  | inr past ↦ ap (λ (p : Player). p.rank.log) (get_or_past (start_world n room).players r no_player (omega (arith, past, length-start n n)))
]

-- settled, with one order
abbrev IsInOrder : ℕ → World → Type 0
IsInOrder n w = Settled n w × HaveOrder w.players w.decided

order_start : (n : ℕ) (room : Room) → HaveOrder (start_world n room).players (start_world n room).decided
order_start n room =
    let players = (start_world n room).players in record {
      ordered = ordered_none (length players) (log_in players) (steps_in players) (start_logs n room);
      held = λ topic d known. absurd (none-some d (known));
    }

order_reached : (n : ℕ) (room : Room) (w : World) → n ≤ 8 → Reaches (start_world n room) w → HaveOrder w.players w.decided
order_reached n room w small h =
    (each_run (IsInOrder n) (λ u event u' kept both happens. (settled-happens n u kept both.0 event u' happens, order-happens n u event u' kept both.0 both.1 happens))
    h.0 w (world-start n room small) (settled-start n room, order_start n room) h.1).1

-- the logs of reports that stand there
report_log : (w : World) (r : ℕ) {told : Report} → at (reports_in w) r told → told.rank.log ≡ log_in w.players r
report_log w r here = ap (λ (x : Report). x.rank.log) (report_is w r here)

-- all logs have one order
pub one_order : InEachWorld HaveOneOrder
one_order n room w small h =
    let o = (order_reached n room w small h).ordered in record {
      time = o.time;
      onward = λ r k told here lt. o.onward r k (omega (arith, lt, ap length (report_log w r here)));
      owed_earlier = λ d k receiver source item here stands.
          let s = source.number in let log = report_log w d here in
          let owed = o.owed d k source item (subst (λ (xs : List Entry). at xs k (Took source item)) log stands) in record {
            sender = report_of (player_at w s);
            reported = report_there w s owed.inside;
            count = owed.count;
            earlier = owed.earlier;
            owed = subst (λ (xs : List Entry). Owe s d (take owed.count (log_in w.players s)) (take k xs) item) (sym log) owed.owed;
          };
      proposed_earlier = λ r k told d here stands.
          let before = o.made r k d (subst (λ (xs : List Entry). at xs k (Adopted d)) (report_log w r here) stands) in
          let made = before.made in record {
            rank = made.rank;
            told = report_of (player_at w made.rank);
            reported = report_there w made.rank made.inside;
            place = made.place;
            made = made.made;
            earlier = before.earlier;
          };
    }

-- in each world that a schedule leads to
pub revoked_by_a_rank : InEachWorld RevokedByARank
revoked_by_a_rank n room w small h = revoked_by_order (one_order n room w small h)
