-- Every schedule keeps what every world keeps.
use Rattle.std.proofs.Common.{◌≡◌, ℕ, ◌+◌, ◌<◌, List, [], ◌∷◌, ◌++◌, length, take, get_or, refl, ap, inl, inr, Result, Ok, Err, OnOk, OnErr, IfErr, None}
use Rattle.ulfm_board.specs.Known.{Known}
use Rattle.ulfm_world.proofs.Common.{Context, Event, Call, Push, Take, Decide, Leave, Skip, IsWorld, Player, Step, quiet-called, quiet-left, quiet-same, World, rank_at, with_players, with_decided, Calls, DecidesStep, GivesUp, Skips, Happens, IsRefused, Applied, Run, Reaches, IsReached, take_more, quiet-decided, TakeFrom}
use Rattle.ulfm_world.specs.declared.event.Refused.{Refused}
use Rattle.ulfm_world.proofs.KeepsCalls.{keeps-quiet, keeps-takes}
use Rattle.ulfm_world.proofs.KeepsPush.{keeps-pushes}

keeps-calls : (w : World) (r : ℕ) (asked : Step) {players : List Player} → IsWorld w → Calls w.players r asked players → IsWorld (with_players w players)
keeps-calls w r asked h c = rw c.only (keeps-quiet w r c.after h c.inside (quiet-called _ asked c.after (h.sound r c.inside) c.running c.called))

keeps-gives_up : (w : World) (r : ℕ) {players : List Player} → IsWorld w → GivesUp w.players r players → IsWorld (with_players w players)
keeps-gives_up w r h c = rw c.only (keeps-quiet w r c.after h c.inside (quiet-left _ c.after (h.sound r c.inside) c.left))

keeps-skips : (w : World) (r : ℕ) (asked : Step) {players : List Player} → IsWorld w → Skips w.players r asked players → IsWorld (with_players w players)
keeps-skips w r asked h c =
    let same : c.after.rank ≡ (rank_at w r) = ap (λ (p : Player). p.rank) c.skipped.only in
    rw c.only (keeps-quiet w r c.after h c.inside (rw same (quiet-same (rank_at w r) (h.sound r c.inside))))

keeps-settles : (w : World) (r : ℕ) (comm : Context) {players : List Player} (later : Known) → IsWorld w → DecidesStep w.players w.decided r comm players later → IsWorld (with_decided (with_players w players) later)
keeps-settles w r comm later h c =
    rw c.only (decided_else _ later (keeps-quiet w r c.after h c.inside (quiet-decided _ comm None w.decided later c.after (h.sound r c.inside) c.decided)))
  where
    -- what every world keeps says nothing of the decisions
    decided_else : (w : World) (later : Known) → IsWorld w → IsWorld (with_decided w later)
    decided_else w later h = record {
      small = h.small;
      as_many = h.as_many;
      named = h.named;
      counted = h.counted;
      sound = h.sound;
      signed = h.signed;
      posted = h.posted;
      passed_on = h.passed_on;
    }

pub keeps-happens : (w : World) (event : Event) (w' : World) → IsWorld w → Happens w event w' → IsWorld w'
keeps-happens w (Call r asked) w' h k = rw k.2 (keeps-calls w r asked h k.1)
keeps-happens w (Push s d) w' h k = keeps-pushes w s d h k
keeps-happens w (Take r) w' h k = keeps-takes w r [] h k
keeps-happens w (TakeFrom r s) w' h k = keeps-takes w r k.passed h k.takes
keeps-happens w (Decide r comm) w' h k = rw k.3 (keeps-settles w r comm k.1 h k.2)
keeps-happens w (Leave r) w' h k = rw k.2 (keeps-gives_up w r h k.1)
keeps-happens w (Skip r asked) w' h k = rw k.2 (keeps-skips w r asked h k.1)

pub keeps-applied : {w : World} (event : Event) {w' : World} → IsWorld w → Applied w event w' → IsWorld w'
keeps-applied {w} event {w'} h (inl k) = keeps-happens w event w' h k
keeps-applied event h (inr e) = rw e.2 h

pub keeps-run : (events : List Event) (w w' : World) → IsWorld w → Run w events w' → IsWorld w'
keeps-run [] w w' h k = rw k h
keeps-run (event ∷ events) w w' h k = keeps-run events k.0 w' (keeps-applied event h k.1) k.2

-- what each event keeps of a world, a schedule keeps
module _ (P : World → Type 0) (step : (w : World) (event : Event) (w' : World) → IsWorld w → P w → Happens w event w' → P w') where
  pub each_applied : (w : World) (event : Event) {w' : World} → IsWorld w → P w → Applied w event w' → P w'
  each_applied w event {w'} h p (inl k) = step w event w' h p k
  each_applied w event h p (inr e) = rw e.2 p

  pub each_run : (events : List Event) {w : World} (w' : World) → IsWorld w → P w → Run w events w' → P w'
  each_run [] w' h p k = rw k p
  each_run (event ∷ events) {w} w' h p k = each_run events w' (keeps-applied event h k.1) (each_applied w event h p k.1) k.2

pub keeps-reaches : {w : World} (w' : World) → IsWorld w → Reaches w w' → IsWorld w'
keeps-reaches {w} w' h k = keeps-run k.0 w w' h k.1

either : {A : Type 0} (r : Result A Refused) (w w' : World) (event : Event) → OnOk r (Happens w event w') → IfErr r (λ why. IsRefused w event why) → OnErr r (w' ≡ w) → Applied w event w'
either (Ok x) w w' event k why e = inl k
either (Err x) w w' event k why e = inr (x, why, e)

-- one more event
pub run-push : (events : List Event) (event : Event) (w m w' : World) → Run w events m → Applied m event w' → Run w (events ++ event ∷ []) w'
run-push [] event w m w' h k = (w', rw h at k, refl)
run-push (x ∷ events) event w m w' h k = (h.0, h.1, run-push events event h.0 m w' h.2 k)

pub run_more : {A : Type 0} (r : Result A Refused) (events : List Event) (i : ℕ) (d : Event) (w m w' : World) → i < length events → Run w (take i events) m → OnOk r (Happens m (get_or events i d) w') → IfErr r (λ why. IsRefused m (get_or events i d) why) → OnErr r (w' ≡ m) → Run w (take (i + 1) events) w'
run_more r events i d w m w' inside h k why e = rw (take_more events i d inside) (run-push (take i events) (get_or events i d) w m w' h (either r m w' (get_or events i d) k why e))

pub ruleset runs = (run_more)

run-append : (xs ys : List Event) (u v w : World) → Run u xs v → Run v ys w → Run u (xs ++ ys) w
run-append [] ys u v w h k = rw h at k
run-append (x ∷ xs) ys u v w h k = (h.0, h.1, run-append xs ys h.0 v w h.2 k)

pub reaches-one : (w : World) (event : Event) (w' : World) → Happens w event w' → Reaches w w'
reaches-one w event w' h = (event ∷ [], (w', inl h, refl))

pub reaches-then : (u v w : World) → Reaches u v → Reaches v w → Reaches u w
reaches-then u v w h k = (h.0 ++ k.0, run-append h.0 k.0 u v w h.1 k.1)

-- a world after an event that happened or was refused
pub reaches-either : {A E : Type 0} (r : Result A E) (w w' : World) (event : Event) → IsReached w → OnOk r (Happens w event w') → OnErr r (w' ≡ w) → IsReached w'
reaches-either (Ok x) w w' event h k e = record { ranks = h.ranks; room = h.room; few = h.few; schedule = reaches-then _ _ _ h.schedule (reaches-one w event w' k) }
reaches-either (Err x) w w' event h k e = rw e h
