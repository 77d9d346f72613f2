-- Each player's answers stay right, whatever a replay does next.
use Rattle.std.proofs.Common.{◌≡◌, ℕ, List, [], length, refl, ap, ◌∙◌, Some, slice_get}
use Rattle.ulfm_world.proofs.Common.{Context, WorldRank, Item, Step, JobView, with_rank, Call, Decide, Leave, Skip, World, player_at, start_world, Happens, Pushes, Takes, AllAnswersFollowSoFar, Follows, AnswersFollowSoFar, IsUndecided, Room}
use Rattle.ulfm_script.specs.Meant.{played_script}
use Rattle.ulfm_script.proofs.Adopted.{honest-decided}
use Rattle.ulfm_script.proofs.Calling.{honest-called}
use Rattle.ulfm_script.proofs.Honestly.{honest-moved, honest-left, honest-skipped, honest-start}
use Rattle.ulfm_world.proofs.SoFar.{KeptByMoves, all-decides, all-pushes, all-set, all-start, all-takes}

moves-honest : KeptByMoves AnswersFollowSoFar
moves-honest known p r h me ranks stops takes = honest-moved known p (with_rank p r) h refl me ranks stops takes

pub rightly-pushes : (w : World) (s d : ℕ) (w' : World) → Pushes w s d w' → AllAnswersFollowSoFar w → AllAnswersFollowSoFar w'
rightly-pushes w s d w' t h = all-pushes AnswersFollowSoFar moves-honest w s d w' t h

pub rightly-takes : (w : World) (r : ℕ) (passed : List (WorldRank × Item)) (w' : World) → Takes w r passed w' → AllAnswersFollowSoFar w → AllAnswersFollowSoFar w'
rightly-takes w r passed w' t h = all-takes AnswersFollowSoFar moves-honest w r passed w' t h

pub rightly-calls : (j : JobView) (w : World) (r : ℕ) {asked : Step} (w' : World) → Follows j w → slice_get (played_script j r (player_at w r).done) (length (player_at w r).done) ≡ Some asked → IsUndecided (player_at w r) → Happens w (Call r asked) w' → AllAnswersFollowSoFar w → AllAnswersFollowSoFar w'
rightly-calls j w r {asked} w' f next undecided t h =
    let c = t.1 in
    all-set AnswersFollowSoFar w w' r c.after c.inside (ap (λ (x : World). x.players) t.2 ∙ c.only) (ap (λ (x : World). x.decided) t.2)
    (λ known q. honest-called known (played_script j r (player_at w r).done) j.turns (player_at w r) asked c.after q c.running (f r c.inside).follows.current next undecided c.called) h

pub rightly-leaves : (w : World) (r : ℕ) (w' : World) → Happens w (Leave r) w' → AllAnswersFollowSoFar w → AllAnswersFollowSoFar w'
rightly-leaves w r w' t h =
    let g = t.1 in
    all-set AnswersFollowSoFar w w' r g.after g.inside (ap (λ (x : World). x.players) t.2 ∙ g.only) (ap (λ (x : World). x.decided) t.2) (λ known q. honest-left known (player_at w r) g.after q g.left) h

pub rightly-skips : (w : World) (r : ℕ) (asked : Step) (w' : World) → Happens w (Skip r asked) w' → AllAnswersFollowSoFar w → AllAnswersFollowSoFar w'
rightly-skips w r asked w' t h =
    let s = t.1 in
    all-set AnswersFollowSoFar w w' r s.after s.inside (ap (λ (x : World). x.players) t.2 ∙ s.only) (ap (λ (x : World). x.decided) t.2) (λ known q. honest-skipped known (player_at w r) asked s.after q s.skipped) h

pub rightly-decides : (w : World) (r : ℕ) (comm : Context) (w' : World) → Happens w (Decide r comm) w' → AllAnswersFollowSoFar w → AllAnswersFollowSoFar w'
rightly-decides w r comm w' t h = all-decides AnswersFollowSoFar (λ known later p comm q right running d. honest-decided (Some []) known later p comm q right running d) w r comm w' t h

pub rightly-start : (n : ℕ) (room : Room) → AllAnswersFollowSoFar (start_world n room)
rightly-start n room = all-start AnswersFollowSoFar honest-start n room
