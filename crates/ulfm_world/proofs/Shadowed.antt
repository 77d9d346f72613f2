-- Beside each player of a world stands one that polls no open shrink or agreement again, and whose answers are right.
use Rattle.std.proofs.Common.{ℕ, ◌≤◌, [], ap, ◌∙◌, Some}
use Rattle.ulfm_world.proofs.Common.{Call, Decide, Event, Happens, Leave, Push, Reaches, Room, Skip, Take, TakeFrom, World, player_at, start_world}
use Rattle.ulfm_script.proofs.Shadows.{Shadowed, shadow-called, shadow-decided, shadow-left, shadow-moved, shadow-skipped, shadow-start}
use Rattle.ulfm_world.specs.inside.Rounds.{AllSoFar}
use Rattle.ulfm_world.proofs.Runs.{each_run}
use Rattle.ulfm_world.proofs.SoFar.{KeptByDecisions, KeptByMoves, all-decides, all-pushes, all-set, all-start, all-takes}
use Rattle.ulfm_world.proofs.Starts.{world-start}

moves-shadow : KeptByMoves Shadowed
moves-shadow known p r h me ranks stops takes = shadow-moved known p r h me ranks stops takes

decides-shadow : KeptByDecisions Shadowed
decides-shadow known later p comm q h running d = shadow-decided (Some []) known later p comm q h running d

shadowed-happens : (w : World) (event : Event) (w' : World) → AllSoFar Shadowed w → Happens w event w' → AllSoFar Shadowed w'
shadowed-happens w (Call r asked) w' h t =
    let c = t.1 in
    all-set Shadowed w w' r c.after c.inside (ap (λ (x : World). x.players) t.2 ∙ c.only) (ap (λ (x : World). x.decided) t.2) (λ known q. shadow-called known (player_at w r) asked c.after q c.running c.free c.called) h
shadowed-happens w (Push s d) w' h t = all-pushes Shadowed moves-shadow w s d w' t h
shadowed-happens w (Take r) w' h t = all-takes Shadowed moves-shadow w r [] w' t h
shadowed-happens w (TakeFrom r s) w' h t = all-takes Shadowed moves-shadow w r t.passed w' t.takes h
shadowed-happens w (Decide r comm) w' h t = all-decides Shadowed decides-shadow w r comm w' t h
shadowed-happens w (Leave r) w' h t =
    let g = t.1 in
    all-set Shadowed w w' r g.after g.inside (ap (λ (x : World). x.players) t.2 ∙ g.only) (ap (λ (x : World). x.decided) t.2) (λ known q. shadow-left known (player_at w r) g.after q g.left) h
shadowed-happens w (Skip r asked) w' h t =
    let s = t.1 in
    all-set Shadowed w w' r s.after s.inside (ap (λ (x : World). x.players) t.2 ∙ s.only) (ap (λ (x : World). x.decided) t.2) (λ known q. shadow-skipped known (player_at w r) asked s.after q s.skipped) h

-- whatever events come
pub shadowed : (n : ℕ) (room : Room) (w : World) → n ≤ 8 → Reaches (start_world n room) w → AllSoFar Shadowed w
shadowed n room w small h = each_run (AllSoFar Shadowed) (λ x event y world before happens. shadowed-happens x event y before happens) h.0 w (world-start n room small) (all-start Shadowed shadow-start n room) h.1
