-- What a turn of a process moves.
use mathlib.Core.List.{IsPrefix}
use Rattle.std.specs.List.{count_by}
use Rattle.std.specs.Prelude.{◌≡◌, ◌≢◌, ℕ, ◌<◌, ◌≤◌, ◌+◌, ◌==◌, ◌||◌, Bool, true, false, IsTrue, ◌↔◌, length, List, [], ◌∷◌, ◌⊎◌, Option, Some, None, IsSome, IfSome, is_some}
use Rattle.ulfm_base.specs.declared.error.CallError.{CallError}
use Rattle.ulfm_base.specs.declared.error.CallError.TheVariants.{BadRank, OutOfMemory}
use Rattle.ulfm_base.specs.declared.item.Item.{Item}
use Rattle.ulfm_base.specs.declared.rank.WorldRank.{WorldRank}
use Rattle.ulfm_carrier.specs.Head.{head_of}
use Rattle.ulfm_carrier.specs.Lanes.{IsFoundInTurn, heads_from, known_room, lane_name, lane_pushed, lane_taken, seen_from}
use Rattle.ulfm_log.specs.declared.entry.Entry.TheVariants.{Took}
use Rattle.ulfm_log.specs.Facts.{is_stopped}
use Rattle.ulfm_log.specs.State.{State, logged, outbox}
use Rattle.ulfm_commute.specs.World.{GoOut}
use Rattle.ulfm_c.specs.View.{ProcessView, ReadyView}

-- nothing can go out to the rank d: nothing waits for it, or the end knows of no free place in the ring to it
abbrev pub IsStuck : ProcessView → ℕ → Type 0
IsStuck p d = (outbox p.rank d ≡ []) ⊎ (known_room p.end d ≡ 0)

-- the rank after it took what came
abbrev pub with_came : State → Option (WorldRank × Item) → State
with_came r None = r
with_came r (Some came) = logged r (Took came.0 came.1)

-- it is the same end and the same seat
pub record IsSameProcess (old new : ProcessView) : Type 0 where
  pub end : lane_name new.end ≡ lane_name old.end
  pub board : new.board ≡ old.board
  pub known : new.known ≡ old.known

-- A running rank takes what came, one item at most, and is told whether one did. No place that was known to be free is lost.
pub record TakesItem (old new : ProcessView) (came : Option (WorldRank × Item)) (took : Bool) : Type 0 where
  pub runs : IsSome came → is_stopped old.rank.log ≡ false
  pub only : new.rank ≡ with_came old.rank came
  pub rooms : (d : ℕ) → known_room old.end d ≤ known_room new.end d
  pub told : took ≡ is_some came
  pub same : IsSameProcess old new

-- It takes an item of the first rank in turn of which one is seen. None comes where none is seen in any ring: then the turn stays, and all that
-- the rank had pushed to itself was taken.
pub record Takes (old new : ProcessView) (took : Bool) : Type 0 where
  pub came : Option (WorldRank × Item)
  pub takes : TakesItem old new came took
  pub in_turn : IfSome came (λ x. IsFoundInTurn old.end new.end x.0.number)
  pub same_turn : came ≡ None → new.end.next ≡ old.end.next
  pub none_seen : came ≡ None → (is_stopped old.rank.log ≡ true) ⊎ ((s : ℕ) → seen_from new.end s ≡ [])
  pub own_taken : came ≡ None → (is_stopped old.rank.log ≡ true) ⊎ (lane_taken old.end old.end.me.number ≡ lane_pushed old.end old.end.me.number)

-- It takes the first item that is seen in the ring from the rank s. None comes where none is seen there. The turn stays, and what is seen in the
-- other rings.
pub record TakesFrom (old new : ProcessView) (s : ℕ) (took : Bool) : Type 0 where
  pub came : Option (WorldRank × Item)
  pub takes : TakesItem old new came took
  pub first : IfSome came (λ x. (x.0.number ≡ s) × IsPrefix (heads_from old.end s) (head_of x.1 ∷ heads_from new.end s))
  pub none_seen : came ≡ None → (is_stopped old.rank.log ≡ true) ⊎ (seen_from new.end s ≡ [])
  pub own_taken : came ≡ None → s ≡ old.end.me.number → (is_stopped old.rank.log ≡ true) ⊎ (lane_taken old.end s ≡ lane_pushed old.end s)
  pub others_seen : (p : ℕ) → p ≢ s → seen_from new.end p ≡ seen_from old.end p
  pub same_turn : new.end.next ≡ old.end.next

-- why an item of the rank s can't be taken: there is no such rank, or a growth was refused of a rank that runs and had no room
abbrev pub IsTakeRefusal : ReadyView → ℕ → CallError → Type 0
IsTakeRefusal old s BadRank = old.view.rank.ranks ≤ s
IsTakeRefusal old s OutOfMemory = (s < old.view.rank.ranks) × (is_stopped old.view.rank.log ≡ false) × (old.ready ≡ false)
IsTakeRefusal old s _ = ⊥

-- the next take can't run out of memory: the rank had stopped, or it has room
abbrev pub LeavesRoom : ReadyView → ReadyView → Type 0
LeavesRoom old new = (is_stopped old.view.rank.log ≡ true) ⊎ (new.ready ≡ true)

-- what stands in the rings to the process stays there, its turn too, and it is the same end and the same seat
pub record TakesNone (old new : ProcessView) : Type 0 where
  pub seen : (s : ℕ) → seen_from new.end s ≡ seen_from old.end s
  pub next : new.end.next ≡ old.end.next
  pub same : IsSameProcess old new

-- Items went out, or none did, and it is told whether. No place that was known to be free is lost but to what went out.
pub record GoesOn (old new : ProcessView) (moved : Bool) : Type 0 where
  pub went : List ℕ
  pub out : GoOut went old.rank new.rank
  pub told : IsTrue moved ↔ (0 < length went)
  pub rooms : (d : ℕ) → known_room old.end d ≤ known_room new.end d + count_by (λ x. x == d) went
  pub takes_none : TakesNone old new

-- what waits goes out, until nothing can
pub record Pushes (old new : ProcessView) (moved : Bool) : Type 0 where
  pub goes_on : GoesOn old new moved
  pub all_out : (d : ℕ) → d < old.rank.ranks → IsStuck new d

-- A turn: the rank takes what came, and then what waits goes out. It is told whether anything moved.
pub record IsTurn (old new : ProcessView) (moved : Bool) : Type 0 where
  pub between : ProcessView
  pub took : Bool
  pub went : Bool
  pub takes : Takes old between took
  pub pushes : Pushes between new went
  pub told : moved ≡ (took || went)
