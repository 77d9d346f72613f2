-- What happens to a world happens to it on rings too.
use Rattle.std.proofs.Common.{ℕ, ◌≤◌, List, [], ◌∷◌, refl, ap, subst, arith, inl, inr}
use Rattle.ulfm_world.proofs.Common.{WorldRank, Item, Event, Call, Push, Take, TakeFrom, Decide, Leave, Skip, Room, PerInbox, PerPair, places, HasRoom, World, start_world, Happens, Takes, Applied, Run, IsWorld}
use Rattle.ulfm_world.specs.Rings.{on_rings, AreOnRings, HappensOnRings, IsRunOnRings}
use Rattle.ulfm_world.proofs.KeepsCalls.{posted-taken}
use Rattle.ulfm_world.proofs.Runs.{keeps-applied}
use Rattle.ulfm_world.proofs.Senders.{from_few}
use Rattle.ulfm_world.proofs.Starts.{world-start}

-- where all senders together have a place, each of them has one of its own
room-rings : (room : Room) (s : ℕ) (items : List (WorldRank × Item)) → HasRoom room s items → HasRoom (PerPair (places room)) s items
room-rings (PerInbox n) s items h = omega (arith, from_few s items, h)
room-rings (PerPair n) s items h = h

takes-rings : (w : World) (r : ℕ) (passed : List (WorldRank × Item)) {w' : World} → Takes w r passed w' → Takes (on_rings w) r passed (on_rings w')
takes-rings w r passed t = record {
  inside = t.inside;
  running = t.running;
  source = t.source;
  item = t.item;
  rest = t.rest;
  found = t.found;
  of_others = t.of_others;
  only = ap on_rings t.only;
}

pub rings-happens : (w : World) (event : Event) (w' : World) → IsWorld w → Happens w event w' → HappensOnRings w event w'
unfolding takes-rings
rings-happens w (Call r asked) w' h k = record { same = Call r asked; is_same = refl; happens = (k.0, k.1, ap on_rings k.2) }
rings-happens w (Push s d) w' h k = record {
  same = Push s d;
  is_same = refl;
  happens = record {
    inside_s = k.inside_s;
    inside_d = k.inside_d;
    room = room-rings w.room s _ k.room;
    sender = k.sender;
    is_sender = k.is_sender;
    item = k.item;
    after = k.after;
    leaves = k.leaves;
    only = ap on_rings k.only;
  };
}
rings-happens w (Take r) w' h k = record {
  same = TakeFrom r k.source.number;
  is_same = (k.source.number, refl);
  happens = record { inside_s = (posted-taken w r [] h k).0; passed = []; takes = takes-rings w r [] k; is_source = refl };
}
rings-happens w (TakeFrom r s) w' h k = record {
  same = TakeFrom r s;
  is_same = refl;
  happens = record { inside_s = k.inside_s; passed = k.passed; takes = takes-rings w r k.passed k.takes; is_source = k.is_source };
}
rings-happens w (Decide r comm) w' h k = record { same = Decide r comm; is_same = refl; happens = (k.0, k.1, k.2, ap on_rings k.3) }
rings-happens w (Leave r) w' h k = record { same = Leave r; is_same = refl; happens = (k.0, k.1, ap on_rings k.2) }
rings-happens w (Skip r asked) w' h k = record { same = Skip r asked; is_same = refl; happens = (k.0, k.1, ap on_rings k.2) }

-- a schedule of rings for these events, from any world
abbrev OnRings : World → List Event → World → Type 0
OnRings w events v = (later : List Event) × AreOnRings events later × Run (on_rings w) later (on_rings v)

-- one event, and then the others
next : (w : World) (event : Event) (events : List Event) (m v : World) → IsWorld w → Applied w event m → OnRings m events v → OnRings w (event ∷ events) v
next w event events m v h (inl k) rest =
    let x = rings-happens w event m h k in
    (x.same ∷ rest.0, inr (x.same, rest.0, x.is_same, refl, rest.1), (on_rings m, inl x.happens, rest.2))
next w event events m v h (inr e) rest = (rest.0, inl rest.1, subst (λ (x : World). Run (on_rings x) rest.0 (on_rings v)) e.2 rest.2)

rings-from : (events : List Event) {w : World} (v : World) → IsWorld w → Run w events v → OnRings w events v
rings-from [] v h k = ([], refl, ap on_rings k)
rings-from (event ∷ events) {w} v h k = next w event events k.0 v h k.1 (rings-from events v (keeps-applied event h k.1) k.2)

-- each schedule of ranks that start
pub rings-run : (n capacity : ℕ) (events : List Event) (w : World) → n ≤ 8 → Run (start_world n (PerInbox capacity)) events w → IsRunOnRings n capacity events w
rings-run n capacity events w small k =
    let x = rings-from events w (world-start n (PerInbox capacity) small) k in record { schedule = x.0; are_same = x.1; run = x.2 }
