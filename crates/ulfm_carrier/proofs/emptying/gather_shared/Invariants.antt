use Rattle.std.proofs.Common.{◌≡◌, ◌≤◌, ℕ, length, vec_capacity}
use Rattle.ulfm_carrier.proofs.Common.{AreOpenFrom, at, Global, Item, Keeps, shared_name, shared_pushed, shared_taken, Vec, WorldRank}
use Rattle.ulfm_carrier.proofs.Settling.{Flows, NoOthers}
use Rattle.ulfm_carrier.proofs.emptying.gather_shared.Given as goal

abbrev pub invariant-loop-place : goal.invariant-loop-place
invariant-loop-place g l = record {
  same : Keeps shared_name shared_pushed shared_taken l.fn.ends.items l.ends.items;
  still_open : AreOpenFrom l.place l.ends.items;
  many : length l.inboxes.items ≡ l.place;
  room : length l.fn.ends.items ≤ vec_capacity l.inboxes;
  flows : (d : ℕ) (inbox : Vec (WorldRank × Item) Global) → at l.inboxes.items d inbox → Flows shared_name shared_pushed shared_taken l.fn.ends.items d inbox;
  no_others : (d : ℕ) (inbox : Vec (WorldRank × Item) Global) → at l.inboxes.items d inbox → NoOthers l.fn.ends.items d inbox;
}
