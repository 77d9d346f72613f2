-- The names that most proofs of carriers cite, passed on from one place. Declares nothing.
pub use Rattle.std.proofs.Math.Seq.{map-set_same}
pub use Rattle.std.proofs.lemmas.Bool.{cases_eq, cases_lt}
pub use Rattle.std.proofs.lemmas.List.{length-map, length-set, length_push, map-append, nil_from_length}
pub use Rattle.std.proofs.lemmas.Option.{slice_get_within}
pub use Rattle.std.proofs.lemmas.Simd.{map-map}
pub use Rattle.std.specs.Arc.{arc_value}
pub use Rattle.std.specs.declared.alloc.Global.{Global}
pub use Rattle.std.specs.declared.vec.Vec.{Vec}
pub use Rattle.crossbeam_queue.proofs.Lists.{at_set}
pub use Rattle.crossbeam_queue.specs.Passes.{IsPassOf, IsSamePass, ruled_capacity, view}
pub use Rattle.rtrb.specs.Ring.{known_free, known_items, sent}
pub use Rattle.ulfm_base.proofs.Numbers.{same_rank}
pub use Rattle.ulfm_base.proofs.Places.{at_view, only_at, there}
pub use Rattle.ulfm_base.specs.Items.{ComesFrom, items_from}
pub use Rattle.ulfm_base.specs.Lists.{at}
pub use Rattle.ulfm_base.specs.declared.item.Item.{Item}
pub use Rattle.ulfm_base.specs.declared.rank.WorldRank.{WorldRank}
pub use Rattle.ulfm_carrier.specs.Carried.{item_from}
pub use Rattle.ulfm_carrier.specs.Family.{AllFresh, Keeps, shown}
pub use Rattle.ulfm_carrier.specs.Inbox.{InboxPass, InboxRule, KnowsTruly, ReceiptsAreTakenAndHeld, Receives, Signed, spent}
pub use Rattle.ulfm_carrier.specs.Lanes.{HasRings, inlet_capacity, inlet_name, IsOpenRing, lane_name, lane_pushed, lane_taken, Outlet, outlet_name, pushed_into, seen_from, seen_in, taken_by}
pub use Rattle.ulfm_carrier.specs.Shared.{IsReady, OneCall, pass_name, pushed_with, shared_name, shared_pushed, shared_taken, HasPasses, IsReceiver, MayReceive, MaySend, OwnIsTakenAndHeldAt, inbox_capacity}
pub use Rattle.ulfm_carrier.specs.declared.carried.Carried.{Carried}
pub use Rattle.ulfm_carrier.specs.declared.inbox.PassView.{PassView}
pub use Rattle.ulfm_carrier.specs.declared.inlet.Inlet.{Inlet}
pub use Rattle.ulfm_carrier.specs.declared.lane_ends.LaneEnds.{LaneEnds}
pub use Rattle.ulfm_carrier.specs.declared.lane_ends.RingName.{RingName}
pub use Rattle.ulfm_carrier.specs.declared.shared_ends.SharedEnds.{SharedEnds}
pub use Rattle.ulfm_carrier.specs.inside.Emptying.{AllBelow, AreOpenFrom, HasAllReceipts, IsOpenFrom}
pub use Rattle.ulfm_carrier.specs.inside.SharedWiring.{AreInboxes, AreInlets, AreNextOuts, Queue, AreMade, AreOpenInlets, AreOuts, AreRows, HaveMadeOneMore, IsMade, receiver_of}
pub use Rattle.ulfm_carrier.specs.inside.Tagged.{signed, with_sender}
pub use Rattle.ulfm_carrier.specs.inside.Wiring.{AreWired, IsWired}
pub use Rattle.crossbeam_queue.specs.Fifo.{Forks, Held, Learns, Merges, Pops, Pushes}
pub use Rattle.ulfm_carrier.specs.declared.lane_ends.LaneName.{LaneName}
pub use Rattle.ulfm_carrier.specs.inside.Passes.{TakesOne, after_all, after_push, after_receipt, after_take, in_role, one_more, owner, returned, sender}
