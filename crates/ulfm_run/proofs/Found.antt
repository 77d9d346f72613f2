-- Logs that were walked to their ends have one order, in which stops have their room.
use Rattle.std.proofs.Common.{ℕ, List, Option, Some, None, IfSome, arith}
use Rattle.ulfm_log.specs.declared.entry.Entry.TheVariants.{Adopted, Stopped, Took}
use Rattle.ulfm_run.proofs.Common.{Report, slice_get_within}
use Rattle.ulfm_report_laws.specs.Order.{HaveOneOrder}
use Rattle.ulfm_report_laws.specs.Room.{StopsHaveRoom}
use Rattle.ulfm_run.specs.inside.Walk.{IsWalked, HaveOrder, AreAtEnds}

-- what was walked to its end has one order
ordered : (room : Option ℕ) (reports : List Report) (fronts : List ℕ) → IsWalked room reports fronts → AreAtEnds reports fronts → HaveOneOrder reports
ordered room reports fronts w ends = record {
  time = w.time;
  onward = λ r k told here lt. w.onward r k (omega (arith, lt, ends r told here));
  owed_earlier = λ d k receiver source item here stands.
      (w.owed d k receiver source item here (omega (arith, slice_get_within receiver.rank.log k (Took source item) stands, ends d receiver here)) stands).owed;
  proposed_earlier = λ r k told d here stands. (w.proposed r k told d here (omega (arith, slice_get_within told.rank.log k (Adopted d) stands, ends r told here)) stands).proposed;
}

-- and their stops have room, if it is looked at
found_room : (room : Option ℕ) (reports : List Report) (fronts : List ℕ) (w : IsWalked room reports fronts) → AreAtEnds reports fronts → IfSome room (StopsHaveRoom reports w.time)
found_room None reports fronts w ends = tt
found_room (Some capacity) reports fronts w ends = λ s k d sender receiver here stands there.
    (w.stops s k sender here (omega (arith, slice_get_within sender.rank.log k Stopped stands, ends s sender here)) stands d receiver there).room

-- both
pub found : (room : Option ℕ) (reports : List Report) (fronts : List ℕ) → IsWalked room reports fronts → AreAtEnds reports fronts → HaveOrder room reports
unfolding ordered
found room reports fronts w ends = (ordered room reports fronts w ends, found_room room reports fronts w ends)
