-- Where there is an order, a walk that is stuck has come to its end.
use Rattle.std.proofs.Common.{◌<◌, ◌+◌, ℕ, zero, suc, List, length, take, slice_index, Option, IfSome, inl, inr, arith}
use Rattle.std.proofs.lemmas.Option.{IfSome_then}
use Rattle.ulfm_log.specs.declared.entry.Entry.TheVariants.{Adopted, Stopped, Took}
use Rattle.ulfm_base.specs.declared.decision.Decision.{Decision}
use Rattle.ulfm_run.proofs.Common.{at, there, Entry, Item, Report, WorldRank, cases_lt}
use Rattle.ulfm_report_laws.proofs.Owes.{owe_later, owe_whole}
use Rattle.ulfm_report_laws.specs.Order.{Owe, IsOwedEarlier, HaveOneOrder}
use Rattle.ulfm_report_laws.specs.Proposed.{IsProposedEarlier}
use Rattle.ulfm_run.proofs.Behind.{fewer_behind, none_behind}
use Rattle.ulfm_run.proofs.Placed.{by_place}
use Rattle.ulfm_report_laws.specs.Room.{StopsHaveRoom}
use Rattle.ulfm_run.specs.inside.Walk.{GoesOn, HasRoomNow, AreAtEnds}

module _ {room : Option ℕ} {reports : List Report} (o : HaveOneOrder reports) (rooms : IfSome room (StopsHaveRoom reports o.time)) (fronts : List ℕ) (stuck : (d : ℕ) → GoesOn room reports fronts d → ⊥) where
  -- no entry that wasn't walked comes before the time t
  abbrev NoneBefore : ℕ → Type 0
  NoneBefore t = (d : ℕ) (told : Report) → at reports d told → slice_index fronts d < length told.rank.log → o.time d (slice_index fronts d) < t → ⊥

  taken : (t d : ℕ) (told : Report) → at reports d told → o.time d (slice_index fronts d) < suc t → NoneBefore t → (source : WorldRank) (item : Item)
      → at told.rank.log (slice_index fronts d) (Took source item)
      → IsOwedEarlier reports o.time source.number d (slice_index fronts d) (take (slice_index fronts d) told.rank.log) item → ⊥
  taken t d told here early none source item stands h =
      let s = source.number in let log = take (slice_index fronts d) told.rank.log in
      let goes : Owe s d (take (slice_index fronts s) h.sender.rank.log) log item → ⊥ = λ owed.
      stuck d (record { told = told; reported = here; entry = Took source item; next = stands; passes = record { sender = h.sender; reported = h.reported; owed = owed } }) in
      elim (cases_lt (slice_index fronts s) h.count) [
        | inl short ↦ elim (cases_lt (slice_index fronts s) (length h.sender.rank.log)) [
          | inl left ↦ none s h.sender h.reported left (omega (arith, h.earlier (slice_index fronts s) short, early))
          | inr all ↦ goes (owe_whole s d h.count (slice_index fronts s) h.sender.rank.log log item all h.owed)
        ]
        | inr enough ↦ goes (owe_later s d h.count (slice_index fronts s) h.sender.rank.log log item enough h.owed)
      ]

  adopted : (t d : ℕ) (told : Report) → at reports d told → o.time d (slice_index fronts d) < suc t → NoneBefore t → (decision : Decision)
      → at told.rank.log (slice_index fronts d) (Adopted decision)
      → IsProposedEarlier reports o.time (o.time d (slice_index fronts d)) decision → ⊥
  adopted t d told here early none decision stands h = elim (cases_lt (slice_index fronts h.rank) h.place) [
    | inl short ↦
        none h.rank h.told h.reported (omega (arith, short, h.made.within)) (omega (arith, h.earlier (slice_index fronts h.rank) short, early))
    | inr enough ↦
        stuck d (record { told = told; reported = here; entry = Adopted decision; next = stands; passes = by_place reports fronts decision (record { rank = h.rank; told = h.told; reported = h.reported; place = h.place; walked = omega (arith, enough); made = h.made }) })
  ]

  -- where a stop has room in the order, it has room by what was walked
  room_walked : (t d : ℕ) (told : Report) → at reports d told → o.time d (slice_index fronts d) < suc t → NoneBefore t
      → at told.rank.log (slice_index fronts d) Stopped → (capacity : ℕ) → StopsHaveRoom reports o.time capacity → HasRoomNow reports fronts d capacity
  room_walked t d told here early none stands capacity all_rooms e receiver reported =
      let h = all_rooms d (slice_index fronts d) e told receiver here stands reported in elim (cases_lt (slice_index fronts e) h.count) [
        | inl short ↦ elim (cases_lt (slice_index fronts e) (length receiver.rank.log)) [
          | inl left ↦ absurd (none e receiver reported left (omega (arith, h.earlier (slice_index fronts e) short, early)))
          | inr all ↦ omega (arith, none_behind d (slice_index fronts e) receiver.rank.log all)
        ]
        | inr enough ↦ omega (arith, h.few, fewer_behind d h.count (slice_index fronts e) receiver.rank.log enough)
      ]

  stopped : (t d : ℕ) (told : Report) → at reports d told → o.time d (slice_index fronts d) < suc t → NoneBefore t → at told.rank.log (slice_index fronts d) Stopped → ⊥
  stopped t d told here early none stands =
      stuck d (record { told = told; reported = here; entry = Stopped; next = stands; passes = IfSome_then room rooms (room_walked t d told here early none stands) })

  blocked : (t d : ℕ) (told : Report) → at reports d told → o.time d (slice_index fronts d) < suc t → NoneBefore t → (entry : Entry) → at told.rank.log (slice_index fronts d) entry → ⊥
  blocked t d told here early none (Took source item) stands = taken t d told here early none source item stands (o.owed_earlier d (slice_index fronts d) told source item here stands)
  blocked t d told here early none (Adopted decision) stands = adopted t d told here early none decision stands (o.proposed_earlier d (slice_index fronts d) told decision here stands)
  blocked t d told here early none Stopped stands = stopped t d told here early none stands
  blocked t d told here early none entry stands = stuck d (record { told = told; reported = here; entry = entry; next = stands; passes = tt })

  none_before : (t : ℕ) → NoneBefore t
  none_before zero d told here lt early = absurd (omega (arith, early))
  none_before (suc t) d told here lt early =
      let next = there told.rank.log (slice_index fronts d) lt in
      blocked t d told here early (none_before t) next.0 next.1

  -- where there is an order, a walk that is stuck has come to its end
  pub all_walked : AreAtEnds reports fronts
  all_walked d told here = elim (cases_lt (slice_index fronts d) (length told.rank.log)) [
    | inl left ↦ absurd (none_before (o.time d (slice_index fronts d) + 1) d told here left (omega arith))
    | inr all ↦ all
  ]
