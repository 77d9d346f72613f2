-- A walk over all logs at once, by how far each of them was walked.
use Rattle.std.specs.Prelude.{◌≡◌, ⊤, ℕ, ◌+◌, ◌-◌, ◌<◌, ◌≤◌, List, [], ◌∷◌, length, take, Option, IfSome, slice_index, slice_set}
use Rattle.ulfm_base.specs.declared.decision.Decision.{Decision}
use Rattle.ulfm_base.specs.declared.item.Item.{Item}
use Rattle.ulfm_base.specs.declared.rank.WorldRank.{WorldRank}
use Rattle.ulfm_base.specs.Lists.{at}
use Rattle.ulfm_log.specs.declared.entry.Entry.{Entry}
use Rattle.ulfm_log.specs.declared.entry.Entry.TheVariants.{Adopted, Stopped, Took}
use Rattle.ulfm_answer.specs.Report.{Report}
use Rattle.ulfm_report_laws.specs.Order.{Owe, IsOwedEarlier, HaveOneOrder}
use Rattle.ulfm_report_laws.specs.Proposed.{IsProposedEarlier}
use Rattle.ulfm_report_laws.specs.Room.{taken_behind, HasRoomFor, StopsHaveRoom}
use Rattle.ulfm_run.specs.inside.Listed.{IsProposedByRank}

-- the entries that were walked of the rank s owe this item to the rank d, whose log was `before`
pub record IsOwedByWalked (reports : List Report) (fronts : List ℕ) (s d : ℕ) (before : List Entry) (item : Item) : Type 0 where
  pub sender : Report
  pub reported : at reports s sender
  pub owed : Owe s d (take (slice_index fronts s) sender.rank.log) before item

-- some rank proposed a decision at a place up to which it was walked
abbrev pub IsProposedByWalked : List Report → List ℕ → Decision → Type 0
IsProposedByWalked reports fronts d = (rank : ℕ) × IsProposedByRank reports fronts rank d

-- of what each rank takes of the rank s no more than so much wasn't walked
abbrev pub HasRoomNow : List Report → List ℕ → ℕ → ℕ → Type 0
HasRoomNow reports fronts s capacity = (d : ℕ) (receiver : Report) → at reports d receiver → taken_behind s (slice_index fronts d) receiver.rank.log ≤ capacity

-- an entry takes an item that is owed, adopts a decision that was proposed, stops where there is room, if room is looked at, or does
-- none of these
abbrev pub MayPass : Option ℕ → List Report → List ℕ → ℕ → List Entry → Entry → Type 0
MayPass room reports fronts d before (Took source item) = IsOwedByWalked reports fronts source.number d before item
MayPass room reports fronts d before (Adopted decision) = IsProposedByWalked reports fronts decision
MayPass room reports fronts d before Stopped = IfSome room (HasRoomNow reports fronts d)
MayPass room reports fronts d before _ = ⊤

-- the rank d can go on: it has a next entry, which may be passed
pub record GoesOn (room : Option ℕ) (reports : List Report) (fronts : List ℕ) (d : ℕ) : Type 0 where
  pub told : Report
  pub reported : at reports d told
  pub entry : Entry
  pub next : at told.rank.log (slice_index fronts d) entry
  pub passes : MayPass room reports fronts d (take (slice_index fronts d) told.rank.log) entry

-- the rank d went on by one entry
pub record StepsOn (room : Option ℕ) (reports : List Report) (old : List ℕ) (d : ℕ) (new : List ℕ) : Type 0 where
  pub goes : GoesOn room reports old d
  pub moved : new ≡ slice_set old d (slice_index old d + 1)

-- an item that was taken is owed earlier, by entries that were walked
pub record IsOwedWithin (reports : List Report) (fronts : List ℕ) (time : ℕ → ℕ → ℕ) (s d k : ℕ) (before : List Entry) (item : Item) : Type 0 where
  pub owed : IsOwedEarlier reports time s d k before item
  pub within : owed.count ≤ slice_index fronts s

-- a decision was proposed before this time, at a place up to which a rank was walked
pub record IsProposedWithin (reports : List Report) (fronts : List ℕ) (time : ℕ → ℕ → ℕ) (now : ℕ) (d : Decision) : Type 0 where
  pub proposed : IsProposedEarlier reports time now d
  pub walked : proposed.place ≤ slice_index fronts proposed.rank

-- a stop had room for what the rank d takes later, by entries that were walked
pub record HasRoomWithin (fronts : List ℕ) (time : ℕ → ℕ → ℕ) (s k d : ℕ) (log : List Entry) (capacity : ℕ) : Type 0 where
  pub room : HasRoomFor time capacity s k d log
  pub within : room.count ≤ slice_index fronts d

-- a stop had room for what each rank takes later
abbrev pub StopHasRoom : List Report → List ℕ → (ℕ → ℕ → ℕ) → ℕ → ℕ → ℕ → Type 0
StopHasRoom reports fronts time s k capacity = (d : ℕ) (receiver : Report) → at reports d receiver → HasRoomWithin fronts time s k d receiver.rank.log capacity

-- what was walked has one order, and all of it comes before `now`; each stop had its room, if room is looked at
pub record IsWalked (room : Option ℕ) (reports : List Report) (fronts : List ℕ) : Type 0 where
  pub sized : length fronts ≡ 8
  pub time : ℕ → ℕ → ℕ
  pub now : ℕ
  pub past : (r k : ℕ) → k < slice_index fronts r → time r k < now
  pub onward : (r k : ℕ) → k + 1 < slice_index fronts r → time r k < time r (k + 1)
  pub owed : (d k : ℕ) (receiver : Report) (source : WorldRank) (item : Item) → at reports d receiver
      → k < slice_index fronts d → at receiver.rank.log k (Took source item)
      → IsOwedWithin reports fronts time source.number d k (take k receiver.rank.log) item
  pub proposed : (r k : ℕ) (told : Report) (d : Decision) → at reports r told → k < slice_index fronts r → at told.rank.log k (Adopted d)
      → IsProposedWithin reports fronts time (time r k) d
  pub stops : (s k : ℕ) (sender : Report) → at reports s sender → k < slice_index fronts s → at sender.rank.log k Stopped
      → IfSome room (StopHasRoom reports fronts time s k)

-- all logs have one order, in which each stop has its room, if room is looked at
abbrev pub HaveOrder : Option ℕ → List Report → Type 0
HaveOrder room reports = (order : HaveOneOrder reports) × IfSome room (StopsHaveRoom reports order.time)

-- all logs were walked to their ends
abbrev pub AreAtEnds : List Report → List ℕ → Type 0
AreAtEnds reports fronts = (r : ℕ) (told : Report) → at reports r told → length told.rank.log ≤ slice_index fronts r

-- how many entries weren't walked yet
abbrev pub entries_left : List Report → List ℕ → ℕ
entries_left [] fronts = 0
entries_left (told ∷ reports) [] = 0
entries_left (told ∷ reports) (front ∷ fronts) = length told.rank.log - front + entries_left reports fronts
