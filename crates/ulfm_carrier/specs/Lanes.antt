-- What contracts see of the ends of rings.
use Rattle.std.specs.Prelude.{◌≡◌, ◌≢◌, ◌<◌, ◌≤◌, ◌+◌, ◌%◌, ℕ, List, [], ◌∷◌, ◌++◌, length, map, sum, vec_len, vec_capacity, slice_index_or, slice_get, ⊤, Option, None, Result, MatchOption, MatchResult, IfNone, IfSome, IsOk, OnOk, OnErr}
use Rattle.std.specs.declared.alloc.Global.{Global}
use Rattle.rtrb.specs.declared.AnyItems.{AnyItems}
use Rattle.rtrb.specs.declared.producer.Producer.{Producer}
use Rattle.rtrb.specs.declared.consumer.Consumer.{Consumer}
use Rattle.rtrb.specs.Ring.{sent, received, known_free, known_items, consumer_capacity}
use Rattle.ulfm_base.specs.declared.rank.WorldRank.{WorldRank}
use Rattle.ulfm_base.specs.declared.item.Item.{Item}
use Rattle.ulfm_carrier.specs.declared.carried.Carried.{Carried}
use Rattle.ulfm_carrier.specs.declared.inlet.Inlet.{Inlet}
use Rattle.ulfm_carrier.specs.declared.lane_ends.RingName.{RingName}
use Rattle.ulfm_carrier.specs.declared.lane_ends.LaneName.{LaneName}
use Rattle.ulfm_carrier.specs.declared.lane_ends.LaneEnds.{LaneEnds}
use Rattle.ulfm_carrier.specs.Carried.{item_from}
use Rattle.ulfm_carrier.specs.Head.{head_in}
use Rattle.ulfm_carrier.specs.declared.head.Head.{Head}
use Rattle.ulfm_carrier.specs.Family.{shown}
use Rattle.ulfm_base.specs.Items.{ComesFrom}
use Rattle.ulfm_base.specs.Lists.{at}

-- the sender's end of a ring
abbrev pub Outlet : Type 0
Outlet = Producer Carried Global AnyItems

-- the receiver's end of a ring
abbrev pub Reader : Type 0
Reader = Consumer Carried Global AnyItems

-- the name of the ring that a sender's end is of
abbrev pub outlet_name : Outlet → RingName
outlet_name p = record { words = p.end.words; slots = p.end.slots; names = p.end.names; heap = p.end.heap }

-- the name of the ring that a receiver's end is of
abbrev pub reader_name : Reader → RingName
reader_name c = record { words = c.end.words; slots = c.end.slots; names = c.end.names; heap = c.end.heap }

-- the name of the ring that a receiver reads from a rank
abbrev pub inlet_name : Inlet → RingName
inlet_name i = reader_name i.ring

-- what a rank pushed into a ring
abbrev pub pushed_into : WorldRank → Outlet → List Item
pushed_into me outlet = map (item_from me) (sent outlet)

-- what was popped from a ring
abbrev pub taken_by : Inlet → List Item
taken_by i = map (item_from i.source) (shown i.gathered (received i.ring))

-- how many items the ring has room for
abbrev pub inlet_capacity : Inlet → ℕ
inlet_capacity i = consumer_capacity i.ring

-- what the end has seen in a ring and not taken
abbrev pub seen_in : Inlet → List Carried
seen_in i = known_items i.ring

-- the end's number, and its rings
abbrev pub lane_name : LaneEnds → LaneName
lane_name e = record { place = e.me.number; outs = map outlet_name e.outs.items; ins = map inlet_name e.ins.items }

-- what was pushed to the rank d
abbrev pub lane_pushed : LaneEnds → ℕ → List Item
lane_pushed e d = slice_index_or (map (pushed_into e.me) e.outs.items) d []

-- what was taken from the rank s
abbrev pub lane_taken : LaneEnds → ℕ → List Item
lane_taken e s = slice_index_or (map taken_by e.ins.items) s []

-- what the end has seen in the ring from the rank s and not taken
abbrev pub seen_from : LaneEnds → ℕ → List Carried
seen_from e s = slice_index_or (map seen_in e.ins.items) s []

-- what is told of these items
abbrev pub heads_from : LaneEnds → ℕ → List Head
heads_from e s = map head_in (seen_from e s)

-- how many places the end knows to be free in the ring to the rank d
abbrev pub known_room : LaneEnds → ℕ → ℕ
known_room e d = slice_index_or (map known_free e.outs.items) d 0

-- the ring from the rank k, not gathered yet
abbrev pub IsOpenRing : ℕ → Inlet → Type 0
IsOpenRing k i = (i.source.number ≡ k) × (i.gathered ≡ None)

-- an end with its rings to and from each rank, and with room for all that its inbox can hold
pub record HasRings (e : LaneEnds) : Type 0 where
  pub square : length e.ins.items ≡ length e.outs.items
  pub inside : e.me.number < length e.outs.items
  pub few : length e.outs.items ≤ 8
  pub live : (k : ℕ) (i : Inlet) → at e.ins.items k i → IsOpenRing k i
  pub empty : e.left.items ≡ []
  pub room : sum (map inlet_capacity e.ins.items) ≤ vec_capacity e.left

-- An end with its rings, and with room for a list of inboxes. The ring from the rank to itself is one ring at both ends.
pub record IsReady (e : LaneEnds) : Type 0 where
  pub rings : HasRings e
  pub own_ring : slice_get (map outlet_name e.outs.items) e.me.number ≡ slice_get (map inlet_name e.ins.items) e.me.number
  pub no_inbox : e.inboxes.items ≡ []
  pub inbox_for_each : length e.outs.items ≤ vec_capacity e.inboxes

-- the rank that is looked at after j others by the next pop: they come upwards and round
abbrev pub in_turn : LaneEnds → ℕ → ℕ
in_turn e j = (e.next + j) % length e.ins.items

-- A pop found an item from this rank. It saw nothing in the rings of the ranks before it in turn, and the next pop
-- begins at the one after it.
pub record IsFoundInTurn (before after : LaneEnds) (found : ℕ) : Type 0 where
  pub passed : ℕ
  pub turn : found ≡ in_turn before passed
  pub nothing_seen : (j : ℕ) → j < passed → seen_from after (in_turn before j) ≡ []
  pub next : after.next ≡ found + 1

-- An item is pushed to the rank dest, or comes back: it is if the end knows of a free place there. No other ring changes, and nothing is taken.
pub record IsPush (before after : LaneEnds) (dest : ℕ) (item : Item) (answer : Result ⊤ Item) : Type 0 where
  pub name : (lane_name after ≡ lane_name before) × (after.me ≡ before.me) × (vec_len after.outs ≡ vec_len before.outs) × IsReady after
  pub taken : (p : ℕ) → lane_taken after p ≡ lane_taken before p
  pub others : (p : ℕ) → p ≢ dest → lane_pushed after p ≡ lane_pushed before p
  pub pushed : MatchResult answer (λ _. lane_pushed after dest ≡ lane_pushed before dest ++ item ∷ []) (λ back. (back ≡ item) × (lane_pushed after dest ≡ lane_pushed before dest))
  pub full : OnErr answer (known_room after dest ≡ 0)
  pub succeeds : 0 < known_room before dest → IsOk answer
  pub one_place : OnOk answer (known_room before dest ≤ known_room after dest + 1)
  pub other_rooms : (p : ℕ) → p ≢ dest → known_room after p ≡ known_room before p
  pub inbox : (after.ins ≡ before.ins) × (after.next ≡ before.next)

-- An item is taken out of the ring of the first rank in turn in which one is found, or none is found, and all was taken that the rank pushed to itself.
-- Nothing is pushed.
pub record IsPop (before after : LaneEnds) (answer : Option (WorldRank × Item)) : Type 0 where
  pub name : (lane_name after ≡ lane_name before) × (after.me ≡ before.me) × (vec_len after.outs ≡ vec_len before.outs) × IsReady after
  pub pushed : (p : ℕ) → lane_pushed after p ≡ lane_pushed before p
  pub sender : IfSome answer (λ found. (found.0.number < vec_len before.outs) × ComesFrom found.0.number found.1)
  pub taken : MatchOption answer ((p : ℕ) → lane_taken after p ≡ lane_taken before p)
      (λ found. (lane_taken after found.0.number ≡ lane_taken before found.0.number ++ found.1 ∷ []) × ((p : ℕ) → p ≢ found.0.number → lane_taken after p ≡ lane_taken before p))
  pub nothing_seen : IfNone answer ((p : ℕ) → seen_from after p ≡ [])
  pub own : IfNone answer (lane_pushed after before.me.number ≡ lane_taken after before.me.number)
  pub in_turn : IfSome answer (λ found. IsFoundInTurn before after found.0.number)
  pub same_turn : IfNone answer (after.next ≡ before.next)
  pub rooms : (p : ℕ) → known_room before p ≤ known_room after p
  pub other_rooms : (p : ℕ) → p ≢ before.me.number → known_room after p ≡ known_room before p

-- These are all ends of one call, by their places: the ring from i to j is one ring at both.
pub record OneCall (names : List LaneName) : Type 0 where
  pub some : 0 < length names
  pub placed : (i : ℕ) (x : LaneName) → at names i x → x.place ≡ i
  pub outs : (i : ℕ) (x : LaneName) → at names i x → length x.outs ≡ length names
  pub ins : (i : ℕ) (x : LaneName) → at names i x → length x.ins ≡ length names
  pub joined : (i j : ℕ) (x y : LaneName) → at names i x → at names j y → slice_get x.outs j ≡ slice_get y.ins i
