-- What contracts see of the ends of shared inboxes.
use Rattle.std.specs.Prelude.{◌≡◌, ◌<◌, ◌≤◌, ℕ, List, [], ◌++◌, length, map, vec_capacity, None, slice_index_or}
use Rattle.std.specs.Arc.{arc_value}
use Rattle.crossbeam_queue.specs.Passes.{view, IsPassOf, ruled_capacity}
use Rattle.crossbeam_queue.specs.Ring.{idle}
use Rattle.ulfm_base.specs.declared.item.Item.{Item}
use Rattle.ulfm_carrier.specs.declared.shared_ends.SharedName.{SharedName}
use Rattle.ulfm_carrier.specs.declared.shared_ends.SharedEnds.{SharedEnds}
use Rattle.ulfm_base.specs.Items.{items_from}
use Rattle.ulfm_base.specs.Lists.{at}
use Rattle.ulfm_carrier.specs.Family.{shown}
use Rattle.ulfm_carrier.specs.Inbox.{Signed, InboxPass, spent}
use Rattle.ulfm_carrier.specs.declared.inbox.Role.TheVariants as role

-- a pass without what it knows
abbrev pub pass_name : InboxPass → InboxPass
pass_name p = record p { me = (idle spent, []) }

-- the end's number, and its passes
abbrev pub shared_name : SharedEnds → SharedName
shared_name e = record { place = e.me.number; outs = map pass_name e.outs.items; inlet = pass_name e.inlet }

-- what was pushed with a pass
abbrev pub pushed_with : InboxPass → List Item
pushed_with p = (view p).pushed

-- what was pushed to the rank d
abbrev pub shared_pushed : SharedEnds → ℕ → List Item
shared_pushed e d = slice_index_or (map pushed_with e.outs.items) d []

-- what was taken from the rank s
abbrev pub shared_taken : SharedEnds → ℕ → List Item
shared_taken e s = items_from s (shown e.gathered (view e.inlet).taken)

-- how many items the inbox of the rank d can hold
abbrev pub inbox_capacity : SharedEnds → ℕ → ℕ
inbox_capacity e d = slice_index_or (map (λ inbox. ruled_capacity inbox) (arc_value e.inboxes).items) d 0

-- What this end pushed to itself is what it took of itself and then what is held of it, where its inbox holds these.
-- Nothing was taken or is held of others than the ranks of its call.
pub record OwnIsTakenAndHeldAt (e : SharedEnds) (held : List Signed) : Type 0 where
  pub own : shared_pushed e e.me.number ≡ shared_taken e e.me.number ++ items_from e.me.number held
  pub no_others : (p : ℕ) → length e.outs.items ≤ p → shared_taken e p ++ items_from p held ≡ []

-- an end with a pass for each inbox, of at most 8
pub record HasPasses (e : SharedEnds) : Type 0 where
  pub inside : e.me.number < length e.outs.items
  pub few : length e.outs.items ≤ 8
  pub inbox_for_each : length (arc_value e.inboxes).items ≡ length e.outs.items

-- the end's pass for the inbox d is that of its sender
abbrev pub MaySend : SharedEnds → ℕ → Type 0
MaySend e d =
    (inbox : _) (out : InboxPass) → at (arc_value e.inboxes).items d inbox → at e.outs.items d out → IsPassOf inbox out × ((view out).role ≡ role.Sender) × ((view out).from ≡ e.me.number)

-- The end receives from its own inbox, to which as many senders go as it has passes, and has room for all that it can
-- hold. It wasn't gathered yet.
pub record IsReceiver (e : SharedEnds) : Type 0 where
  pub own : (inbox : _) → at (arc_value e.inboxes).items e.me.number inbox → IsPassOf inbox e.inlet × (ruled_capacity inbox ≤ vec_capacity e.left)
  pub receives : (view e.inlet).role ≡ role.Receiver
  pub made : (view e.inlet).made ≡ length e.outs.items
  pub live : e.gathered ≡ None
  pub empty : e.left.items ≡ []

-- an end that may receive: it holds the receiver, and no sender has closed
pub record MayReceive (e : SharedEnds) : Type 0 where
  pub receiver : IsReceiver e
  pub receipts : (view e.inlet).receipts ≡ []

-- an end that wasn't gathered yet, with room for a list of lists
pub record IsReady (e : SharedEnds) : Type 0 where
  pub passes : HasPasses e
  pub senders : (d : ℕ) → MaySend e d
  pub receiver : MayReceive e
  pub no_list : e.lists.items ≡ []
  pub list_for_each : length e.outs.items ≤ vec_capacity e.lists

-- These are all ends of one call, by their places: each pass for the inbox j is of the queue from which the end j
-- receives.
pub record OneCall (names : List SharedName) : Type 0 where
  pub some : 0 < length names
  pub placed : (i : ℕ) (x : SharedName) → at names i x → x.place ≡ i
  pub outs : (i : ℕ) (x : SharedName) → at names i x → length x.outs ≡ length names
  pub joined : (i j : ℕ) (x y : SharedName) (out : InboxPass) → at names i x → at names j y → at x.outs j out → out.table_id ≡ y.inlet.table_id
