-- Inboxes and their passes while the ends of one call are made.
use Rattle.std.specs.Prelude.{◌≡◌, ◌≤◌, ℕ, None, List, [], length, vec_capacity, Option}
use Rattle.std.specs.Arc.{arc_value}
use Rattle.std.specs.declared.alloc.Global.{Global}
use Rattle.std.specs.declared.vec.Vec.{Vec}
use Rattle.crossbeam_queue.specs.declared.array_queue.Doing.{Doing}
use Rattle.crossbeam_queue.specs.declared.array_queue.Slotted.{Slotted}
use Rattle.crossbeam_queue.specs.declared.array_queue.Turns.{Turns}
use Rattle.crossbeam_queue.specs.Passes.{view, IsPassOf, IsSamePass, ruled_capacity}
use Rattle.ulfm_carrier.specs.declared.inbox.InOrder.{InOrder}
use Rattle.ulfm_carrier.specs.declared.inbox.PassView.{PassView}
use Rattle.ulfm_carrier.specs.declared.shared_ends.SharedEnds.{SharedEnds}
use Rattle.ulfm_base.specs.Lists.{at}
use Rattle.ulfm_carrier.specs.Inbox.{Signed, InboxPass, receiver}
use Rattle.ulfm_carrier.specs.inside.Passes.{sender, one_more}
use Rattle.ulfm_carrier.specs.declared.inbox.Role.TheVariants as role

-- an inbox under its rule
abbrev pub Queue : Type 0
Queue = Slotted (Option Signed) (Doing Signed PassView) (Turns InOrder) Global

-- the receiver that made this many senders, and did nothing else
abbrev pub receiver_of : ℕ → PassView
receiver_of m = record receiver { made = m }

-- inboxes of this many places
abbrev pub AreInboxes : ℕ → List Queue → Type 0
AreInboxes capacity inboxes = (j : ℕ) (inbox : Queue) → at inboxes j inbox → ruled_capacity inbox ≡ capacity

-- the passes of the receivers of these inboxes, each of which made this many senders
abbrev pub AreInlets : ℕ → List Queue → List InboxPass → Type 0
AreInlets m inboxes inlets = (j : ℕ) (inbox : Queue) (inlet : InboxPass) → at inboxes j inbox → at inlets j inlet → IsPassOf inbox inlet × (view inlet ≡ receiver_of m)

-- passes of receivers of these inboxes
abbrev pub AreOpenInlets : List Queue → List InboxPass → Type 0
AreOpenInlets inboxes inlets = (j : ℕ) (inbox : Queue) (inlet : InboxPass) → at inboxes j inbox → at inlets j inlet → IsPassOf inbox inlet × ((view inlet).role ≡ role.Receiver)

-- each receiver made one sender more
abbrev pub HaveMadeOneMore : List InboxPass → List InboxPass → Type 0
HaveMadeOneMore before after = (j : ℕ) (p q : InboxPass) → at before j p → at after j q → IsSamePass p q × (view q ≡ one_more (view p))

-- the passes of the senders that these receivers make next
abbrev pub AreNextOuts : List Queue → List InboxPass → List InboxPass → Type 0
AreNextOuts inboxes inlets outs = (j : ℕ) (inbox : Queue) (inlet out : InboxPass) → at inboxes j inbox → at inlets j inlet → at outs j out → IsPassOf inbox out × (view out ≡ sender (view inlet).made)

-- a pass for each of these inboxes, of the sender of this number
abbrev pub AreOuts : ℕ → List Queue → List InboxPass → Type 0
AreOuts s inboxes outs = (length outs ≡ length inboxes) × ((j : ℕ) (inbox : Queue) (out : InboxPass) → at inboxes j inbox → at outs j out → IsPassOf inbox out × (view out ≡ sender s))

-- for each of n ranks its passes as a sender
abbrev pub AreRows : ℕ → List Queue → List (Vec InboxPass Global) → Type 0
AreRows n inboxes rows = (length rows ≡ n) × ((s : ℕ) (outs : Vec InboxPass Global) → at rows s outs → AreOuts s inboxes outs.items)

-- the end of the rank k of n, as it is made
pub record IsMade (n capacity : ℕ) (inboxes : List Queue) (k : ℕ) (e : SharedEnds) : Type 0 where
  pub number : e.me.number ≡ k
  pub same_inboxes : (arc_value e.inboxes).items ≡ inboxes
  pub outs : AreOuts k inboxes e.outs.items
  pub inlet : (inbox : Queue) → at inboxes k inbox → IsPassOf inbox e.inlet × (view e.inlet ≡ receiver_of n)
  pub live : e.gathered ≡ None
  pub empty : e.left.items ≡ []
  pub room : capacity ≤ vec_capacity e.left
  pub no_list : e.lists.items ≡ []
  pub list_for_each : n ≤ vec_capacity e.lists

-- the ends of n ranks, as they are made
pub record AreMade (n capacity : ℕ) (inboxes : List Queue) (ends : List SharedEnds) : Type 0 where
  pub as_many : length ends ≡ n
  pub each : (k : ℕ) (e : SharedEnds) → at ends k e → IsMade n capacity inboxes k e
