-- Ends of shared inboxes while they are gathered.
use Rattle.std.specs.Prelude.{◌≡◌, ℕ, ◌<◌, List, length, ◌≤◌}
use Rattle.ulfm_base.specs.declared.item.Item.{Item}
use Rattle.ulfm_carrier.specs.declared.inbox.PassView.{PassView}
use Rattle.ulfm_base.specs.Items.{items_from}
use Rattle.ulfm_base.specs.Lists.{at}
use Rattle.ulfm_carrier.specs.Inbox.{Signed, InboxPass}
use Rattle.std.specs.declared.alloc.Global.{Global}
use Rattle.std.specs.declared.vec.Vec.{Vec}
use Rattle.ulfm_carrier.specs.declared.shared_ends.SharedEnds.{SharedEnds}
use Rattle.ulfm_carrier.specs.Shared.{MaySend, MayReceive, HasPasses}

-- all that closed senders pushed was taken
abbrev pub ReceiptsAreTaken : PassView → Type 0
ReceiptsAreTaken v = (k p : ℕ) (l : List Item) → at v.receipts k (p, l) → l ≡ items_from p v.taken

-- the receiver was told of each sender that was made, in their order
abbrev pub HasAllReceipts : PassView → Type 0
HasAllReceipts v = (length v.receipts ≡ v.made) × ((k : ℕ) (x : ℕ × List Item) → at v.receipts k x → x.0 ≡ k)

-- the senders of these items have numbers below n
abbrev pub AllBelow : ℕ → List Signed → Type 0
AllBelow n xs = (k : ℕ) (x : Signed) → at xs k x → x.0.number < n

-- the inboxes below d are gathered, and no others
pub record IsOpenFrom (d k : ℕ) (e : SharedEnds) : Type 0 where
  pub passes : HasPasses e
  pub senders : (j : ℕ) → d ≤ j → MaySend e j
  pub receiver : d ≤ k → MayReceive e

-- of all ends by their places, the inboxes below d are gathered, and no others
abbrev pub AreOpenFrom : ℕ → List SharedEnds → Type 0
AreOpenFrom d ends = (k : ℕ) (e : SharedEnds) → at ends k e → IsOpenFrom d k e

-- the end with other passes for the inboxes
abbrev pub with_outs : SharedEnds → Vec InboxPass Global → SharedEnds
with_outs e outs = record e { outs = outs }

-- the end with another pass of its own inbox
abbrev pub with_inlet : SharedEnds → InboxPass → SharedEnds
with_inlet e inlet = record e { inlet = inlet }
