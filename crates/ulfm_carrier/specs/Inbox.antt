-- The rule of an inbox that all senders share: of what it holds, and of what its passes know.
use Rattle.std.specs.Prelude.{◌≡◌, ℕ, ◌≤◌, Option, None, Some, List, [], ◌++◌}
use mathlib.Core.Option.{some}
use lib.ListN.{get_elem?}
use Rattle.crossbeam_queue.specs.Passes.{Pass}
use Rattle.ulfm_base.specs.declared.rank.WorldRank.{WorldRank}
use Rattle.ulfm_base.specs.declared.item.Item.{Item}
use Rattle.ulfm_carrier.specs.declared.inbox.PassView.{PassView}
use Rattle.ulfm_base.specs.Items.{items_from, ComesFrom}
use Rattle.ulfm_base.specs.Lists.{at}
use Rattle.ulfm_carrier.specs.declared.inbox.Role.TheVariants as role

-- an item with its sender
abbrev pub Signed : Type 0
Signed = WorldRank × Item

-- a pass of an inbox
abbrev pub InboxPass : Type 0
InboxPass = Pass Signed PassView

-- the receiver, before any sender is made
abbrev pub receiver : PassView
receiver = record { role = role.Receiver; from = 0; pushed = []; made = 0; taken = []; receipts = [] }

-- a spent view
abbrev pub spent : PassView
spent = record { role = role.Spent; from = 0; pushed = []; made = 0; taken = []; receipts = [] }

-- of each sender: it wasn't made, it has closed, or the number of its pass
abbrev pub SenderPasses : Type 0
SenderPasses = ℕ → Option (Option ℕ)

-- what is told of closed senders is what they pushed
abbrev pub AreClosed : SenderPasses → (ℕ → List Item) → List (ℕ × List Item) → Type 0
AreClosed pass_of pushed receipts = (k p : ℕ) (l : List Item) → at receipts k (p, l) → (pass_of p ≡ Some None) × (l ≡ pushed p)

-- what a sender knows, whose pass has this number
abbrev pub Sends : SenderPasses → (ℕ → List Item) → ℕ → PassView → Type 0
Sends pass_of pushed pass v = (pass_of v.from ≡ Some (Some pass)) × (v.pushed ≡ pushed v.from)

-- what the receiver, which is one pass, knows: what was taken, which senders were made, and what closed ones pushed
abbrev pub Receives : ℕ → SenderPasses → (ℕ → List Item) → List Signed → ℕ → PassView → Type 0
Receives reader pass_of pushed taken pass v = (pass ≡ reader) × (v.taken ≡ taken) × ((p : ℕ) → v.made ≤ p → (pass_of p ≡ None) × (pushed p ≡ [])) × AreClosed pass_of pushed v.receipts

-- What the pass of this number knows is so: a sender and its receipt what it pushed; the receiver what it took; an
-- owner both. Of a spent view nothing is asked.
pub record KnowsTruly (reader : ℕ) (pass_of : SenderPasses) (pushed : ℕ → List Item) (taken : List Signed) (pass : ℕ) (v : PassView) : Type 0 where
  pub sends : v.role ≡ role.Sender → Sends pass_of pushed pass v
  pub tells : v.role ≡ role.Receipt → (pass_of v.from ≡ Some None) × (v.pushed ≡ pushed v.from)
  pub receives : v.role ≡ role.Receiver → Receives reader pass_of pushed taken pass v
  pub owns : v.role ≡ role.Owner → Sends pass_of pushed pass v × Receives reader pass_of pushed taken pass v

-- What each sender pushed is, in order, what was taken of it and then what is held of it. A letter's source is the
-- sender that it is held with.
pub record InboxRule (held : List Signed) (views : List PassView) : Type 0 where
  pub reader : ℕ
  pub pass_of : SenderPasses
  pub pushed : ℕ → List Item
  pub taken : List Signed
  pub flows : (p : ℕ) → pushed p ≡ items_from p (taken ++ held)
  pub sources : (k : ℕ) (x : Signed) → at held k x → ComesFrom x.0.number x.1
  pub fits : (pass : ℕ) (v : PassView) → get_elem? views pass ≡ some v → KnowsTruly reader pass_of pushed taken pass v

-- What an owner pushed is what it took of itself and then what is held of it. Nothing was taken or is held of a sender
-- that it didn't make.
pub record OwnIsTakenAndHeld (v : PassView) (held : List Signed) : Type 0 where
  pub own : v.pushed ≡ items_from v.from (v.taken ++ held)
  pub no_others : (p : ℕ) → v.made ≤ p → items_from p (v.taken ++ held) ≡ []

-- what each closed sender pushed is what was taken of it and then what is held of it
abbrev pub ReceiptsAreTakenAndHeld : PassView → List Signed → Type 0
ReceiptsAreTakenAndHeld v held = (k p : ℕ) (l : List Item) → at v.receipts k (p, l) → l ≡ items_from p (v.taken ++ held)
