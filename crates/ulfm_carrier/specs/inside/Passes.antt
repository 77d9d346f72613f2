-- What a pass of an inbox knows after each step.
use Rattle.std.specs.Prelude.{◌≡◌, ℕ, ◌+◌, ◌<◌, List, [], ◌∷◌, ◌++◌}
use Rattle.ulfm_base.specs.declared.item.Item.{Item}
use Rattle.ulfm_carrier.specs.declared.inbox.PassView.{PassView}
use Rattle.ulfm_carrier.specs.declared.inbox.Role.{Role}
use Rattle.ulfm_base.specs.Items.{ComesFrom}
use Rattle.ulfm_carrier.specs.declared.inbox.Role.TheVariants as role
use Rattle.ulfm_carrier.specs.Inbox.{Signed, ReceiptsAreTakenAndHeld}

-- the sender of this number, which pushed nothing yet
abbrev pub sender : ℕ → PassView
sender p = record { role = role.Sender; from = p; pushed = []; made = 0; taken = []; receipts = [] }

-- the sender pushed this item
abbrev pub after_push : PassView → Item → PassView
after_push v item = record v { pushed = v.pushed ++ item ∷ [] }

-- the receiver took this item
abbrev pub after_take : PassView → Signed → PassView
after_take v x = record v { taken = v.taken ++ x ∷ [] }

-- the receiver took these items
abbrev pub after_all : PassView → List Signed → PassView
after_all v xs = record v { taken = v.taken ++ xs }

-- one sender more was made
abbrev pub one_more : PassView → PassView
one_more v = record v { made = v.made + 1 }

-- what a pass holds, in another role
abbrev pub in_role : Role → PassView → PassView
in_role r v = record v { role = r }

-- the receiver is told what a closed sender pushed
abbrev pub after_receipt : PassView → PassView → PassView
after_receipt v u = record v { receipts = v.receipts ++ (u.from, u.pushed) ∷ [] }

-- the sender v, which has the receiver's pass u too
abbrev pub owner : PassView → PassView → PassView
owner v u = record v { role = role.Owner; made = u.made; taken = u.taken; receipts = u.receipts }

-- the receiver v, which has back what the owner u knows of the inbox
abbrev pub returned : PassView → PassView → PassView
returned v u = record v { role = role.Receiver; made = u.made; taken = u.taken; receipts = u.receipts }

-- the receiver took this item, whose sender was made: at that step the inbox held these
pub record TakesOne (v : PassView) (x : Signed) (w : PassView) : Type 0 where
  pub taken : w ≡ after_take v x
  pub source : ComesFrom x.0.number x.1
  pub made : x.0.number < v.made
  pub held : List Signed
  pub flows : ReceiptsAreTakenAndHeld w held
