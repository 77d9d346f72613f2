-- What each pass of an inbox knows stays so, where one of them changes or one more comes.
use Rattle.std.proofs.Common.{◌≡◌, ◌≢◌, ℕ, zero, suc, inl, inr, List, [], ◌∷◌, ◌++◌, length, set, ap, sym, ◌∙◌, subst, Option, None, Some}
use Rattle.ulfm_carrier.proofs.Common.{at_set, Item, PassView}
use Rattle.ulfm_carrier.specs.Inbox.{Signed, SenderPasses, Sends, Receives, KnowsTruly, InboxRule}
use mathlib.Core.Option.{some, some-injective, some-ne-none}
use lib.ListN.{get_elem?}
use Rattle.ulfm_carrier.specs.declared.inbox.Role.TheVariants as role

-- the fact of each pass with what it knows
abbrev pub All : (ℕ → PassView → Type 0) → List PassView → Type 0
All F views = (pass : ℕ) (v : PassView) → get_elem? views pass ≡ some v → F pass v

pub all_set : (F : ℕ → PassView → Type 0) (views : List PassView) (pass : ℕ) (w : PassView) → F pass w → ((j : ℕ) (u : PassView) → j ≢ pass → get_elem? views j ≡ some u → F j u) → All F (set views pass w)
all_set F views pass w mine others j u e = elim (at_set views pass j w u e) [ inl x ↦ subst (λ (y : ℕ × PassView). F y.0 y.1) (λ i. (sym x.0 i, x.1 i)) mine | inr x ↦ others j u x.0 x.1 ]

pub all_push : (F : ℕ → PassView → Type 0) (l : List PassView) (a : PassView) → All F l → F (length l) a → All F (l ++ a ∷ [])
all_push F [] a old here zero u e = subst (F 0) (some-injective a u e) here
all_push F [] a old here (suc j) u e = absurd (some-ne-none u (sym e))
all_push F (x ∷ xs) a old here zero u e = old zero u e
all_push F (x ∷ xs) a old here (suc j) u e = all_push (λ i. F (suc i)) xs a (λ i v t. old (suc i) v t) here j u e

module _ {reader : ℕ} {pass_of : SenderPasses} {pushed : ℕ → List Item} {taken : List Signed} {pass : ℕ} {v : PassView} where
  -- of a spent view nothing is asked
  pub spent_fits : v.role ≡ role.Spent → KnowsTruly reader pass_of pushed taken pass v
  spent_fits is = record { sends = λ r. absurd (cc); tells = λ r. absurd (cc); receives = λ r. absurd (cc); owns = λ r. absurd (cc) }

  pub sender_fits : v.role ≡ role.Sender → Sends pass_of pushed pass v → KnowsTruly reader pass_of pushed taken pass v
  sender_fits is here = record { sends = λ r. here; tells = λ r. absurd (cc); receives = λ r. absurd (cc); owns = λ r. absurd (cc) }

  pub receipt_fits : v.role ≡ role.Receipt → (pass_of v.from ≡ Some None) × (v.pushed ≡ pushed v.from) → KnowsTruly reader pass_of pushed taken pass v
  receipt_fits is here = record { sends = λ r. absurd (cc); tells = λ r. here; receives = λ r. absurd (cc); owns = λ r. absurd (cc) }

  pub receiver_fits : v.role ≡ role.Receiver → Receives reader pass_of pushed taken pass v → KnowsTruly reader pass_of pushed taken pass v
  receiver_fits is here = record { sends = λ r. absurd (cc); tells = λ r. absurd (cc); receives = λ r. here; owns = λ r. absurd (cc) }

  pub owner_fits : v.role ≡ role.Owner → Sends pass_of pushed pass v × Receives reader pass_of pushed taken pass v → KnowsTruly reader pass_of pushed taken pass v
  owner_fits is here = record { sends = λ r. absurd (cc); tells = λ r. absurd (cc); receives = λ r. absurd (cc); owns = λ r. here }

-- a pass that isn't the receiver stays so, whoever is the receiver, and whatever was taken
pub senders_fit : {reader reader' : ℕ} {pass_of : SenderPasses} {pushed : ℕ → List Item} {taken taken' : List Signed} {j : ℕ} {u : PassView} → j ≢ reader → KnowsTruly reader pass_of pushed taken j u → KnowsTruly reader' pass_of pushed taken' j u
senders_fit other f = record { sends = f.sends; tells = f.tells; receives = λ r. absurd (other (f.receives r).0); owns = λ r. absurd (other (f.owns r).1.0) }

-- the rule over other passes, with another receiver and other senders
pub over : {held : List Signed} {views views' : List PassView} (h : InboxRule held views) (reader : ℕ) (pass_of : SenderPasses) → All (KnowsTruly reader pass_of h.pushed h.taken) views' → InboxRule held views'
over h reader pass_of fits = record { reader = reader; pass_of = pass_of; pushed = h.pushed; taken = h.taken; flows = h.flows; sources = h.sources; fits = fits }

-- nobody else's sender is changed
module _ (pass_of pass_of' : SenderPasses) (pushed pushed' : ℕ → List Item) (a holder : ℕ) (held : pass_of a ≡ Some (Some holder)) (same : (q : ℕ) → q ≢ a → (pushed' q ≡ pushed q) × (pass_of' q ≡ pass_of q)) where
  not_a : (q : ℕ) {s : Option (Option ℕ)} → pass_of q ≡ s → s ≢ Some (Some holder) → q ≢ a
  not_a q is other h = other (sym is ∙ ap pass_of h ∙ held)

  -- what is known of one that isn't the sender at a
  known : (q : ℕ) {s : Option (Option ℕ)} {l : List Item} → s ≢ Some (Some holder) → (pass_of q ≡ s) × (l ≡ pushed q) → (pass_of' q ≡ s) × (l ≡ pushed' q)
  known q {s} other was = let n = same q (not_a q was.0 other) in (n.1 ∙ was.0, was.1 ∙ sym n.0)

  pub receives_same : {reader : ℕ} {taken : List Signed} {j : ℕ} (u : PassView) → Receives reader pass_of pushed taken j u → Receives reader pass_of' pushed' taken j u
  receives_same u was = (was.0, was.1, (λ p late. let w = was.2 p late in let n = same p (not_a p w.0 (λ h. cc)) in (n.1 ∙ w.0, n.0 ∙ w.1)), λ k p l e. known p (λ h. cc) (was.3 k p l e))

  -- what another pass knows stays so
  pub others_fit : {reader : ℕ} {taken : List Signed} {j : ℕ} {u : PassView} → j ≢ holder → KnowsTruly reader pass_of pushed taken j u → KnowsTruly reader pass_of' pushed' taken j u
  others_fit {j = j} {u = u} other f = record {
    sends = λ r. known u.from (λ h. other (cc)) (f.sends r);
    tells = λ r. known u.from (λ h. cc) (f.tells r);
    receives = λ r. receives_same u (f.receives r);
    owns = λ r. let was = f.owns r in (known u.from (λ h. other (cc)) was.0, receives_same u was.1);
  }
