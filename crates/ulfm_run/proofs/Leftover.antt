-- What is left of a rank in an inbox.
use Rattle.std.proofs.Common.{◌≡◌, ◌+◌, ◌<◌, ◌≤◌, ℕ, zero, suc, List, [], ◌∷◌, length, refl, ap, sym, subst, ◌∙◌, inl, inr, arith, slice_get}
use Rattle.std.proofs.lemmas.Bool.{cases_lt}
use Rattle.std.specs.declared.alloc.Global.{Global}
use Rattle.std.specs.declared.vec.Vec.{Vec}
use Rattle.std.proofs.lemmas.Option.{same_Some}
use Rattle.ulfm_base.specs.declared.item.Item.{Item}
use Rattle.ulfm_base.specs.declared.rank.WorldRank.{WorldRank}
use Rattle.ulfm_base.specs.Items.{items_from}
use Rattle.ulfm_base.specs.Lists.{at}
use Rattle.ulfm_report_laws.specs.Flow.{AreWithin, inbox_of}
use Rattle.ulfm_run.specs.Flow.{contents}
use Rattle.ulfm_report_laws.proofs.Counted.{none_far}
use Rattle.ulfm_run.proofs.Handed.{inbox_there}

-- of a rank past the last one nothing is
pub far_within : (s places : ℕ) (xs : List (WorldRank × Item)) → 8 ≤ s → length (items_from s xs) ≤ places
far_within s places xs far = let none = ap length (none_far s xs far) in omega (arith, none)

-- where each inbox is within the places, all are
pub all_within : (places : ℕ) (inboxes : List (Vec (WorldRank × Item) Global)) → ((d : ℕ) (inbox : Vec (WorldRank × Item) Global) → d < length inboxes → at inboxes d inbox → (s : ℕ) → length (items_from s inbox.items) ≤ places) → AreWithin (contents inboxes) places
all_within places inboxes each s d = by inboxes d each
  where
    by : (boxes : List (Vec (WorldRank × Item) Global)) (n : ℕ) → ((k : ℕ) (inbox : Vec (WorldRank × Item) Global) → k < length boxes → at boxes k inbox → (x : ℕ) → length (items_from x inbox.items) ≤ places) → length (items_from s (inbox_of (contents boxes) n)) ≤ places
    by [] n each = omega arith
    by (x ∷ boxes) zero each = each 0 x (omega arith) refl s
    by (x ∷ boxes) (suc n) each = by boxes n (λ k inbox lt here. each (suc k) inbox (omega (arith, lt)) here)

-- and each one is where all are
pub one_within : (places : ℕ) (inboxes : List (Vec (WorldRank × Item) Global)) → AreWithin (contents inboxes) places → (d : ℕ) (inbox : Vec (WorldRank × Item) Global) → at inboxes d inbox → (s : ℕ) → length (items_from s inbox.items) ≤ places
one_within places inboxes all d inbox here s = subst (λ (xs : List (WorldRank × Item)). length (items_from s xs) ≤ places) (inbox_there inboxes d here) (all s d)

-- one inbox more
pub one_more : (places : ℕ) (inboxes : List (Vec (WorldRank × Item) Global)) (n : ℕ) → ((d : ℕ) (inbox : Vec (WorldRank × Item) Global) → d < n → at inboxes d inbox → (s : ℕ) → length (items_from s inbox.items) ≤ places) → (next : Vec (WorldRank × Item) Global) → at inboxes n next
    → ((s : ℕ) → length (items_from s next.items) ≤ places) → (d : ℕ) (inbox : Vec (WorldRank × Item) Global) → d < n + 1 → at inboxes d inbox → (s : ℕ) → length (items_from s inbox.items) ≤ places
one_more places inboxes n before next here within d inbox lt there s = elim (cases_lt d n) [
  | inl less ↦ before d inbox less there s
  | inr last ↦
      let same : d ≡ n = omega (arith, lt, last) in
      let is : next ≡ inbox = same_Some next inbox (sym here ∙ ap (slice_get inboxes) (sym same) ∙ there) in
      subst (λ (v : Vec (WorldRank × Item) Global). length (items_from s v.items) ≤ places) is (within s)
]
