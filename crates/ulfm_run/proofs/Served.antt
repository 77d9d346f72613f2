-- Whom nothing waits for, as a loop over the ranks finds it.
use Rattle.std.proofs.Common.{◌≡◌, ℕ, ◌<◌, ◌≤◌, ◌+◌, ◌↔◌, Bool, List, [], length, refl, ap, sym, subst, ◌∙◌, arith, inl, inr, get_or, eq-eqb, ◌==◌, IsTrue, slice_get, vec_len}
use Rattle.std.proofs.lemmas.List.{nil_from_length, get_or_past, length-map}
use Rattle.ulfm_run.proofs.Common.{at, contents, Global, Item, Vec, WorldRank, cases_lt, eqb-true, same_Some, slice_get_read, inbox_of}
use Rattle.ulfm_run.proofs.Handed.{inbox_there}

-- what holds at each place before k, and at k, holds at each before k + 1
pub each_more : {X : Type 0} (P : ℕ → X → Type 0) (xs : List X) (k : ℕ) {x : X} → ((j : ℕ) (y : X) → j < k → at xs j y → P j y) → k < length xs → x ≡ get_or xs k x → P k x → (j : ℕ) (y : X) → j < k + 1 → at xs j y → P j y
each_more P xs k {x} before inside is holds j y low there = elim (cases_lt j k) [
  | inl less ↦ before j y less there
  | inr more ↦
      let same : k ≡ j = omega (arith, low, more) in
      subst (λ (i : ℕ). P i y) same (subst (P k) (same_Some x y (sym (slice_get_read xs (length xs) k x refl inside is) ∙ ap (slice_get xs) same ∙ there)) holds)
]

-- the inbox at a place is empty
pub inbox_at : (inboxes : List (Vec (WorldRank × Item) Global)) (d : ℕ) {inbox : Vec (WorldRank × Item) Global} {b : Bool} → at inboxes d inbox → b ≡ (vec_len inbox == 0) → IsTrue b ↔ (inbox_of (contents inboxes) d ≡ [])
inbox_at inboxes d {inbox} here is = (
  λ yes.
      let zero : vec_len inbox ≡ 0 = eqb-true (vec_len inbox) 0 (sym is ∙ yes) in
      inbox_there inboxes d here ∙ nil_from_length inbox.items (omega (arith, inbox.ok, zero)),
  λ none.
      let zero : length inbox.items ≡ 0 = ap length (sym (inbox_there inboxes d here) ∙ none) in
      is ∙ eq-eqb (vec_len inbox) 0 (omega (arith, inbox.ok, zero)),
)

-- where there is no inbox, nothing is left
pub no_inbox : (inboxes : List (Vec (WorldRank × Item) Global)) (d : ℕ) → length inboxes ≤ d → inbox_of (contents inboxes) d ≡ []
no_inbox inboxes d far =
    let items : Vec (WorldRank × Item) Global → List (WorldRank × Item) = λ v. v.items in
    get_or_past (contents inboxes) d [] (omega (arith, far, length-map inboxes items))
