-- One sender's items are put behind what is left.
use Rattle.std.proofs.Common.{◌≡◌, ◌≢◌, ◌<◌, ◌≤◌, ◌+◌, inl, inr, ℕ, List, [], ◌++◌, length, map, sum, drop, get_or, ap, sym, ◌∙◌, arith, subst, append-nil}
use Rattle.std.proofs.lemmas.List.Sums.{sum_by-cons}
use Rattle.std.proofs.lemmas.List.{drop_more, length-map}
use Rattle.ulfm_carrier.proofs.Common.{at, cases_eq, Inlet, inlet_capacity, Item, items_from, slice_get_within, with_sender, WorldRank}
use Rattle.ulfm_carrier.proofs.Places.{view_or}
use Rattle.ulfm_carrier.proofs.Senders.{items-append, items_own, items_other}

-- the room that the rings from k on ask for is that of the ring k and that of the rest
pub room_from : {caps : List ℕ} (ins : List Inlet) (k : ℕ) (i : Inlet) → map inlet_capacity ins ≡ caps → at ins k i → sum (drop k caps) ≡ inlet_capacity i + sum (drop (k + 1) caps)
room_from {caps} ins k i is here =
    let low : k < length caps = omega (arith, slice_get_within ins k i here, ap length is, length-map ins inlet_capacity) in
    ap sum (drop_more caps k 0 low) ∙ sum_by-cons (λ n. n) (get_or caps k 0) (drop (k + 1) caps) ∙ ap (λ n. n + sum (drop (k + 1) caps)) (ap (λ l. get_or l k 0) (sym is) ∙ view_or inlet_capacity ins k 0 here)

module _ (source : WorldRank) (from : ℕ) (is : source.number ≡ from) (old new : List (WorldRank × Item)) (rest : List Item) (more : new ≡ old ++ map (with_sender source) rest) (none : (s : ℕ) → from ≤ s → items_from s old ≡ []) where
  other : (s : ℕ) → s ≢ from → items_from s new ≡ items_from s old
  other s apart =
      ap (items_from s) more ∙ items-append s old (map (with_sender source) rest) ∙ ap (λ l. items_from s old ++ l) (items_other source s rest (λ e. apart (sym e ∙ is)))
      ∙ append-nil (items_from s old)

  pub none_past : (s : ℕ) → from + 1 ≤ s → items_from s new ≡ []
  none_past s past = other s (λ e. absurd (omega arith)) ∙ none s (omega arith)

  pub left_below : (sent taken : ℕ → List Item) → sent from ≡ taken from ++ rest → ((s : ℕ) → s < from → sent s ≡ taken s ++ items_from s old) → (s : ℕ) → s < from + 1 → sent s ≡ taken s ++ items_from s new
  left_below sent taken own below s low = elim (cases_eq s from) [
    | inl e ↦
        let here : items_from from new ≡ rest =
        ap (items_from from) more ∙ items-append from old (map (with_sender source) rest) ∙ ap (λ l. l ++ items_from from (map (with_sender source) rest)) (none from (omega arith)) ∙ items_own source rest is in
        subst (λ s. sent s ≡ taken s ++ items_from s new) (sym e) (own ∙ ap (λ l. taken from ++ l) (sym here))
    | inr apart ↦ below s (let m = apart in omega arith) ∙ ap (λ l. taken s ++ l) (sym (other s apart))
  ]
