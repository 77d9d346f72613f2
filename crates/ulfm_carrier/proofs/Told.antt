-- What the ends tell of which one of them hears.
use Rattle.std.proofs.Common.{◌≡◌, ◌<◌, inl, inr, ℕ, zero, suc, List, [], ◌∷◌, length, map, get_or, refl, ap, sym, ◌∙◌, arith, subst}
use Rattle.ulfm_carrier.proofs.Common.{at, cases_eq, HasAllReceipts, Item, length_push, shared_pushed, SharedEnds, PassView}
use Rattle.ulfm_carrier.proofs.Last.{at_middle, at_front}
use Rattle.ulfm_carrier.proofs.Places.{at_push}
use Rattle.ulfm_carrier.proofs.Heard.{told_by, told_view}

module _ (all : List SharedEnds) (place : ℕ) where
  -- what the end of this number told
  abbrev pub telling : ℕ → ℕ × List Item
  telling n = (n, get_or (map (λ e. shared_pushed e place) all) n [])

  pub told-many : (n : ℕ) → length (told_by all place n) ≡ n
  told-many zero = refl
  told-many (suc n) = let rest = told-many n in let one = length_push (told_by all place n) (telling n) in omega (arith, rest, one)

  pub told_at : (n s : ℕ) → s < n → at (told_by all place n) s (telling s)
  told_at zero s low = absurd (omega (arith, low))
  told_at (suc n) s low = elim (cases_eq s n) [
    | inl same ↦
        subst (λ k. at (told_by all place (suc n)) s (telling k)) (sym same) (subst (λ k. at (told_by all place (suc n)) k (telling n)) (told-many n ∙ sym same) (at_middle (told_by all place n) [] (telling n)))
    | inr apart ↦ let m = apart in at_front (told_by all place n) (telling n ∷ []) s (told_at n s (omega (arith, low, m)))
  ]

  pub told-number : (n k : ℕ) (x : ℕ × List Item) → at (told_by all place n) k x → x.0 ≡ k
  told-number zero k x here = absurd (cc)
  told-number (suc n) k x here = elim (at_push (told_by all place n) (telling n) k here) [
    | inl h ↦ told-number n k x h.1
    | inr h ↦ ap (λ y. y.0) h.1 ∙ sym (h.0 ∙ told-many n)
  ]

  pub told_of_all : {n : ℕ} (v : PassView) {w : PassView} → w ≡ told_view v (told_by all place n) → v.made ≡ n → HasAllReceipts w
  told_of_all {n} v is made = subst HasAllReceipts (sym is) (told-many n ∙ sym made, told-number n)
