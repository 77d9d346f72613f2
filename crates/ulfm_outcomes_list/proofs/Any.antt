-- Whether something passes in the rest of a list, place by place.
use Rattle.std.proofs.Common.{◌≡◌, ◌||◌, ℕ, ◌+◌, Bool, true, false, List, drop, slice_get, ap, sym, ◌∙◌, Some}
use Rattle.std.specs.List.{list_any}
use Rattle.std.proofs.lemmas.List.{drop_more}
use Rattle.std.proofs.lemmas.Option.{get_or_from_slice_get, slice_get_within}

module _ {X : Type 0} (p : X → Bool) (xs : List X) (i : ℕ) (x : X) (whole : Bool) (so_far : list_any p (drop i xs) ≡ whole) (here : slice_get xs i ≡ Some x) where
  -- the rest from the place: what stands there, and the rest behind it
  by_place : list_any p (drop i xs) ≡ p x || list_any p (drop (i + 1) xs)
  by_place = ap (list_any p) (drop_more xs i x (slice_get_within xs i x here)) ∙ ap (λ y. p y || list_any p (drop (i + 1) xs)) (get_or_from_slice_get xs i x x here)

  -- one passes at a place
  pub any_here : p x ≡ true → true ≡ whole
  any_here passed = sym (ap (λ (b : Bool). b || list_any p (drop (i + 1) xs)) passed) ∙ sym by_place ∙ so_far

  -- none does there
  pub any_on : p x ≡ false → list_any p (drop (i + 1) xs) ≡ whole
  any_on failed = sym (ap (λ (b : Bool). b || list_any p (drop (i + 1) xs)) failed) ∙ sym by_place ∙ so_far
