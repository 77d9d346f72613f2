-- The first of the rest of a list that passes, place by place.
use Rattle.std.proofs.Common.{◌≡◌, ℕ, ◌+◌, Bool, cond, true, false, List, ◌∷◌, drop, slice_get, ap, sym, ◌∙◌, Option, Some}
use Rattle.std.specs.List.{find}
use Rattle.std.proofs.lemmas.List.{drop_more}
use Rattle.std.proofs.lemmas.Option.{get_or_from_slice_get, slice_get_within}

module _ {X : Type 0} (p : X → Bool) (xs : List X) (i : ℕ) (x : X) (whole : Option X) (so_far : find p (drop i xs) ≡ whole) (here : slice_get xs i ≡ Some x) where
  -- the rest from the place: what stands there, and the rest behind it
  by_place : find p (drop i xs) ≡ find p (x ∷ drop (i + 1) xs)
  by_place = ap (find p) (drop_more xs i x (slice_get_within xs i x here)) ∙ ap (λ y. find p (y ∷ drop (i + 1) xs)) (get_or_from_slice_get xs i x x here)

  -- what stands there passes
  pub first_here : p x ≡ true → Some x ≡ whole
  first_here passed = sym (ap (λ (b : Bool). cond b (Some x) (find p (drop (i + 1) xs))) passed) ∙ sym by_place ∙ so_far

  -- it doesn't
  pub first_on : p x ≡ false → find p (drop (i + 1) xs) ≡ whole
  first_on failed = sym (ap (λ (b : Bool). cond b (Some x) (find p (drop (i + 1) xs))) failed) ∙ sym by_place ∙ so_far
