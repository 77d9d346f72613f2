-- A list longer by one element: what is at each place.
use Rattle.std.proofs.Common.{◌≡◌, ℕ, zero, suc, ◌+◌, ◌<◌, ◌⊎◌, inl, inr, List, [], ◌∷◌, ◌++◌, length, refl, ap, Some, arith, length-append, slice_get}
use Rattle.std.proofs.lemmas.Option.{slice_get_within}

module _ {X : Type 0} where
  pub get_old : (xs : List X) (e : X) (k : ℕ) (x : X) → slice_get xs k ≡ Some x → slice_get (xs ++ e ∷ []) k ≡ Some x
  get_old [] e k x h = cc
  get_old (y ∷ ys) e zero x h = h
  get_old (y ∷ ys) e (suc k) x h = get_old ys e k x h

  pub get_new : (xs : List X) (e : X) → slice_get (xs ++ e ∷ []) (length xs) ≡ Some e
  get_new [] e = refl
  get_new (y ∷ ys) e = get_new ys e

  pub get_here : (xs : List X) (e : X) (ys : List X) → slice_get (xs ++ e ∷ ys) (length xs) ≡ Some e
  get_here [] e ys = refl
  get_here (x ∷ xs) e ys = get_here xs e ys

  pub get_cases : (xs : List X) (e : X) (k : ℕ) (x : X) → slice_get (xs ++ e ∷ []) k ≡ Some x → (slice_get xs k ≡ Some x) ⊎ ((k ≡ length xs) × (e ≡ x))
  get_cases [] e zero x h = inr (refl, cc)
  get_cases [] e (suc k) x h = cc
  get_cases (y ∷ ys) e zero x h = inl h
  get_cases (y ∷ ys) e (suc k) x h = elim (get_cases ys e k x h) [ inl p ↦ inl p | inr p ↦ inr (ap suc p.0, p.1) ]

  pub get_below : (xs : List X) (e : X) (k : ℕ) (x : X) → k < length xs → slice_get (xs ++ e ∷ []) k ≡ Some x → slice_get xs k ≡ Some x
  get_below xs e k x l h = elim (get_cases xs e k x h) [ inl p ↦ p | inr p ↦ absurd (let q : k ≡ length xs = p.0 in omega arith) ]

  -- an element that isn't the last one stands below it
  pub below_last : (xs : List X) (e : X) (k : ℕ) (x : X) → slice_get (xs ++ e ∷ []) k ≡ Some x → (e ≡ x → ⊥) → k < length xs
  below_last xs e k x h other = elim (get_cases xs e k x h) [ inl p ↦ slice_get_within xs k x p | inr p ↦ absurd (other p.1) ]

  pub get_last : (xs : List X) (e x : X) → slice_get (xs ++ e ∷ []) (length xs) ≡ Some x → e ≡ x
  get_last xs e x h = let g = get_new xs e in cc

  pub length_more : (xs : List X) (e : X) → length (xs ++ e ∷ []) ≡ length xs + 1
  length_more xs e = length-append xs (e ∷ [])
