-- What stands at a place of a list that others follow.
use Rattle.std.proofs.Common.{◌≡◌, ◌≢◌, ◌<◌, ℕ, zero, suc, ◌+◌, List, [], ◌∷◌, ◌++◌, length, map, set, get_or, ap, sym, ◌∙◌, refl, arith, Some, slice_get}
use Rattle.std.specs.Option.{option_map}
use Rattle.std.proofs.lemmas.Option.{get_or_from_slice_get, same_Some, slice_get-map}

module _ {X : Type 0} where
  -- what stands in the front
  pub get_left : (xs ys : List X) (k : ℕ) → k < length xs → slice_get (xs ++ ys) k ≡ slice_get xs k
  get_left [] ys k low = absurd (omega (arith, low))
  get_left (y ∷ xs) ys zero low = refl
  get_left (y ∷ xs) ys (suc k) low = get_left xs ys k (omega (arith, low))

  -- what stands behind the front
  pub get_behind : (xs ys : List X) (k j : ℕ) → j ≡ length xs + k → slice_get (xs ++ ys) j ≡ slice_get ys k
  get_behind [] ys k j e = let same : j ≡ k = omega (arith, e) in ap (λ (n : ℕ). slice_get ys n) same
  get_behind (x ∷ xs) ys k zero e = absurd (omega (arith, e))
  get_behind (x ∷ xs) ys k (suc j) e = get_behind xs ys k j (omega (arith, e))

  -- what is written at a place stands there
  pub set_here : (xs : List X) (k : ℕ) (x : X) → k < length xs → slice_get (set xs k x) k ≡ Some x
  set_here [] k x low = absurd (omega (arith, low))
  set_here (y ∷ ys) zero x low = refl
  set_here (y ∷ ys) (suc k) x low = set_here ys k x (omega (arith, low))

  -- and nothing else changes
  pub set_elsewhere : (xs : List X) (k j : ℕ) (x : X) → j ≢ k → slice_get (set xs k x) j ≡ slice_get xs j
  set_elsewhere [] k j x other = refl
  set_elsewhere (y ∷ ys) zero zero x other = absurd (other refl)
  set_elsewhere (y ∷ ys) zero (suc j) x other = refl
  set_elsewhere (y ∷ ys) (suc k) zero x other = refl
  set_elsewhere (y ∷ ys) (suc k) (suc j) x other = set_elsewhere ys k j x (λ same. other (ap suc same))

-- two lists of one view, at one place
pub same_view : {X Y : Type 0} (f : X → Y) (xs ys : List X) (k : ℕ) (x y : X) → map f ys ≡ map f xs → slice_get xs k ≡ Some x → slice_get ys k ≡ Some y → f y ≡ f x
same_view f xs ys k x y same here there =
    same_Some (f y) (f x) (sym (slice_get-map f ys k ∙ ap (option_map f) there) ∙ ap (λ (l : List _). slice_get l k) same ∙ slice_get-map f xs k ∙ ap (option_map f) here)

-- the view of what stands at a place
pub view_at : {X Y : Type 0} (f : X → Y) (xs : List X) (k : ℕ) (x : X) (d : Y) → slice_get xs k ≡ Some x → get_or (map f xs) k d ≡ f x
view_at f xs k x d here = get_or_from_slice_get (map f xs) k (f x) d (slice_get-map f xs k ∙ ap (option_map f) here)
