-- What stands at a place of a list.
use Rattle.std.proofs.Common.{◌≡◌, ℕ, zero, suc, ◌<◌, List, [], ◌∷◌, length, map, get_or, replicate, refl, ap, sym, ◌∙◌, arith}
use Rattle.std.specs.Option.{option_map}
use Rattle.std.proofs.lemmas.Option.{same_Some, slice_get-map}
use Rattle.ulfm_base.specs.Lists.{at}

-- something stands at each place of a list
pub there : {X : Type 0} (xs : List X) (k : ℕ) → k < length xs → (x : X) × at xs k x
there [] k h = absurd (omega (arith, h))
there (x ∷ xs) zero h = (x, refl)
there (x ∷ xs) (suc k) h = there xs k (omega (arith, h))

-- and nothing else
pub only_at : {X : Type 0} (xs : List X) (k : ℕ) (x y : X) → at xs k x → at xs k y → y ≡ x
only_at xs k x y here other = same_Some y x (sym other ∙ here)

-- a view of the element at k, where a list shows it
pub at_view : {X Y : Type 0} (f : X → Y) (xs : List X) (k : ℕ) (x : X) → at xs k x → at (map f xs) k (f x)
at_view f xs k x h = slice_get-map f xs k ∙ ap (option_map f) h

-- each place of a list of blanks, and each past its end, reads blank
pub get_or-blank : {X : Type 0} (n k : ℕ) (d : X) → get_or (replicate n d) k d ≡ d
get_or-blank zero k d = refl
get_or-blank (suc n) zero d = refl
get_or-blank (suc n) (suc k) d = get_or-blank n k d
