-- Lists that another list is mapped to.
use Rattle.std.proofs.Common.{◌≡◌, ℕ, zero, suc, List, [], ◌∷◌, map, length, refl, ap, sym, ◌∙◌, subst, arith, slice_get}
use Rattle.std.specs.List.{swap}
use Rattle.ulfm_carrier.specs.Family.{IsFresh, AllFresh}
use Rattle.ulfm_run.proofs.Common.{at, at_view, InPlace, Item, length-map}
use Rattle.ulfm_run.proofs.Handed.{from_map}

pub map_of_map : {X Y Z : Type 0} (f : Y → Z) (h : X → Y) (xs : List X) → map f (map h xs) ≡ map (λ x. f (h x)) xs
map_of_map f h [] = refl
map_of_map f h (x ∷ xs) = ap (λ l. f (h x) ∷ l) (map_of_map f h xs)

-- what holds of each element holds of each that a mapped list has
pub each_of_map : {X Y : Type 0} (P : Y → Type 0) (f : X → Y) (xs : List X) → ((k : ℕ) (x : X) → at xs k x → P (f x)) → (k : ℕ) (y : Y) → at (map f xs) k y → P y
each_of_map P f xs all k y here = let r = from_map f xs k here in subst P r.2 (all k r.0 r.1)

-- ends over fresh ends are fresh
pub fresh_over : {L E : Type 0} (below : L → E) (count : E → ℕ) (pushed taken : E → ℕ → List Item) (ready : E → Type 0) (ls : List L) {es : List E} → map below ls ≡ es → AllFresh count pushed taken ready es → AllFresh (λ l. count (below l)) (λ l p. pushed (below l) p) (λ l p. taken (below l) p) (λ l. ready (below l)) ls
fresh_over below count pushed taken ready ls is fresh =
    λ k l here. let f = fresh k (below l) (ap (λ xs. slice_get xs k) (sym is) ∙ at_view below ls k l here) in
    record { is_ready = f.is_ready; counted = f.counted ∙ ap length (sym is) ∙ length-map ls below; nothing_pushed = f.nothing_pushed; nothing_taken = f.nothing_taken }

-- two ends in each other's place aren't at the places of their numbers
pub swapped_apart : {E : Type 0} (place : E → ℕ) (xs : List E) → length xs ≡ 2 → InPlace place xs → InPlace place (swap xs 0 1) → ⊥
swapped_apart place [] n was now = absurd (omega (arith, n))
swapped_apart place (x ∷ []) n was now = absurd (omega (arith, n))
swapped_apart place (x ∷ y ∷ []) n was now = let one = was 1 y refl in let none = now 0 y refl in absurd (omega (arith, one, none))
swapped_apart place (x ∷ y ∷ z ∷ zs) n was now = absurd (omega (arith, n))

-- they are fresh as before
pub swapped_fresh : {E : Type 0} (count : E → ℕ) (pushed taken : E → ℕ → List Item) (ready : E → Type 0) (xs : List E) → length xs ≡ 2 → AllFresh count pushed taken ready xs → AllFresh count pushed taken ready (swap xs 0 1)
swapped_fresh count pushed taken ready [] n was = absurd (omega (arith, n))
swapped_fresh count pushed taken ready (x ∷ []) n was = absurd (omega (arith, n))
swapped_fresh {E} count pushed taken ready (x ∷ y ∷ []) n was = fresh_each
  where
    fresh_each : (k : ℕ) (e : E) → at (y ∷ x ∷ []) k e → IsFresh count pushed taken ready 2 e
    fresh_each zero e here = was 1 e here
    fresh_each (suc zero) e here = was 0 e here
    fresh_each (suc (suc k)) e here = absurd (cc)
swapped_fresh count pushed taken ready (x ∷ y ∷ z ∷ zs) n was = absurd (omega (arith, n))
