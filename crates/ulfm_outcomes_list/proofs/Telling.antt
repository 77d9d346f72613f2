-- What lists of places tell, list by list.
use Rattle.std.proofs.Common.{◌≡◌, ℕ, zero, suc, ◌+◌, ◌<◌, Bool, true, false, List, [], ◌∷◌, ◌++◌, drop, filter, fold, get_or, length, map, refl, ap, sym, ◌∙◌, append_assoc, arith, cond}

-- what is left of a list from a place, and from the next one
pub drop-get_or : {X : Type 0} (xs : List X) (i : ℕ) (d : X) → i < length xs → drop i xs ≡ get_or xs i d ∷ drop (i + 1) xs
drop-get_or [] i d low = absurd (omega (arith, low))
drop-get_or (y ∷ xs) zero d low = refl
drop-get_or (y ∷ xs) (suc i) d low =
    let next : suc i + 1 ≡ suc (i + 1) = omega arith in
    rw next (drop-get_or xs i d (omega (arith, low)))

-- what is left of a list from the place of an item: the item, and what is left from the next one
pub drop-item : {X : Type 0} (xs : List X) (i : ℕ) (x : X) → i < length xs → x ≡ get_or xs i x → drop i xs ≡ x ∷ drop (i + 1) xs
drop-item xs i x low is = drop-get_or xs i x low ∙ ap (λ y. y ∷ drop (i + 1) xs) (sym is)

-- one more item is folded in
pub fold-on : {X Y : Type 0} (f : Y → X → Y) (xs : List X) (i : ℕ) (x : X) (old new whole : Y) → i < length xs → x ≡ get_or xs i x → fold f old (drop i xs) ≡ whole → new ≡ f old x → fold f new (drop (i + 1) xs) ≡ whole
fold-on f xs i x old new whole low is so_far step = ap (λ y. fold f y (drop (i + 1) xs)) step ∙ sym (ap (fold f old) (drop-item xs i x low is)) ∙ so_far

module _ {X Y : Type 0} (p : X → Bool) (view : X → Y) (xs : List X) (i : ℕ) (x : X) (old whole : List Y) (low : i < length xs) (is : x ≡ get_or xs i x) (so_far : old ++ map view (filter p (drop i xs)) ≡ whole) where
  -- what is left, by whether the next item passes
  left : (b : Bool) → p x ≡ b → map view (filter p (drop i xs)) ≡ map view (cond b (x ∷ filter p (drop (i + 1) xs)) (filter p (drop (i + 1) xs)))
  left b passes = ap (λ ys. map view (filter p ys)) (drop-item xs i x low is) ∙ ap (λ c. map view (cond c (x ∷ filter p (drop (i + 1) xs)) (filter p (drop (i + 1) xs)))) passes

  -- an item that passes
  pub items-with : (new : List Y) → p x ≡ true → new ≡ old ++ view x ∷ [] → new ++ map view (filter p (drop (i + 1) xs)) ≡ whole
  items-with new passes pushed =
      ap (λ ys. ys ++ map view (filter p (drop (i + 1) xs))) pushed ∙ append_assoc old (view x ∷ []) (map view (filter p (drop (i + 1) xs)))
      ∙ sym (ap (λ ys. old ++ ys) (left true passes)) ∙ so_far

  -- one that doesn't
  pub items-without : p x ≡ false → old ++ map view (filter p (drop (i + 1) xs)) ≡ whole
  items-without fails = sym (ap (λ ys. old ++ ys) (left false fails)) ∙ so_far
