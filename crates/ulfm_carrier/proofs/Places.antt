-- Lists looked up by place, after a write at one place.
use Rattle.std.proofs.Common.{◌≡◌, ◌≢◌, ◌<◌, ◌≤◌, ◌+◌, ◌⊎◌, inl, inr, ◌++◌, ℕ, zero, suc, List, [], ◌∷◌, length, map, set, get_or, Some, refl, ap, sym, ◌∙◌, arith, subst, slice_get}
use Rattle.std.proofs.lemmas.List.{map-set, length-map, get_or-set_other, get_or-set_same}
use Rattle.std.proofs.lemmas.Option.{slice_get-get_or, slice_get_within, get_or_from_slice_get}
use mathlib.Core.List.{IsPrefix}
use Rattle.ulfm_carrier.proofs.Common.{at, at_view, map-append}

pub at_read : {X : Type 0} (xs : List X) (k : ℕ) {x : X} → k < length xs → x ≡ get_or xs k x → at xs k x
at_read xs k {x} low here = slice_get-get_or xs k x low ∙ ap Some (sym here)

pub view_or : {X Y : Type 0} (f : X → Y) (xs : List X) (k : ℕ) {x : X} (d : Y) → at xs k x → get_or (map f xs) k d ≡ f x
view_or f xs k {x} d h = get_or_from_slice_get (map f xs) k (f x) d (at_view f xs k x h)

pub view_other : {X Y : Type 0} (f : X → Y) (xs : List X) (k p : ℕ) (x : X) (d : Y) → p ≢ k → get_or (map f (set xs k x)) p d ≡ get_or (map f xs) p d
view_other f xs k p x d apart = ap (λ l. get_or l p d) (map-set f xs k x) ∙ get_or-set_other (map f xs) k p (f x) d apart

pub view_here : {X Y : Type 0} (f : X → Y) (xs : List X) (k : ℕ) (x : X) (d : Y) → k < length xs → get_or (map f (set xs k x)) k d ≡ f x
view_here f xs k x d low = ap (λ l. get_or l k d) (map-set f xs k x) ∙ get_or-set_same (map f xs) k (f x) d (subst (λ n. k < n) (sym (length-map xs f)) low)

-- a write at k leaves the other places
pub at_other : {X : Type 0} (xs : List X) (k j : ℕ) (x : X) → j ≢ k → slice_get (set xs k x) j ≡ slice_get xs j
at_other [] k j x apart = refl
at_other (y ∷ xs) zero zero x apart = absurd (apart refl)
at_other (y ∷ xs) zero (suc j) x apart = refl
at_other (y ∷ xs) (suc k) zero x apart = refl
at_other (y ∷ xs) (suc k) (suc j) x apart = at_other xs k j x (λ e. apart (ap suc e))

pub at_here : {X : Type 0} (xs : List X) (k : ℕ) (x : X) → k < length xs → at (set xs k x) k x
at_here [] k x low = absurd (omega (arith, low))
at_here (y ∷ xs) zero x low = refl
at_here (y ∷ xs) (suc k) x low = at_here xs k x (omega (arith, low))

-- what holds of each element past k still does after a write at k
pub each_past : {X : Type 0} (P : ℕ → X → Type 0) (xs : List X) (k : ℕ) (x : X) → ((j : ℕ) (y : X) → k ≤ j → at xs j y → P j y) → (j : ℕ) (y : X) → k + 1 ≤ j → at (set xs k x) j y → P j y
each_past P xs k x each j y past here = each j y (omega arith) (sym (at_other xs k j x (λ e. absurd (omega arith))) ∙ here)

pub at_push : {X : Type 0} (xs : List X) (x : X) (j : ℕ) {y : X} → at (xs ++ x ∷ []) j y → ((j < length xs) × at xs j y) ⊎ ((j ≡ length xs) × (y ≡ x))
at_push [] x zero here = inr (refl, cc)
at_push [] x (suc j) here = absurd (cc)
at_push (z ∷ xs) x zero here = inl (omega arith, here)
at_push (z ∷ xs) x (suc j) {y} here = elim (at_push xs x j here) [ inl h ↦ inl (let a = h.0 in omega arith, h.1) | inr h ↦ inr (ap suc h.0, h.1) ]

-- after a write at k there stands what was written at k, and else what stood there
pub at_set : {X : Type 0} (xs : List X) (k : ℕ) (x : X) (j : ℕ) {y : X} → at (set xs k x) j y → ((j ≡ k) × (y ≡ x)) ⊎ ((j ≢ k) × at xs j y)
at_set [] k x j here = absurd (cc)
at_set (z ∷ xs) zero x zero here = inl (refl, cc)
at_set (z ∷ xs) zero x (suc j) here = inr (λ e. absurd (omega (arith, e)), here)
at_set (z ∷ xs) (suc k) x zero here = inr (λ e. absurd (omega (arith, e)), here)
at_set (z ∷ xs) (suc k) x (suc j) {y} here = elim (at_set xs k x j here) [ inl h ↦ inl (ap suc h.0, h.1) | inr h ↦ inr (λ e. h.0 (omega (arith, e)), h.1) ]

-- what holds of each other element with its place, and of what is written, holds of each after the write
pub each_set : {X : Type 0} (P : ℕ → X → Type 0) (xs : List X) (k : ℕ) (x : X) → ((j : ℕ) (y : X) → j ≢ k → at xs j y → P j y) → P k x → (j : ℕ) (y : X) → at (set xs k x) j y → P j y
each_set P xs k x others here j y h = elim (at_set xs k x j h) [ inl e ↦ subst (λ n. P n y) (sym e.0) (subst (P k) (sym e.1) here) | inr e ↦ others j y e.0 e.1 ]

-- what holds of each does so after a write of what it holds of
pub still_each : {X : Type 0} (P : X → Type 0) (xs : List X) (k : ℕ) (x : X) → P x → ((j : ℕ) (y : X) → at xs j y → P y) → (j : ℕ) (y : X) → at (set xs k x) j y → P y
still_each P xs k x here each = each_set (λ _. P) xs k x (λ j y _ h. each j y h) here

-- what holds of each element with its place still does with one more
pub each_push : {X : Type 0} (P : ℕ → X → Type 0) (xs : List X) (x : X) (k : ℕ) → length xs ≡ k → ((j : ℕ) (y : X) → at xs j y → P j y) → P k x → (j : ℕ) (y : X) → at (xs ++ x ∷ []) j y → P j y
each_push P xs x k many each here j y is = elim (at_push xs x j is) [ inl h ↦ each j y h.1 | inr h ↦ subst (λ n. P n y) (sym many ∙ sym h.0) (subst (P k) (sym h.1) here) ]

pub none_at : {X : Type 0} (xs : List X) (k : ℕ) {x : X} → length xs ≡ 0 → at xs k x → ⊥
none_at xs k {x} none here = omega (arith, slice_get_within xs k x here)

pub view_pushed : {X Y : Type 0} (f : X → Y) (xs : List X) (x : X) (k : ℕ) → length xs ≡ k → slice_get (map f (xs ++ x ∷ [])) k ≡ Some (f x)
view_pushed f [] x zero many = refl
view_pushed f [] x (suc k) many = absurd (omega (arith, many))
view_pushed f (y ∷ xs) x zero many = absurd (omega (arith, many))
view_pushed f (y ∷ xs) x (suc k) many = view_pushed f xs x k (omega (arith, many))

pub view_unpushed : {X Y : Type 0} (f : X → Y) (xs : List X) (x : X) (k : ℕ) → k ≢ length xs → slice_get (map f (xs ++ x ∷ [])) k ≡ slice_get (map f xs) k
view_unpushed f [] x zero apart = absurd (apart refl)
view_unpushed f [] x (suc k) apart = refl
view_unpushed f (y ∷ xs) x zero apart = refl
view_unpushed f (y ∷ xs) x (suc k) apart = view_unpushed f xs x k (λ e. apart (ap suc e))

-- what grew at k grew there after the write
pub prefix_here : {X Y : Type 0} (f : X → List Y) (xs : List X) (k : ℕ) {x : X} (y : X) → k < length xs → x ≡ get_or xs k x → IsPrefix (f x) (f y) → IsPrefix (get_or (map f xs) k []) (get_or (map f (set xs k y)) k [])
prefix_here f xs k y low here more = (more.0, ap (λ l. l ++ more.0) (view_or f xs k [] (at_read xs k low here)) ∙ more.1 ∙ sym (view_here f xs k y [] low))

pub prefix_map : {X Y : Type 0} (f : X → Y) (xs ys : List X) → IsPrefix xs ys → IsPrefix (map f xs) (map f ys)
prefix_map f xs ys more = (map f more.0, sym (map-append f xs more.0) ∙ ap (map f) more.1)
