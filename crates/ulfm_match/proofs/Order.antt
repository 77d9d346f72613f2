-- Entries put in order of their numbers: the same ones, by rising numbers.
use Rattle.std.proofs.Common.{◌≡◌, ◌≢◌, ℕ, ◌<◌, ◌≤◌, ◌⊎◌, inl, inr, List, [], ◌∷◌, refl, ap, sym, ◌∙◌, arith, Bool, true, false, cond, Contains, nat_lt, nat_eq}
use Rattle.std.specs.Map.{keys_of}
use Rattle.std.specs.List.{IsDistinct, AllByRecursion}
use Rattle.ulfm_match.proofs.Common.{IsAscending, nat_tests, place, in_order}
use Rattle.std.proofs.lemmas.Map.Keys.{IsDistinct-head, IsDistinct-tail}
use Rattle.ulfm_match.proofs.Decide.{Contains-none, Contains-cons_cases, Contains-head, Contains-tail}
use Rattle.ulfm_match.proofs.Members.{all_of, all_from}

module _ {X : Type 0} where
  pub place_to : (x : ℕ × X) (ys : List (ℕ × X)) (z : ℕ × X) → Contains (place x ys) z → (x ≡ z) ⊎ Contains ys z
  place_to x [] z h = Contains-cons_cases x [] z h
  place_to x (y ∷ ys) z h = go (nat_lt x.0 y.0) h (place_to x ys z) where
    go : (b : Bool) → Contains (cond b (x ∷ y ∷ ys) (y ∷ place x ys)) z → (Contains (place x ys) z → (x ≡ z) ⊎ Contains ys z) → (x ≡ z) ⊎ Contains (y ∷ ys) z
    go true h more = Contains-cons_cases x (y ∷ ys) z h
    go false h more =
        elim (Contains-cons_cases y (place x ys) z h) [
          | inl e ↦ inr (rw (sym e) (Contains-head y ys))
          | inr t ↦ elim (more t) [ inl e ↦ inl e | inr k ↦ inr (Contains-tail y ys z k) ]
        ]

  pub place_here : (x : ℕ × X) (ys : List (ℕ × X)) → Contains (place x ys) x
  place_here x [] = Contains-head x []
  place_here x (y ∷ ys) =
      let more = place_here x ys in
      elim (nat_lt x.0 y.0) as (λ b. Contains (cond b (x ∷ y ∷ ys) (y ∷ place x ys)) x) [ true ↦ Contains-head x (y ∷ ys) | false ↦ Contains-tail y (place x ys) x more ]

  pub place_back : (x : ℕ × X) (ys : List (ℕ × X)) (z : ℕ × X) → Contains ys z → Contains (place x ys) z
  place_back x [] z h = absurd (Contains-none z h)
  place_back x (y ∷ ys) z h = go (nat_lt x.0 y.0) (place_back x ys z) where
    go : (b : Bool) → (Contains ys z → Contains (place x ys) z) → Contains (cond b (x ∷ y ∷ ys) (y ∷ place x ys)) z
    go true more = Contains-tail x (y ∷ ys) z h
    go false more =
        elim (Contains-cons_cases y ys z h) [
          | inl e ↦ rw (sym e) (Contains-head y (place x ys))
          | inr k ↦ Contains-tail y (place x ys) z (more k)
        ]

  pub ascending_place : (x : ℕ × X) (ys : List (ℕ × X)) → IsAscending ys → ((y : ℕ × X) → Contains ys y → x.0 ≢ y.0) → IsAscending (place x ys)
  ascending_place x [] a n = (tt, tt)
  ascending_place x (y ∷ ys) a n = go (nat_lt x.0 y.0) refl (ascending_place x ys a.1 (λ z k. n z (Contains-tail y ys z k))) where
    go : (b : Bool) → nat_lt x.0 y.0 ≡ b → IsAscending (place x ys) → IsAscending (cond b (x ∷ y ∷ ys) (y ∷ place x ys))
    go true e more =
        let l : x.0 < y.0 = grind (arith, nat_tests) in
        ((l, all_from (λ (z : ℕ × X). x.0 < z.0) ys (λ z k. let m = all_of (λ (w : ℕ × X). y.0 < w.0) ys z a.0 k in omega (arith, m))), a)
    go false e more =
        let g : y.0 ≤ x.0 = grind (arith, nat_tests) in
        let ne = n y (Contains-head y ys) in (
          all_from (λ (z : ℕ × X). y.0 < z.0) (place x ys)
              (λ z k. elim (place_to x ys z k) [
                | inl q ↦ rw (sym q) (let l : y.0 < x.0 = omega (arith, ne, g) in l)
                | inr m ↦ all_of (λ (w : ℕ × X). y.0 < w.0) ys z a.0 m
              ]),
          more,
        )

  pub in_order_to : (xs : List (ℕ × X)) (z : ℕ × X) → Contains (in_order xs) z → Contains xs z
  in_order_to [] z h = h
  in_order_to (x ∷ xs) z h =
      elim (place_to x (in_order xs) z h) [
        | inl e ↦ rw (sym e) (Contains-head x xs)
        | inr k ↦ Contains-tail x xs z (in_order_to xs z k)
      ]

  pub in_order_back : (xs : List (ℕ × X)) (z : ℕ × X) → Contains xs z → Contains (in_order xs) z
  in_order_back [] z h = h
  in_order_back (x ∷ xs) z h =
      elim (Contains-cons_cases x xs z h) [
        | inl e ↦ rw (sym e) (place_here x (in_order xs))
        | inr k ↦ place_back x (in_order xs) z (in_order_back xs z k)
      ]

  -- the head has another number than what follows
  other_number : (x : ℕ × X) (xs : List (ℕ × X)) → AllByRecursion (λ k. nat_eq x.0 k ≡ false) (keys_of xs) → (y : ℕ × X) → Contains xs y → x.0 ≢ y.0
  other_number x [] a y c = absurd (Contains-none y c)
  other_number x (z ∷ zs) a y c =
      elim (Contains-cons_cases z zs y c) [
        | inl e ↦ rw (sym e) (let f = a.0 in λ q. grind (arith, nat_tests))
        | inr t ↦ other_number x zs a.1 y t
      ]

  pub ascending_in_order : (xs : List (ℕ × X)) → IsDistinct nat_eq (keys_of xs) → IsAscending (in_order xs)
  ascending_in_order [] d = tt
  ascending_in_order (x ∷ xs) d =
      ascending_place x (in_order xs) (ascending_in_order xs (IsDistinct-tail nat_eq x.0 (keys_of xs) d))
      (λ y k. other_number x xs (IsDistinct-head nat_eq x.0 (keys_of xs) d) y (in_order_to xs y k))

  -- lists by rising numbers with the same members are equal
  pub same_members : (xs ys : List (ℕ × X)) → IsAscending xs → IsAscending ys → ((z : ℕ × X) → Contains xs z → Contains ys z) → ((z : ℕ × X) → Contains ys z → Contains xs z) → xs ≡ ys
  same_members [] [] a b to back = refl
  same_members [] (y ∷ ys) a b to back = absurd (Contains-none y (back y (Contains-head y ys)))
  same_members (x ∷ xs) [] a b to back = absurd (Contains-none x (to x (Contains-head x xs)))
  same_members (x ∷ xs) (y ∷ ys) a b to back =
      let first : x ≡ y = (elim (Contains-cons_cases y ys x (to x (Contains-head x xs))) [
        | inl e ↦ sym e
        | inr t ↦ elim (Contains-cons_cases x xs y (back y (Contains-head y ys))) [
          | inl e ↦ e
          | inr u ↦ absurd (let k = all_of (λ (w : ℕ × X). y.0 < w.0) ys x b.0 t in let l = all_of (λ (w : ℕ × X). x.0 < w.0) xs y a.0 u in omega (arith, k, l))
        ]
      ]) in
      let rest : xs ≡ ys = same_members xs ys a.1 b.1
      (λ z c. elim (Contains-cons_cases y ys z (to z (Contains-tail x xs z c))) [
        | inl e ↦ absurd (let k = all_of (λ (w : ℕ × X). x.0 < w.0) xs z a.0 c in let q : x.0 ≡ z.0 = ap (λ (w : ℕ × X). w.0) first ∙ ap (λ (w : ℕ × X). w.0) e in omega (arith, k, q))
        | inr t ↦ t
      ])
      (λ z c. elim (Contains-cons_cases x xs z (back z (Contains-tail y ys z c))) [
        | inl e ↦ absurd (let k = all_of (λ (w : ℕ × X). y.0 < w.0) ys z b.0 c in let q : y.0 ≡ z.0 = sym (ap (λ (w : ℕ × X). w.0) first) ∙ ap (λ (w : ℕ × X). w.0) e in omega (arith, k, q))
        | inr t ↦ t
      ]) in
      ap (λ zs. x ∷ zs) rest ∙ ap (λ z. z ∷ ys) first
