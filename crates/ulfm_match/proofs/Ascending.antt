-- Lists by rising numbers, as they grow, are filtered, follow one another or lose an entry.
use Rattle.std.proofs.Common.{◌≡◌, ◌≢◌, ℕ, ◌<◌, inl, inr, List, [], ◌∷◌, ◌++◌, ap, sym, subst, arith, Bool, true, false, cond, Contains, filter}
use Rattle.ulfm_match.proofs.Common.{IsAscending, Contains-append_cases, Contains-append_left, Contains-append_right, Contains-push_cases}
use Rattle.ulfm_match.proofs.Decide.{Contains-none, Contains-cons_cases, Contains-head, Contains-tail}
use Rattle.ulfm_match.proofs.Members.{all_of, all_from, Contains-filter}

module _ {X : Type 0} where
  pub ascending_push : (xs : List (ℕ × X)) (z : ℕ × X) → IsAscending xs → ((y : ℕ × X) → Contains xs y → y.0 < z.0) → IsAscending (xs ++ z ∷ [])
  ascending_push [] z a f = (tt, tt)
  ascending_push (x ∷ xs) z a f = (
    all_from (λ (y : ℕ × X). x.0 < y.0) (xs ++ z ∷ [])
        (λ y h. elim (Contains-push_cases xs z y h) [
          | inl k ↦ all_of (λ (w : ℕ × X). x.0 < w.0) xs y a.0 k
          | inr e ↦ rw (sym e) (f x (Contains-head x xs))
        ]),
    ascending_push xs z a.1 (λ y h. f y (Contains-tail x xs y h)),
  )

  pub ascending_filter : (test : ℕ × X → Bool) (xs : List (ℕ × X)) → IsAscending xs → IsAscending (filter test xs)
  ascending_filter test [] a = tt
  ascending_filter test (x ∷ xs) a =
      let more = ascending_filter test xs a.1 in
      let above = all_from (λ (y : ℕ × X). x.0 < y.0) (filter test xs) (λ y h. all_of (λ (w : ℕ × X). x.0 < w.0) xs y a.0 (Contains-filter test xs y h).0) in
      elim (test x) as (λ b. IsAscending (cond b (x ∷ filter test xs) (filter test xs))) [ true ↦ (above, more) | false ↦ more ]

  -- one after the other
  pub ascending_both : (xs ys : List (ℕ × X)) → IsAscending xs → IsAscending ys → ((y z : ℕ × X) → Contains xs y → Contains ys z → y.0 < z.0) → IsAscending (xs ++ ys)
  ascending_both [] ys a b f = b
  ascending_both (x ∷ xs) ys a b f = (
    all_from (λ (y : ℕ × X). x.0 < y.0) (xs ++ ys)
        (λ y h. elim (Contains-append_cases xs ys y h) [
          | inl k ↦ all_of (λ (w : ℕ × X). x.0 < w.0) xs y a.0 k
          | inr k ↦ f x y (Contains-head x xs) k
        ]),
    ascending_both xs ys a.1 b (λ y z c d. f y z (Contains-tail x xs y c) d),
  )

  ascending_tail : (front back : List (ℕ × X)) → IsAscending (front ++ back) → IsAscending back
  ascending_tail [] back a = a
  ascending_tail (x ∷ xs) back a = ascending_tail xs back a.1

  -- what stands before has a lower number
  ascending_across : (front back : List (ℕ × X)) (y z : ℕ × X) → IsAscending (front ++ back) → Contains front y → Contains back z → y.0 < z.0
  ascending_across [] back y z a h k = absurd (Contains-none y h)
  ascending_across (x ∷ xs) back y z a h k =
      elim (Contains-cons_cases x xs y h) [
        | inl e ↦ subst (λ (w : ℕ × X). w.0 < z.0) e (all_of (λ (w : ℕ × X). x.0 < w.0) (xs ++ back) z a.0 (Contains-append_right xs back z k))
        | inr t ↦ ascending_across xs back y z a.1 t k
      ]

  pub ascending_without : (front back : List (ℕ × X)) (z : ℕ × X) → IsAscending (front ++ z ∷ back) → IsAscending (front ++ back)
  ascending_without [] back z a = a.1
  ascending_without (x ∷ xs) back z a = (
    all_from (λ (y : ℕ × X). x.0 < y.0) (xs ++ back)
        (λ y h. all_of (λ (w : ℕ × X). x.0 < w.0) (xs ++ z ∷ back) y a.0
        (elim (Contains-append_cases xs back y h) [
          | inl k ↦ Contains-append_left xs (z ∷ back) y k
          | inr k ↦ Contains-append_right xs (z ∷ back) y (Contains-tail z back y k)
        ])),
    ascending_without xs back z a.1,
  )

  module _ (front back : List (ℕ × X)) (z : ℕ × X) (a : IsAscending (front ++ z ∷ back)) where
    -- what is left has other numbers
    pub left_to : (y : ℕ × X) → Contains (front ++ back) y → Contains (front ++ z ∷ back) y × (y.0 ≢ z.0)
    left_to y h =
        elim (Contains-append_cases front back y h) [
          | inl k ↦
              let l = ascending_across front (z ∷ back) y z a k (Contains-head z back) in
              (Contains-append_left front (z ∷ back) y k, λ e. omega (arith, l))
          | inr k ↦
              let l = all_of (λ (w : ℕ × X). z.0 < w.0) back y (ascending_tail front (z ∷ back) a).0 k in
              (Contains-append_right front (z ∷ back) y (Contains-tail z back y k), λ e. omega (arith, l))
        ]

    pub left_back : (y : ℕ × X) → Contains (front ++ z ∷ back) y → y.0 ≢ z.0 → Contains (front ++ back) y
    left_back y h n =
        elim (Contains-append_cases front (z ∷ back) y h) [
          | inl k ↦ Contains-append_left front back y k
          | inr k ↦ elim (Contains-cons_cases z back y k) [
            | inl e ↦ absurd (n (ap (λ (w : ℕ × X). w.0) (sym e)))
            | inr t ↦ Contains-append_right front back y t
          ]
        ]

    -- what has a lower number stands before
    pub left_below : (y : ℕ × X) → Contains (front ++ z ∷ back) y → y.0 < z.0 → Contains front y
    left_below y h l =
        elim (Contains-append_cases front (z ∷ back) y h) [
          | inl k ↦ k
          | inr k ↦ elim (Contains-cons_cases z back y k) [
            | inl e ↦ absurd (let q : z.0 ≡ y.0 = ap (λ (w : ℕ × X). w.0) e in omega arith)
            | inr t ↦ absurd (let m = all_of (λ (w : ℕ × X). z.0 < w.0) back y (ascending_tail front (z ∷ back) a).0 t in omega (arith, m))
          ]
        ]
