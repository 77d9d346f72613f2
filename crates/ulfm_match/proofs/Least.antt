-- The entry of the least number that passes.
use Rattle.std.proofs.Common.{◌≡◌, ℕ, ◌<◌, ◌≤◌, ◌⊎◌, inl, inr, List, [], ◌∷◌, ap, sym, subst, arith, Contains, filter, not, ◌==◌, Bool}
use Rattle.ulfm_match.proofs.Common.{IsAscending}
use Rattle.ulfm_match.proofs.Decide.{Either, Contains-none, Contains-cons_cases, Contains-head, Contains-tail}
use Rattle.ulfm_match.proofs.EndSteps.{other_context, passes_context}
use Rattle.ulfm_match.proofs.Members.{all_of, Contains-filter, filter-Contains}
use Rattle.ulfm_match.proofs.Ascending.{ascending_filter}
pub use Rattle.ulfm_match.specs.inside.Pools.{IsLeast, TakesLeast}

module _ {X : Type 0} (P : ℕ × X → Type 0) where
  -- the least one can be taken out
  pub least_out : (xs : List (ℕ × X)) → IsAscending xs → (z : ℕ × X) → IsLeast P xs z → (ys : List (ℕ × X)) × TakesLeast P xs ys z
  least_out xs a z l =
      let W : ℕ × X → Bool = λ y. not (y.0 == z.0) in (
        filter W xs,
        record {
          there = l.there;
          passes = l.passes;
          least = l.least;
          ascending = ascending_filter W xs a;
          left_to = λ y c. let k = Contains-filter W xs y c in (k.0, other_context y.0 z.0 k.1);
          left_back = λ y c n. filter-Contains W xs y c (passes_context y.0 z.0 n);
        },
      )

module _ {X : Type 0} (P : ℕ × X → Type 0) (d : (y : ℕ × X) → Either (P y)) where
  least_of : (xs : List (ℕ × X)) → IsAscending xs → ((z : ℕ × X) × Contains xs z × P z × ((y : ℕ × X) → Contains xs y → P y → z.0 ≤ y.0)) ⊎ ((y : ℕ × X) → Contains xs y → P y → ⊥)
  least_of [] a = inr (λ y c p. Contains-none y c)
  least_of (x ∷ xs) a = elim (d x) [
    | inl p ↦ inl (
      x,
      Contains-head x xs,
      p,
      λ y c q. elim (Contains-cons_cases x xs y c) [
        | inl e ↦ (let n : x.0 ≡ y.0 = ap (λ (w : ℕ × X). w.0) e in omega (arith, n))
        | inr t ↦ (let l = all_of (λ (w : ℕ × X). x.0 < w.0) xs y a.0 t in omega (arith, l))
      ],
    )
    | inr n ↦ elim (least_of xs a.1) [
      | inl f ↦ inl (f.0, Contains-tail x xs f.0 f.1, f.2, λ y c q. elim (Contains-cons_cases x xs y c) [ inl e ↦ absurd (n (subst P (sym e) q)) | inr t ↦ f.3 y t q ])
      | inr none ↦ inr (λ y c q. elim (Contains-cons_cases x xs y c) [ inl e ↦ n (subst P (sym e) q) | inr t ↦ none y t q ])
    ]
  ]

  -- it can be taken out, or none passes
  pub take_least : (xs : List (ℕ × X)) → IsAscending xs → ((ys : List (ℕ × X)) × (z : ℕ × X) × TakesLeast P xs ys z) ⊎ ((y : ℕ × X) → Contains xs y → P y → ⊥)
  take_least xs a = elim (least_of xs a) [
    | inr none ↦ inr none
    | inl f ↦ let out = least_out P xs a f.0 (record { there = f.1; passes = f.2; least = f.3 }) in inl (out.0, f.0, out.1)
  ]
