-- Members of lists, filtered or not.
use Rattle.std.proofs.Common.{◌≡◌, inl, inr, List, [], ◌∷◌, refl, sym, subst, Bool, true, false, cond, Contains, filter}
use Rattle.std.specs.List.{AllByRecursion}
use Rattle.ulfm_match.proofs.Decide.{Contains-none, Contains-cons_cases, Contains-head, Contains-tail}
use Rattle.ulfm_match.proofs.Common.{Keeps}

module _ {X : Type 0} where
  pub all_of : (P : X → Type 0) (xs : List X) (x : X) → AllByRecursion P xs → Contains xs x → P x
  all_of P [] x a h = absurd (Contains-none x h)
  all_of P (y ∷ ys) x a h = elim (Contains-cons_cases y ys x h) [ inl e ↦ subst P e a.0 | inr t ↦ all_of P ys x a.1 t ]

  pub all_from : (P : X → Type 0) (xs : List X) → ((x : X) → Contains xs x → P x) → AllByRecursion P xs
  all_from P [] f = tt
  all_from P (y ∷ ys) f = (f y (Contains-head y ys), all_from P ys (λ x h. f x (Contains-tail y ys x h)))

  -- one step of `filter`, at the outcome b of the test
  kept_from : (test : X → Bool) (y : X) (rest zs : List X) (x : X) → (Contains rest x → Contains zs x × (test x ≡ true)) → (b : Bool) → test y ≡ b → Contains (cond b (y ∷ rest) rest) x → Contains (y ∷ zs) x × (test x ≡ true)
  kept_from test y rest zs x more true e h =
      elim (Contains-cons_cases y rest x h) [
        | inl q ↦ (rw (sym q) (Contains-head y zs), rw (sym q) e)
        | inr t ↦ let k = more t in (Contains-tail y zs x k.0, k.1)
      ]
  kept_from test y rest zs x more false e h = let k = more h in (Contains-tail y zs x k.0, k.1)

  pub Contains-filter : (test : X → Bool) (xs : List X) (x : X) → Contains (filter test xs) x → Contains xs x × (test x ≡ true)
  Contains-filter test [] x h = absurd (Contains-none x h)
  Contains-filter test (y ∷ ys) x h = kept_from test y (filter test ys) ys x (Contains-filter test ys x) (test y) refl h

  kept_to : (test : X → Bool) (y : X) (rest zs : List X) (x : X) → (Contains zs x → Contains rest x) → (b : Bool) → test y ≡ b → Contains (y ∷ zs) x → test x ≡ true → Contains (cond b (y ∷ rest) rest) x
  kept_to test y rest zs x more true e h t =
      elim (Contains-cons_cases y zs x h) [
        | inl q ↦ rw (sym q) (Contains-head y rest)
        | inr k ↦ Contains-tail y rest x (more k)
      ]
  kept_to test y rest zs x more false e h t =
      elim (Contains-cons_cases y zs x h) [
        | inl q ↦ let f : test x ≡ false = rw (sym q) e in cc
        | inr k ↦ more k
      ]

  pub filter-Contains : (test : X → Bool) (xs : List X) (x : X) → Contains xs x → test x ≡ true → Contains (filter test xs) x
  filter-Contains test [] x h t = absurd (Contains-none x h)
  filter-Contains test (y ∷ ys) x h t = kept_to test y (filter test ys) ys x (λ k. filter-Contains test ys x k t) (test y) refl h t

  -- what the test lets stay, as members
  pub filter_keeps : (P : X → Type 0) (test : X → Bool) (xs old new : List X) → xs ≡ old → new ≡ filter test xs → ((x : X) → test x ≡ true → P x) → ((x : X) → P x → test x ≡ true) → Keeps P old new
  filter_keeps P test xs old new e f to back =
      subst (λ zs. Keeps P zs new) e (subst (Keeps P xs) (sym f)
      (λ x. (λ h. let g = Contains-filter test xs x h in (g.0, to x g.1), λ h. filter-Contains test xs x h.0 (back x h.1))))
