-- Numbers in rising order, as they grow or are filtered, and a search that found none so far.
use Rattle.std.proofs.Common.{◌≡◌, ℕ, suc, ◌+◌, ◌≤◌, ◌<◌, inl, inr, List, [], ◌∷◌, ◌++◌, length, take, drop, get_or, ap, sym, ◌∙◌, subst, arith, Bool, true, false, cond, Contains, filter}
use Rattle.ulfm_match.proofs.Common.{Contains-append_cases, Contains-append_left, Contains-push_cases, Rises}
use Rattle.std.proofs.lemmas.List.{take_more, take_all, take-append-drop}
use Rattle.std.proofs.Math.Seq.{drop-cons}
use Rattle.ulfm_match.proofs.Decide.{Contains-cons_cases, Contains-head, Contains-tail}
use Rattle.ulfm_match.proofs.Members.{all_of, all_from, Contains-filter}

pub rises_push : (ns : List ℕ) (n : ℕ) → Rises ns → ((m : ℕ) → Contains ns m → m ≤ n) → Rises (ns ++ n ∷ [])
rises_push [] n r f = (tt, tt)
rises_push (k ∷ ns) n r f = (
  all_from (λ m. k ≤ m) (ns ++ n ∷ [])
      (λ m c. elim (Contains-push_cases ns n m c) [ inl d ↦ all_of (λ m. k ≤ m) ns m r.0 d | inr e ↦ rw (sym e) (f k (Contains-head k ns)) ]),
  rises_push ns n r.1 (λ m c. f m (Contains-tail k ns m c)),
)

pub rises_filter : (test : ℕ → Bool) (ns : List ℕ) → Rises ns → Rises (filter test ns)
rises_filter test [] r = tt
rises_filter test (k ∷ ns) r =
    let more = rises_filter test ns r.1 in
    let above = all_from (λ m. k ≤ m) (filter test ns) (λ m c. all_of (λ m. k ≤ m) ns m r.0 (Contains-filter test ns m c).0) in
    elim (test k) as (λ b. Rises (cond b (k ∷ filter test ns) (filter test ns))) [ true ↦ (above, more) | false ↦ more ]

rises_back : (front back : List ℕ) → Rises (front ++ back) → Rises back
rises_back [] back r = r
rises_back (k ∷ front) back r = rises_back front back r.1

pub rises_front : (front back : List ℕ) → Rises (front ++ back) → Rises front
rises_front [] back r = tt
rises_front (k ∷ front) back r = (
  all_from (λ m. k ≤ m) front (λ m c. all_of (λ m. k ≤ m) (front ++ back) m r.0 (Contains-append_left front back m c)),
  rises_front front back r.1,
)

-- what doesn't stand before a number is no less
pub no_less : (ns : List ℕ) (k n : ℕ) → Rises ns → k < length ns → n ≡ get_or ns k n → (m : ℕ) → Contains ns m → (Contains (take k ns) m → ⊥) → n ≤ m
no_less ns k n r l is m c not_before =
    let old_is : ns ≡ take k ns ++ n ∷ drop (suc k) ns = sym (take-append-drop k ns) ∙ ap (λ zs. take k ns ++ zs) (drop-cons ns k n l ∙ ap (λ z. z ∷ drop (suc k) ns) (sym is)) in
    elim (Contains-append_cases (take k ns) (n ∷ drop (suc k) ns) m (rw (sym old_is) c)) [
      | inl d ↦ absurd (not_before d)
      | inr d ↦ elim (Contains-cons_cases n (drop (suc k) ns) m d) [
        | inl e ↦ (let q : n ≡ m = e in omega (arith, q))
        | inr t ↦ all_of (λ m. n ≤ m) (drop (suc k) ns) m (rises_back (take k ns) (n ∷ drop (suc k) ns) (subst Rises old_is r)).0 t
      ]
    ]

module _ {X : Type 0} (P : X → Type 0) (xs : List X) where
  -- one more element that P doesn't hold of
  pub none_more : (k : ℕ) (x : X) → k < length xs → x ≡ get_or xs k x → ((y : X) → Contains (take k xs) y → P y → ⊥) → (P x → ⊥) → (y : X) → Contains (take (k + 1) xs) y → P y → ⊥
  none_more k x l is before here y c p =
      let c' : Contains (take k xs ++ get_or xs k x ∷ []) y = subst (λ zs. Contains zs y) (take_more xs k x l) c in
      elim (Contains-push_cases (take k xs) (get_or xs k x) y c') [
        | inl d ↦ before y d p
        | inr e ↦ here (subst P (sym (is ∙ e)) p)
      ]

  none_next : (k m : ℕ) (x : X) → m ≡ k + 1 → k < length xs → x ≡ get_or xs k x → ((y : X) → Contains (take k xs) y → P y → ⊥) → (P x → ⊥) → (y : X) → Contains (take m xs) y → P y → ⊥
  none_next k m x e l is before here y c p = none_more k x l is before here y (subst (λ n. Contains (take n xs) y) e c) p

  -- four more
  pub none_four : (k : ℕ) (x1 x2 x3 x4 : X) → k + 4 ≤ length xs → x1 ≡ get_or xs k x1 → x2 ≡ get_or xs (k + 1) x2 → x3 ≡ get_or xs (k + 2) x3 → x4 ≡ get_or xs (k + 3) x4 → ((y : X) → Contains (take k xs) y → P y → ⊥) → (P x1 → ⊥) → (P x2 → ⊥) → (P x3 → ⊥) → (P x4 → ⊥) → (y : X) → Contains (take (k + 4) xs) y → P y → ⊥
  none_four k x1 x2 x3 x4 l is1 is2 is3 is4 before no1 no2 no3 no4 =
      none_next (k + 3) (k + 4) x4 (omega arith) (omega (arith, l)) is4
      (none_next (k + 2) (k + 3) x3 (omega arith) (omega (arith, l)) is3
      (none_next (k + 1) (k + 2) x2 (omega arith) (omega (arith, l)) is2
      (none_more k x1 (omega (arith, l)) is1 before no1) no2) no3) no4

  pub none_all : (n : ℕ) → length xs ≤ n → ((y : X) → Contains (take n xs) y → P y → ⊥) → (y : X) → Contains xs y → P y → ⊥
  none_all n l before y c p = before y (rw (take_all n xs l) c) p
