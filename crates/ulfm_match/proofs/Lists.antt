-- How the list of what is live goes from one history to the next.
use Rattle.std.proofs.Common.{◌≡◌, ℕ, ◌<◌, ◌⊎◌, inl, inr, List, [], ◌∷◌, ◌++◌, ap, sym, ◌∙◌, subst, Contains}
use Rattle.ulfm_match.proofs.Common.{MatchEvent, count_before, IsAscending, Lists, Contains-append_left, Contains-push, Contains-push_cases}
use Rattle.ulfm_match.proofs.Ascending.{ascending_push}

module _ {X : Type 0} {h h' : List MatchEvent} {P P' : ℕ → X → Type 0} {xs : List (ℕ × X)} (l : Lists h P xs) (num : (i : ℕ) (x : X) → P i x → count_before h' i ≡ count_before h i) where
  pub lists_sub : {ys : List (ℕ × X)} (Q : ℕ × X → Type 0) → IsAscending ys → ((y : ℕ × X) → Contains ys y → Contains xs y × Q y) → ((y : ℕ × X) → Contains xs y → Q y → Contains ys y) → ((i : ℕ) (x : X) → P i x → Q (count_before h i, x) → P' i x) → ((i : ℕ) (x : X) → P' i x → P i x × Q (count_before h i, x)) → Lists h' P' ys
  lists_sub {ys} Q a mem_to mem_back to back = record {
    ascending = a;
    sound = λ k x c.
        let m = mem_to (k, x) c in
        let s = l.sound k x m.0 in
        (s.0, num s.0 x s.2 ∙ s.1, to s.0 x s.2 (rw s.1 m.1));
    complete = λ i x p.
        let q = back i x p in
        rw (num i x q.0) (mem_back (count_before h i, x) (l.complete i x q.0) q.1);
  }

  pub lists_same : ((i : ℕ) (x : X) → P i x → P' i x) → ((i : ℕ) (x : X) → P' i x → P i x) → Lists h' P' xs
  lists_same to back = lists_sub (λ y. Unit {0}) l.ascending (λ y c. (c, tt)) (λ y c u. c) (λ i x p u. to i x p) (λ i x p. (back i x p, tt))

  pub lists_push : (n : ℕ) (z : X) (k : ℕ) → count_before h' n ≡ k → ((i : ℕ) (x : X) → P i x → count_before h i < k) → P' n z → ((i : ℕ) (x : X) → P i x → P' i x) → ((i : ℕ) (x : X) → P' i x → P i x ⊎ ((i ≡ n) × (z ≡ x))) → Lists h' P' (xs ++ (k, z) ∷ [])
  lists_push n z k nk below new to back = record {
    ascending = ascending_push xs (k, z) l.ascending (λ y c. let s = l.sound y.0 y.1 c in rw (sym s.1) (below s.0 y.1 s.2));
    sound = λ j x c.
        elim (Contains-push_cases xs (k, z) (j, x) c) [
          | inl d ↦ let s = l.sound j x d in (s.0, num s.0 x s.2 ∙ s.1, to s.0 x s.2)
          | inr e ↦ (n, nk ∙ ap (λ (w : ℕ × X). w.0) e, subst (P' n) (ap (λ (w : ℕ × X). w.1) e) new)
        ];
    complete = λ i x p.
        elim (back i x p) [
          | inl q ↦ rw (num i x q) (Contains-append_left xs ((k, z) ∷ []) (count_before h i, x) (l.complete i x q))
          | inr e ↦
              let nums : count_before h' i ≡ k = ap (count_before h') e.0 ∙ nk in
              subst (Contains (xs ++ (k, z) ∷ [])) (let same : ◌≡◌ {A = ℕ × X} (k, z) (count_before h' i, x) = (let a = sym nums in let b = e.1 in cc) in same) (Contains-push xs (k, z))
        ];
  }
