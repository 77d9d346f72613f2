-- The ends of the receives of which a test holds.
use Rattle.std.proofs.Common.{◌≡◌, ℕ, zero, suc, ◌+◌, inl, inr, Bool, true, false, cond, List, [], ◌∷◌, ◌++◌, refl, ap, sym, ◌∙◌, subst, arith, Contains, Some, ◌==◌, eqb-true}
use Rattle.ulfm_rank.proofs.Common.{Pattern, Contains-append_left, Contains-append_right, Contains-append_cases, MatchEvent, Post, Come, End, Clear, PostAt, count_before, end_at, end_numbered, ends_from, eq-eqb, same_number}
use Rattle.ulfm_match.proofs.Decide.{Contains-none, Contains-head, Contains-cons_cases}
use Rattle.ulfm_match.proofs.Ends.{AreEnds}

module _ (test : ℕ → Pattern → Bool) where
  -- an end of the receive at the place i of these events, the first of which stands at k
  abbrev pub IsTestedAt : ℕ → List MatchEvent → MatchEvent → Type 0
  IsTestedAt k h x = (i : ℕ) × (p : Pattern) × (x ≡ End (k + i)) × PostAt h i p × (test (k + i) p ≡ true)

  here : (k : ℕ) (e x : MatchEvent) (h : List MatchEvent) → Contains (end_at test k e) x → IsTestedAt k (e ∷ h) x
  here k (Post p) x h c = pick (test k p) refl c
    where
      pick : (b : Bool) → test k p ≡ b → Contains (cond b (End k ∷ []) []) x → IsTestedAt k (Post p ∷ h) x
      pick true e c = elim (Contains-cons_cases (End k) [] x c) [
        | inl f ↦ let g : k ≡ k + 0 = omega arith in (0, p, sym f ∙ ap End g, refl, ap (λ m. test m p) (sym g) ∙ e)
        | inr f ↦ absurd (Contains-none x f)
      ]
      pick false e c = absurd (Contains-none x c)
  here k (Come l) x h c = absurd (Contains-none x c)
  here k (End i) x h c = absurd (Contains-none x c)
  here k (Clear d) x h c = absurd (Contains-none x c)

  pub sound_from : (k : ℕ) (h : List MatchEvent) (x : MatchEvent) → Contains (ends_from test k h) x → IsTestedAt k h x
  sound_from k [] x c = absurd (Contains-none x c)
  sound_from k (e ∷ h) x c =
      elim (Contains-append_cases (end_at test k e) (ends_from test (suc k) h) x c) [
        | inl f ↦ here k e x h f
        | inr f ↦
            let r = sound_from (suc k) h x f in
            let g : suc k + r.0 ≡ k + suc r.0 = omega arith in
            (suc r.0, r.1, r.2 ∙ ap End g, r.3, ap (λ m. test m r.1) (sym g) ∙ r.4)
      ]

  pub complete_from : (k : ℕ) (h : List MatchEvent) (i : ℕ) (p : Pattern) → PostAt h i p → test (k + i) p ≡ true → Contains (ends_from test k h) (End (k + i))
  complete_from k [] i p at n = cc
  complete_from k (e ∷ h) zero p at n =
      let g : k ≡ k + 0 = omega arith in
      Contains-append_left (end_at test k e) (ends_from test (suc k) h) (End (k + 0))
      (subst (λ x. Contains (end_at test k x) (End (k + 0))) (let f : Post p ≡ e = cc in f)
      (subst (λ b. Contains (cond b (End k ∷ []) []) (End (k + 0))) (sym (ap (λ m. test m p) g ∙ n))
      (subst (λ m. Contains (End k ∷ []) (End m)) g (Contains-head (End k) []))))
  complete_from k (e ∷ h) (suc i) p at n =
      let g : suc k + i ≡ k + suc i = omega arith in
      Contains-append_right (end_at test k e) (ends_from test (suc k) h) (End (k + suc i))
      (subst (λ m. Contains (ends_from test (suc k) h) (End m)) g (complete_from (suc k) h i p at (ap (λ m. test m p) g ∙ n)))

  -- an event gives none, where the test doesn't hold of its receive
  none_at : (k : ℕ) (e : MatchEvent) → ((q : Pattern) → e ≡ Post q → test k q ≡ true → ⊥) → end_at test k e ≡ []
  none_at k (Post q) never = pick (test k q) refl
    where
      pick : (b : Bool) → test k q ≡ b → cond b (End k ∷ []) [] ≡ []
      pick true t = absurd (never q refl t)
      pick false t = refl
  none_at k (Come l) never = refl
  none_at k (End i) never = refl
  none_at k (Clear c) never = refl

  none_from : (k : ℕ) (h : List MatchEvent) → ((j : ℕ) (q : Pattern) → PostAt h j q → test (k + j) q ≡ true → ⊥) → ends_from test k h ≡ []
  none_from k [] never = refl
  none_from k (e ∷ h) never =
      let z : k + 0 ≡ k = omega arith in
      ap (λ xs. xs ++ ends_from test (suc k) h) (none_at k e (λ q f t. never 0 q (ap Some f) (ap (λ m. test m q) z ∙ t)))
      ∙ none_from (suc k) h (λ j q at t. let g : k + suc j ≡ suc k + j = omega arith in never (suc j) q at (ap (λ m. test m q) g ∙ t))

  -- where the test holds of one receive alone, there is one end
  one_from : (k : ℕ) (h : List MatchEvent) (i : ℕ) (p : Pattern) → PostAt h i p → test (k + i) p ≡ true → ((j : ℕ) (q : Pattern) → PostAt h j q → test (k + j) q ≡ true → j ≡ i) → ends_from test k h ≡ End (k + i) ∷ []
  one_from k [] i p at n only = cc
  one_from k (e ∷ h) zero p at n only =
      let g : k ≡ k + 0 = omega arith in
      ap (λ x. end_at test k x ++ ends_from test (suc k) h) (let f : e ≡ Post p = cc in f)
      ∙ ap (λ b. cond b (End k ∷ []) [] ++ ends_from test (suc k) h) (ap (λ m. test m p) g ∙ n)
      ∙ ap (λ xs. End k ∷ xs) (none_from (suc k) h (λ j q a t. let s : k + suc j ≡ suc k + j = omega arith in let o : suc j ≡ 0 = only (suc j) q a (ap (λ m. test m q) s ∙ t) in omega arith))
      ∙ ap (λ m. End m ∷ []) g
  one_from k (e ∷ h) (suc i) p at n only =
      let g : suc k + i ≡ k + suc i = omega arith in
      let z : k + 0 ≡ k = omega arith in
      ap (λ xs. xs ++ ends_from test (suc k) h) (none_at k e (λ q f t. let o : 0 ≡ suc i = only 0 q (ap Some f) (ap (λ m. test m q) z ∙ t) in omega arith))
      ∙ one_from (suc k) h i p at (ap (λ m. test m p) g ∙ n) (λ j q a t. let s : k + suc j ≡ suc k + j = omega arith in let o : suc j ≡ suc i = only (suc j) q a (ap (λ m. test m q) s ∙ t) in omega arith)
      ∙ ap (λ m. End m ∷ []) g

-- the end of the receive of a number is that of a receive that was posted
pub number_ends : (id : ℕ) (h : List MatchEvent) → AreEnds h (end_numbered id h)
number_ends id h x c =
    let r = sound_from (λ k _. count_before h k == id) 0 h x c in
    (r.0, r.1, r.2 ∙ ap End (let g : 0 + r.0 ≡ r.0 = omega arith in g), r.3)

-- there is one, where a receive has the number
pub one_number : (id : ℕ) (h : List MatchEvent) (i : ℕ) (p : Pattern) → PostAt h i p → count_before h i ≡ id → end_numbered id h ≡ End i ∷ []
one_number id h i p at e =
    let g : 0 + i ≡ i = omega arith in
    one_from (λ k _. count_before h k == id) 0 h i p at (ap (λ k. count_before h k == id) g ∙ eq-eqb (count_before h i) id e)
    (λ j q a t.
    let f : 0 + j ≡ j = omega arith in
    same_number h j i (Post q) (Post p) a refl at refl (eqb-true (count_before h j) id (ap (λ k. count_before h k == id) (sym f) ∙ t) ∙ sym e))
    ∙ ap (λ m. End m ∷ []) g
