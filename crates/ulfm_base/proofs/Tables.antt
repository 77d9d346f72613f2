-- Tables by context: what a value that is put there leaves, and where it stands.
use Rattle.std.proofs.Common.{◌≡◌, ◌≢◌, ℕ, suc, ◌+◌, ◌<◌, Bool, true, false, cond, List, [], ◌∷◌, length, get_or, set, refl, ap, sym, subst, ◌∙◌, Option, Some, is_some, nat_lt, ◌==◌, arith, eqb-true}
use Rattle.std.proofs.lemmas.Bool.Decides.{nat_tests}
use Rattle.std.specs.Prelude.{⊤, unwrap_or}
use Rattle.std.specs.List.{AllByRecursion, insert}
use Rattle.ulfm_base.specs.Lists.{IsAscending}
use Rattle.ulfm_base.specs.Table.{Marks, value_of, put_at, places_below, is_marked, count_at}

module _ {V : Type 0} (c : ℕ) (value : V) where
  over : (entries : List (ℕ × V)) (d : ℕ × V) → places_below c entries < length entries → (get_or entries (places_below c entries) d).0 ≡ c → put_at c value entries ≡ set entries (places_below c entries) (c, value)
  over [] d h e = absurd (omega (arith, h))
  over (x ∷ entries) d h e = step (λ h e. over entries d h e) (x.0 == c) refl (nat_lt x.0 c) refl h e
    where
      step : (places_below c entries < length entries → (get_or entries (places_below c entries) d).0 ≡ c → put_at c value entries ≡ set entries (places_below c entries) (c, value)) → (s : Bool) → (x.0 == c) ≡ s → (t : Bool) → nat_lt x.0 c ≡ t
          → cond t (suc (places_below c entries)) 0 < suc (length entries) → (get_or (x ∷ entries) (cond t (suc (places_below c entries)) 0) d).0 ≡ c
          → cond s ((c, value) ∷ entries) (cond t (x ∷ put_at c value entries) ((c, value) ∷ x ∷ entries)) ≡ set (x ∷ entries) (cond t (suc (places_below c entries)) 0) (c, value)
      step rest true p true q h e = absurd (grind (arith, nat_tests))
      step rest true p false q h e = refl
      step rest false p true q h e = ap (λ ys. x ∷ ys) (rest (omega (arith, h)) e)
      step rest false p false q h e = absurd (grind (arith, nat_tests))

  beside : (entries : List (ℕ × V)) (d : ℕ × V) → (places_below c entries < length entries → (get_or entries (places_below c entries) d).0 ≡ c → ⊥) → put_at c value entries ≡ insert entries (places_below c entries) (c, value)
  beside [] d none = refl
  beside (x ∷ entries) d none = step (λ h. beside entries d h) (x.0 == c) refl (nat_lt x.0 c) refl none
    where
      step : ((places_below c entries < length entries → (get_or entries (places_below c entries) d).0 ≡ c → ⊥) → put_at c value entries ≡ insert entries (places_below c entries) (c, value)) → (s : Bool) → (x.0 == c) ≡ s → (t : Bool) → nat_lt x.0 c ≡ t
          → (cond t (suc (places_below c entries)) 0 < suc (length entries) → (get_or (x ∷ entries) (cond t (suc (places_below c entries)) 0) d).0 ≡ c → ⊥)
          → cond s ((c, value) ∷ entries) (cond t (x ∷ put_at c value entries) ((c, value) ∷ x ∷ entries)) ≡ insert (x ∷ entries) (cond t (suc (places_below c entries)) 0) (c, value)
      step rest true p true q none = absurd (grind (arith, nat_tests))
      step rest true p false q none = absurd (none (omega arith) (eqb-true x.0 c p))
      step rest false p true q none = ap (λ ys. x ∷ ys) (rest (λ h e. none (omega (arith, h)) e))
      step rest false p false q none = refl

  module _ (entries : List (ℕ × V)) (k m : ℕ) (d : ℕ × V) (same : m ≡ c) (place : k ≡ places_below m entries) where
    there : k ≡ places_below c entries
    there = place ∙ ap (λ (n : ℕ). places_below n entries) same

    moved : (f : List (ℕ × V) → ℕ → ℕ × V → List (ℕ × V)) → f entries (places_below c entries) (c, value) ≡ f entries k (m, value)
    moved f = ap (λ (j : ℕ). f entries j (c, value)) (sym there) ∙ ap (λ (n : ℕ). f entries k (n, value)) (sym same)

    -- the context has a value, which the new one replaces
    pub put_over : k < length entries → (get_or entries k d).0 ≡ m → set entries k (m, value) ≡ put_at c value entries
    put_over h e = sym (over entries d (subst (λ (j : ℕ). j < length entries) there h) (ap (λ (j : ℕ). (get_or entries j d).0) (sym there) ∙ (e ∙ same)) ∙ moved set)

    -- the context has none
    pub put_beside : (k < length entries → (get_or entries k d).0 ≡ m → ⊥) → insert entries k (m, value) ≡ put_at c value entries
    put_beside none = sym (beside entries d (λ h e. none (subst (λ (j : ℕ). j < length entries) (sym there) h) (ap (λ (j : ℕ). (get_or entries j d).0) there ∙ (e ∙ sym same))) ∙ moved insert)

  -- what each context has afterwards
  pub value_there : (d : ℕ) (entries : List (ℕ × V)) → value_of d (put_at c value entries) ≡ cond (c == d) (Some value) (value_of d entries)
  value_there d [] = refl
  value_there d (x ∷ entries) = step (value_there d entries) (x.0 == c) refl (nat_lt x.0 c) refl
    where
      same : (t : Bool) → (c == d) ≡ t → (u : Bool) → (x.0 == d) ≡ u → x.0 ≡ c → cond t (Some value) (value_of d entries) ≡ cond t (Some value) (cond u (Some x.1) (value_of d entries))
      same true p u q e = refl
      same false p true q e = absurd (grind (arith, nat_tests))
      same false p false q e = refl

      apart : (t : Bool) → (c == d) ≡ t → (u : Bool) → (x.0 == d) ≡ u → ((x.0 == c) ≡ false) → cond u (Some x.1) (cond t (Some value) (value_of d entries)) ≡ cond t (Some value) (cond u (Some x.1) (value_of d entries))
      apart true p true q e = absurd (grind (arith, nat_tests))
      apart true p false q e = refl
      apart false p u q e = refl

      step : value_of d (put_at c value entries) ≡ cond (c == d) (Some value) (value_of d entries) → (s : Bool) → (x.0 == c) ≡ s → (t : Bool) → nat_lt x.0 c ≡ t
          → value_of d (cond s ((c, value) ∷ entries) (cond t (x ∷ put_at c value entries) ((c, value) ∷ x ∷ entries))) ≡ cond (c == d) (Some value) (value_of d (x ∷ entries))
      step rest true p t q = same (c == d) refl (x.0 == d) refl (eqb-true x.0 c p)
      step rest false p true q = ap (cond (x.0 == d) (Some x.1)) rest ∙ apart (c == d) refl (x.0 == d) refl p
      step rest false p false q = refl

  put_all : (P : ℕ × V → Type 0) (entries : List (ℕ × V)) → P (c, value) → AllByRecursion P entries → AllByRecursion P (put_at c value entries)
  put_all P [] h all = (h, tt)
  put_all P (x ∷ entries) h all = step (put_all P entries h all.1) (x.0 == c) (nat_lt x.0 c)
    where
      step : AllByRecursion P (put_at c value entries) → (s t : Bool) → AllByRecursion P (cond s ((c, value) ∷ entries) (cond t (x ∷ put_at c value entries) ((c, value) ∷ x ∷ entries)))
      step rest true t = (h, all.1)
      step rest false true = (all.0, rest)
      step rest false false = (h, all)

  above : (k m : ℕ) (entries : List (ℕ × V)) → k < m → AllByRecursion (λ (y : ℕ × V). m < y.0) entries → AllByRecursion (λ (y : ℕ × V). k < y.0) entries
  above k m [] h all = tt
  above k m (x ∷ entries) h all = (omega (arith, h, all.0), above k m entries h all.1)

  -- numbers rise still
  pub put_ascends : (entries : List (ℕ × V)) → IsAscending entries → IsAscending (put_at c value entries)
  put_ascends [] a = (tt, tt)
  put_ascends (x ∷ entries) a = step (put_ascends entries a.1) (x.0 == c) refl (nat_lt x.0 c) refl
    where
      step : IsAscending (put_at c value entries) → (s : Bool) → (x.0 == c) ≡ s → (t : Bool) → nat_lt x.0 c ≡ t → IsAscending (cond s ((c, value) ∷ entries) (cond t (x ∷ put_at c value entries) ((c, value) ∷ x ∷ entries)))
      step rest true p t q = (subst (λ (k : ℕ). AllByRecursion (λ (y : ℕ × V). k < y.0) entries) (eqb-true x.0 c p) a.0, a.1)
      step rest false p true q = (put_all (λ (y : ℕ × V). x.0 < y.0) entries (grind (arith, nat_tests)) a.0, rest)
      step rest false p false q = let less : c < x.0 = grind (arith, nat_tests) in ((less, above c x.0 entries less a.0), a)

-- the old table and the new one, where the context c has this mark now
module _ (c : ℕ) (old new : Marks) (mark : ⊤) (values : (d : ℕ) → value_of d new ≡ cond (c == d) (Some mark) (value_of d old)) where
  pub marked_each : (d : ℕ) → is_marked new d ≡ cond (c == d) true (is_marked old d)
  marked_each d = ap is_some (values d) ∙ pick (c == d)
    where
      pick : (b : Bool) → is_some (cond b (Some mark) (value_of d old)) ≡ cond b true (is_some (value_of d old))
      pick true = refl
      pick false = refl

  pub marked_here : is_marked new c ≡ true
  marked_here = marked_each c ∙ itself (c == c) refl
    where
      itself : (b : Bool) → (c == c) ≡ b → cond b true (is_marked old c) ≡ true
      itself true e = refl
      itself false e = absurd (grind (arith, nat_tests))

  pub marked_there : (d : ℕ) → d ≢ c → is_marked new d ≡ is_marked old d
  marked_there d apart = marked_each d ∙ other (c == d) refl
    where
      other : (b : Bool) → (c == d) ≡ b → cond b true (is_marked old d) ≡ is_marked old d
      other true e = absurd (apart (sym (eqb-true c d e)))
      other false e = refl

-- the old table and the new one, where so many are counted at the context c now
pub counted_each : (c count : ℕ) (old new : List (ℕ × ℕ)) → ((d : ℕ) → value_of d new ≡ cond (c == d) (Some count) (value_of d old)) → (d : ℕ) → count_at new d ≡ cond (c == d) count (count_at old d)
counted_each c count old new values d = ap (λ (o : Option ℕ). unwrap_or o 0) (values d) ∙ pick (c == d)
  where
    pick : (b : Bool) → unwrap_or (cond b (Some count) (value_of d old)) 0 ≡ cond b count (unwrap_or (value_of d old) 0)
    pick true = refl
    pick false = refl

-- the old table and the new one, where one more is counted at the context c now
pub counted_more : (c : ℕ) (old new : List (ℕ × ℕ)) → ((d : ℕ) → value_of d new ≡ cond (c == d) (Some (count_at old c + 1)) (value_of d old)) → (d : ℕ) → count_at new d ≡ count_at old d + cond (c == d) 1 0
counted_more c old new values d = counted_each c (count_at old c + 1) old new values d ∙ pick (c == d) refl
  where
    pick : (b : Bool) → (c == d) ≡ b → cond b (count_at old c + 1) (count_at old d) ≡ count_at old d + cond b 1 0
    pick true e = ap (λ k. count_at old k + 1) (eqb-true c d e)
    pick false e = omega arith
