-- Entries by number, seen as a list in order of the numbers.
use Rattle.std.proofs.Common.{◌≡◌, ◌≢◌, ℕ, ◌<◌, inl, inr, [], ◌∷◌, ◌++◌, refl, ap, sym, ◌∙◌, subst, arith, Bool, true, false, cond, Contains, filter, Option, Some, None, is_some, nat_eq, ◌↔◌}
use Rattle.ulfm_match.proofs.Common.{IsAscending, Contains-append_left, Contains-push, Contains-push_cases, Entries, Buckets, TakesEarliest, nat_tests, get, IsUnique, in_order, exact_unsigned_eq, hash_map_get_iff}
use Rattle.std.specs.Cmp.{nat_eq_equiv}
use Rattle.ulfm_match.proofs.Ascending.{ascending_push, ascending_filter}
use Rattle.ulfm_match.proofs.Least.{TakesLeast}
use Rattle.ulfm_match.proofs.Members.{Contains-filter, filter-Contains}
use Rattle.ulfm_match.proofs.Order.{in_order_to, in_order_back, ascending_in_order, same_members}

module _ {X : Type 0} (es : Entries X) (u : IsUnique nat_eq es) where
  pub listed : (n : ℕ) (x : X) → get nat_eq es n ≡ Some x → Contains (in_order es.entries) (n, x)
  listed n x f = in_order_back es.entries (n, x) ((hash_map_get_iff nat_eq_equiv exact_unsigned_eq es u n x).0 f)

  pub unlisted : (y : ℕ × X) → Contains (in_order es.entries) y → get nat_eq es y.0 ≡ Some y.1
  unlisted y c = (hash_map_get_iff nat_eq_equiv exact_unsigned_eq es u y.0 y.1).1 (in_order_to es.entries y c)

  pub listed_ascending : IsAscending (in_order es.entries)
  listed_ascending = ascending_in_order es.entries u

  -- whether an entry is there
  pub listed_is : (n : ℕ) {b : Bool} → b ≡ is_some (get nat_eq es n) → (b ≡ true) ↔ ((x : X) × Contains (in_order es.entries) (n, x))
  listed_is n is = (λ t. some (get nat_eq es n) refl (sym is ∙ t), λ e. is ∙ ap is_some (unlisted (n, e.0) e.1))
    where
      some : (o : Option X) → get nat_eq es n ≡ o → is_some o ≡ true → (x : X) × Contains (in_order es.entries) (n, x)
      some None e t = cc
      some (Some x) e t = (x, listed n x e)

module _ {X : Type 0} (old new : Entries X) (u : IsUnique nat_eq old) (v : IsUnique nat_eq new) where
  -- an entry comes under a number above all
  pub listed_push : (k : ℕ) (x : X) → ((n : ℕ) → get nat_eq new n ≡ cond (nat_eq k n) (Some x) (get nat_eq old n)) → ((n : ℕ) (y : X) → get nat_eq old n ≡ Some y → n < k) → in_order new.entries ≡ in_order old.entries ++ (k, x) ∷ []
  listed_push k x is below =
      same_members (in_order new.entries) (in_order old.entries ++ (k, x) ∷ []) (listed_ascending new v)
      (ascending_push (in_order old.entries) (k, x) (listed_ascending old u) (λ y c. below y.0 y.1 (unlisted old u y c)))
      (λ y c. to y.0 y.1 (nat_eq k y.0) refl (sym (is y.0) ∙ unlisted new v y c))
      (λ y c. elim (Contains-push_cases (in_order old.entries) (k, x) y c) [
        | inl d ↦ listed new v y.0 y.1 (back y.0 y.1 (nat_eq k y.0) refl (unlisted old u y d))
        | inr e ↦ rw (sym e) (listed new v k x (is k ∙ ap (λ b. cond b (Some x) (get nat_eq old k)) (let t : nat_eq k k ≡ true = grind (arith, nat_tests) in t)))
      ])
    where
      to : (n : ℕ) (y : X) (b : Bool) → nat_eq k n ≡ b → cond b (Some x) (get nat_eq old n) ≡ Some y → Contains (in_order old.entries ++ (k, x) ∷ []) (n, y)
      to n y true e f = subst (λ (w : ℕ × X). Contains (in_order old.entries ++ (k, x) ∷ []) w) (let a : k ≡ n = exact_unsigned_eq k n e in let same : ◌≡◌ {A = ℕ × X} (k, x) (n, y) = cc in same) (Contains-push (in_order old.entries) (k, x))
      to n y false e f = Contains-append_left (in_order old.entries) ((k, x) ∷ []) (n, y) (listed old u n y f)

      back : (n : ℕ) (y : X) (b : Bool) → nat_eq k n ≡ b → get nat_eq old n ≡ Some y → get nat_eq new n ≡ Some y
      back n y true e f = absurd (let a : k ≡ n = exact_unsigned_eq k n e in let l = below n y f in omega (arith, a, l))
      back n y false e f = is n ∙ (ap (λ b. cond b (Some x) (get nat_eq old n)) e ∙ f)

  -- the entry of one number goes
  module _ (k : ℕ) (is : (n : ℕ) → get nat_eq new n ≡ cond (nat_eq k n) None (get nat_eq old n)) where
    pub out_to : (y : ℕ × X) → Contains (in_order new.entries) y → Contains (in_order old.entries) y × (y.0 ≢ k)
    out_to y c = by (nat_eq k y.0) refl (sym (is y.0) ∙ unlisted new v y c)
      where
        by : (b : Bool) → nat_eq k y.0 ≡ b → cond b None (get nat_eq old y.0) ≡ Some y.1 → Contains (in_order old.entries) y × (y.0 ≢ k)
        by true e f = cc
        by false e f = (listed old u y.0 y.1 f, λ q. grind (arith, nat_tests))

    pub out_back : (y : ℕ × X) → Contains (in_order old.entries) y → y.0 ≢ k → Contains (in_order new.entries) y
    out_back y c n = listed new v y.0 y.1 (by (nat_eq k y.0) refl)
      where
        by : (b : Bool) → nat_eq k y.0 ≡ b → get nat_eq new y.0 ≡ Some y.1
        by true e = absurd (n (sym (exact_unsigned_eq k y.0 e)))
        by false e = is y.0 ∙ (ap (λ b. cond b None (get nat_eq old y.0)) e ∙ unlisted old u y c)

  pub listed_takes : {P : X → Type 0} {from to : Buckets} {n : ℕ} {x : X} → TakesEarliest P old new from to n x → TakesLeast (λ (y : ℕ × X). P y.1) (in_order old.entries) (in_order new.entries) (n, x)
  listed_takes {P} {from} {to} {n} {x} t = record {
    there = listed old u n x t.found;
    passes = t.passes;
    least = λ y c p. t.least y.0 (record { entry = y.1; found = unlisted old u y c; passes = p });
    ascending = listed_ascending new v;
    left_to = out_to n t.out.updates;
    left_back = out_back n t.out.updates;
  }

  -- those that fail a test go
  module _ (test : ℕ × X → Bool) (is : new.entries ≡ filter test old.entries) where
    pub listed_filter : in_order new.entries ≡ filter test (in_order old.entries)
    listed_filter =
        same_members (in_order new.entries) (filter test (in_order old.entries)) (listed_ascending new v) (ascending_filter test (in_order old.entries) (listed_ascending old u))
        (λ y c. let f = Contains-filter test old.entries y (rw (sym is) (in_order_to new.entries y c)) in filter-Contains test (in_order old.entries) y (in_order_back old.entries y f.0) f.1)
        (λ y c. let f = Contains-filter test (in_order old.entries) y c in in_order_back new.entries y (rw is (filter-Contains test old.entries y (in_order_to old.entries y f.0) f.1)))

    pub filter_less : (n : ℕ) (x : X) → get nat_eq new n ≡ Some x → get nat_eq old n ≡ Some x
    filter_less n x f =
        (hash_map_get_iff nat_eq_equiv exact_unsigned_eq old u n x).1
        (Contains-filter test old.entries (n, x) (rw (sym is) ((hash_map_get_iff nat_eq_equiv exact_unsigned_eq new v n x).0 f))).0
