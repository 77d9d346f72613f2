-- What becomes of the numbers in buckets.
use Rattle.std.proofs.Common.{◌≡◌, ◌≢◌, ℕ, ◌+◌, ◌<◌, ◌≤◌, ◌⊎◌, inl, inr, List, [], ◌∷◌, ◌++◌, refl, ap, sym, ◌∙◌, subst, arith, Bool, true, false, cond, filter, Contains, Option, Some, None, Result, Ok, Err, OnOk, IsSome, is_some, nat_eq}
use Rattle.ulfm_match.proofs.Common.{Contains-append_left, Contains-append_right, Contains-push_cases, Sweeps, Grows, FindsLeast, IsLesser, Rises, numbers_of, exact_unsigned_eq, Bucket}
use Rattle.std.specs.List.{AllZip}
use Rattle.std.specs.Map.{lookup}
use Rattle.std.specs.Option.{option_to_list}
use Rattle.ulfm_match.specs.inside.Buckets.{numbers_in}
use Rattle.ulfm_match.proofs.Decide.{Contains-cons_cases, Contains-head, Contains-tail, lt_or_ge}
use Rattle.ulfm_match.proofs.Members.{all_of, all_from, Contains-filter, filter-Contains}
use Rattle.ulfm_match.proofs.Rising.{rises_push, rises_filter, rises_front}

-- a bucket or those behind it
same_cond : (b : Bool) (x y : Bucket) (xs ys : Option Bucket) → numbers_in y ≡ numbers_in x → numbers_of ys ≡ numbers_of xs → numbers_of (cond b (Some y) ys) ≡ numbers_of (cond b (Some x) xs)
same_cond true x y xs ys one others = one
same_cond false x y xs ys one others = others

-- clones of buckets have the same numbers at each key
pub same_numbers : (k : ℕ) (es fs : List (ℕ × Bucket)) → AllZip (λ e f. (f.0 ≡ e.0) × (numbers_in f.1 ≡ numbers_in e.1)) es fs → numbers_of (lookup (nat_eq k) fs) ≡ numbers_of (lookup (nat_eq k) es)
same_numbers k [] [] z = refl
same_numbers k [] (f ∷ fs) z = absurd z
same_numbers k (e ∷ es) [] z = absurd z
same_numbers k (e ∷ es) (f ∷ fs) z = subst (λ n. numbers_of (cond (nat_eq k n) (Some f.1) (lookup (nat_eq k) fs)) ≡ numbers_of (cond (nat_eq k e.0) (Some e.1) (lookup (nat_eq k) es))) (sym z.0.0) (same_cond (nat_eq k e.0) e.1 f.1 (lookup (nat_eq k) es) (lookup (nat_eq k) fs) z.0.1 (same_numbers k es fs z.1))

-- what is there is another than one that isn't
pub gone_other : {X : Type 0} (look : ℕ → Option X) (n : ℕ) → look n ≡ None → (m : ℕ) → IsSome (look m) → m ≢ n
gone_other look n absent m l e = let at : is_some (look n) ≡ true = subst (λ k. is_some (look k) ≡ true) e l in cc

module _ (L : ℕ → Type 0) where
  pub sweeps_none : (ns : List ℕ) → Sweeps L ns ns
  sweeps_none ns = record { keeps = λ n c l. c; from = λ n c. c; rises = λ r. r }

  pub sweeps_both : (a b d : List ℕ) → Sweeps L a b → Sweeps L b d → Sweeps L a d
  sweeps_both a b d s t = record { keeps = λ n c l. t.keeps n (s.keeps n c l) l; from = λ n c. s.from n (t.from n c); rises = λ r. t.rises (s.rises r) }

  pub sweeps_more : (M : ℕ → Type 0) (a b : List ℕ) → ((n : ℕ) → L n → M n) → Sweeps M a b → Sweeps L a b
  sweeps_more M a b lives s = record { keeps = λ n c l. s.keeps n c (lives n l); from = s.from; rises = s.rises }

  pub sweeps_filter : (test : ℕ → Bool) (ns : List ℕ) → ((n : ℕ) → L n → test n ≡ true) → Sweeps L ns (filter test ns)
  sweeps_filter test ns lives = record {
    keeps = λ n c l. filter-Contains test ns n c (lives n l);
    from = λ n c. (Contains-filter test ns n c).0;
    rises = rises_filter test ns;
  }

  -- a first number that is gone goes
  pub sweeps_first : (n : ℕ) (ns : List ℕ) → (L n → ⊥) → Sweeps L (n ∷ ns) ns
  sweeps_first n ns gone = record {
    keeps = λ m c l. elim (Contains-cons_cases n ns m c) [ inl e ↦ absurd (gone (subst L (sym e) l)) | inr d ↦ d ];
    from = λ m c. Contains-tail n ns m c;
    rises = λ r. r.1;
  }

  -- a last number that is gone goes
  pub sweeps_last : (n : ℕ) (ns : List ℕ) → (L n → ⊥) → Sweeps L (ns ++ n ∷ []) ns
  sweeps_last n ns gone = record {
    keeps = λ m c l. elim (Contains-push_cases ns n m c) [ inl d ↦ d | inr e ↦ absurd (gone (subst L (sym e) l)) ];
    from = λ m c. Contains-append_left ns (n ∷ []) m c;
    rises = rises_front ns (n ∷ []);
  }

  -- one that was taken from the end was gone
  pub sweeps_popped : (n : ℕ) (old new : List ℕ) (r : Option ℕ) → old ≡ new ++ option_to_list r → r ≡ Some n → (L n → ⊥) → Sweeps L old new
  sweeps_popped n old new r is e gone = subst (λ ns. Sweeps L ns new) (sym (is ∙ ap (λ o. new ++ option_to_list o) e)) (sweeps_last n new gone)

  -- the numbers after the first are swept
  pub sweeps_rest : (first : Option ℕ) (ns ms : List ℕ) → Sweeps L ns ms → Sweeps L (option_to_list first ++ ns) (option_to_list first ++ ms)
  sweeps_rest None ns ms s = s
  sweeps_rest (Some n) ns ms s = record {
    keeps = λ m c l. elim (Contains-cons_cases n ns m c) [ inl e ↦ subst (λ j. Contains (n ∷ ms) j) e (Contains-head n ms) | inr d ↦ Contains-tail n ms m (s.keeps m d l) ];
    from = λ m c. elim (Contains-cons_cases n ms m c) [ inl e ↦ subst (λ j. Contains (n ∷ ns) j) e (Contains-head n ns) | inr d ↦ Contains-tail n ns m (s.from m d) ];
    rises = λ r. (all_from (λ m. n ≤ m) ms (λ m c. all_of (λ m. n ≤ m) ns m r.0 (s.from m c)), s.rises r.1);
  }

module _ (n : ℕ) where
  -- the numbers after the first grow
  pub grows_rest : (first : Option ℕ) (ns ms : List ℕ) → Grows n ns ms → Grows n (option_to_list first ++ ns) (option_to_list first ++ ms)
  grows_rest None ns ms g = g
  grows_rest (Some k) ns ms g = record {
    keeps = λ m c. elim (Contains-cons_cases k ns m c) [ inl e ↦ subst (λ j. Contains (k ∷ ms) j) e (Contains-head k ms) | inr d ↦ Contains-tail k ms m (g.keeps m d) ];
    from = λ m c. elim (Contains-cons_cases k ms m c) [
      | inl e ↦ inl (subst (λ j. Contains (k ∷ ns) j) e (Contains-head k ns))
      | inr d ↦ elim (g.from m d) [ inl b ↦ inl (Contains-tail k ns m b) | inr q ↦ inr q ]
    ];
    rises = λ r f. (
      all_from (λ m. k ≤ m) ms (λ m c. elim (g.from m c) [ inl b ↦ all_of (λ m. k ≤ m) ns m r.0 b | inr q ↦ subst (λ j. k ≤ j) (sym q) (f k (Contains-head k ns)) ]),
      g.rises r.1 (λ m c. f m (Contains-tail k ns m c)),
    );
  }

  -- it stands after the first
  pub put_rest : {A E : Type 0} (first : Option ℕ) (ns : List ℕ) (r : Result A E) → OnOk r (Contains ns n) → OnOk r (Contains (option_to_list first ++ ns) n)
  put_rest first ns (Ok a) c = Contains-append_right (option_to_list first) ns n c
  put_rest first ns (Err e) c = tt

  pub grows_none : (ns : List ℕ) → Grows n ns ns
  grows_none ns = record { keeps = λ m c. c; from = λ m c. inl c; rises = λ r f. r }

  pub grows_push : (ns : List ℕ) → Grows n ns (ns ++ n ∷ [])
  grows_push ns = record {
    keeps = λ m c. Contains-append_left ns (n ∷ []) m c;
    from = λ m c. elim (Contains-push_cases ns n m c) [ inl d ↦ inl d | inr e ↦ inr (sym e) ];
    rises = λ r f. rises_push ns n r f;
  }

  pub grows_both : (a b d : List ℕ) → Grows n a b → Grows n b d → Grows n a d
  grows_both a b d s t = record {
    keeps = λ m c. t.keeps m (s.keeps m c);
    from = λ m c. elim (t.from m c) [ inl q ↦ s.from m q | inr e ↦ inr e ];
    rises = λ r f. t.rises (s.rises r f) (λ m c. elim (s.from m c) [ inl q ↦ f m q | inr e ↦ (let q : m ≡ n = e in omega (arith, q)) ]);
  }

-- the bucket of one key changes, and no other
pub at_key : (R : List ℕ → List ℕ → Type 0) → ((ns : List ℕ) → R ns ns) → (old new : ℕ → Option Bucket) (key : ℕ) (v w : Option Bucket) → old key ≡ v → ((k : ℕ) → new k ≡ cond (nat_eq key k) w (old k)) → R (numbers_of v) (numbers_of w) → (k : ℕ) → R (numbers_of (old k)) (numbers_of (new k))
at_key R same old new key v w at is r k = by (nat_eq key k) refl
  where
    by : (b : Bool) → nat_eq key k ≡ b → R (numbers_of (old k)) (numbers_of (new k))
    by true e =
        let o : old k ≡ v = ap old (sym (exact_unsigned_eq key k e)) ∙ at in
        let n : new k ≡ w = is k ∙ ap (λ b. cond b w (old k)) e in
        rw o (rw n r)
    by false e = rw (is k ∙ ap (λ b. cond b w (old k)) e) (same (numbers_of (old k)))

-- the lesser of two finds
pub lesser_finds : (M N Q : ℕ → Type 0) (a b c : Option ℕ) → IsLesser a b c → FindsLeast M Q a → FindsLeast N Q b → FindsLeast (λ n. M n ⊎ N n) Q c
lesser_finds M N Q None None c is f g = rw is (λ m e q. elim e [ inl x ↦ f m x q | inr y ↦ g m y q ])
lesser_finds M N Q None (Some n) c is f g = rw is (record { is = g.is; least = λ m e q. elim e [ inl x ↦ absurd (f m x q) | inr y ↦ g.least m y q ] })
lesser_finds M N Q (Some m) None c is f g = rw is (record { is = f.is; least = λ k e q. elim e [ inl x ↦ f.least k x q | inr y ↦ absurd (g k y q) ] })
lesser_finds M N Q (Some m) (Some n) c is f g = elim is [
  | inl l ↦ rw l.0 (record { is = f.is; least = λ k e q. elim e [ inl x ↦ f.least k x q | inr y ↦ (let a = g.least k y q in let b = l.1 in omega (arith, a, b)) ] })
  | inr l ↦ rw l.0 (record { is = g.is; least = λ k e q. elim e [ inl x ↦ (let a = f.least k x q in let b = l.1 in omega (arith, a, b)) | inr y ↦ g.least k y q ] })
]

-- what is found among more that pass nowhere else
pub finds_all : (M N Q : ℕ → Type 0) (a : Option ℕ) → ((n : ℕ) → N n → Q n → M n) → FindsLeast M Q a → FindsLeast N Q a
finds_all M N Q None to f = λ m n q. f m (to m n q) q
finds_all M N Q (Some k) to f = record { is = f.is; least = λ m n q. f.least m (to m n q) q }

-- one source more is searched
pub finds_next : (A : ℕ → ℕ → Type 0) (Q : ℕ → Type 0) (k : ℕ) (a b c : Option ℕ) → IsLesser a b c → FindsLeast (λ n. (s : ℕ) × (s < k) × A s n) Q a → FindsLeast (A k) Q b → FindsLeast (λ n. (s : ℕ) × (s < k + 1) × A s n) Q c
finds_next A Q k a b c is f g =
    finds_all (λ n. ((s : ℕ) × (s < k) × A s n) ⊎ A k n) (λ n. (s : ℕ) × (s < k + 1) × A s n) Q c
    (λ n m q. elim (lt_or_ge m.0 k) [
      | inl l ↦ inl (m.0, l, m.2)
      | inr h ↦ let same : m.0 ≡ k = (let w = m.1 in omega (arith, h, w)) in inr (subst (λ s. A s n) same m.2)
    ])
    (lesser_finds (λ n. (s : ℕ) × (s < k) × A s n) (A k) Q a b c is f g)

-- the first of all that rise passes
pub first_finds : (n : ℕ) (ns : List ℕ) (Q : ℕ → Type 0) → Rises (n ∷ ns) → Q n → FindsLeast (Contains (n ∷ ns)) Q (Some n)
first_finds n ns Q r q = record {
  is = q;
  least = λ m c p. elim (Contains-cons_cases n ns m c) [ inl e ↦ (let w : n ≡ m = e in omega (arith, w)) | inr d ↦ all_of (λ m. n ≤ m) ns m r.0 d ];
}

-- it doesn't, and the others are searched
pub rest_finds : (n : ℕ) (ns : List ℕ) (Q : ℕ → Type 0) (a : Option ℕ) → (Q n → ⊥) → FindsLeast (Contains ns) Q a → FindsLeast (Contains (n ∷ ns)) Q a
rest_finds n ns Q a fails f = finds_all (Contains ns) (Contains (n ∷ ns)) Q a (λ m c q. elim (Contains-cons_cases n ns m c) [ inl e ↦ absurd (fails (subst Q (sym e) q)) | inr d ↦ d ]) f

pub finds_is : (M Q : ℕ → Type 0) (a : Option ℕ) → FindsLeast M Q a → is_some a ≡ true → (n : ℕ) × Q n
finds_is M Q None f t = cc
finds_is M Q (Some n) f t = (n, f.is)

pub finds_some : (M Q : ℕ → Type 0) (a : Option ℕ) → FindsLeast M Q a → (n : ℕ) → M n → Q n → is_some a ≡ true
finds_some M Q None f n m q = absurd (f n m q)
finds_some M Q (Some k) f n m q = refl
