-- Early entries and recent ones, from one state to the next.
use Rattle.std.proofs.Common.{◌≡◌, ◌≢◌, ℕ, suc, ◌+◌, ◌<◌, ◌≤◌, inl, inr, List, [], ◌∷◌, ◌++◌, ap, sym, ◌∙◌, subst, arith, append_assoc, Bool, false, cond, length, length-append, Contains, Option, Some, None, refl, nat_eq, filter, not, ◌==◌, ◌↔◌, get_or}
use Rattle.std.specs.Prelude.{remove}
use Rattle.std.proofs.lemmas.List.Elements.{filter-append}
use Rattle.std.specs.List.{IsDistinct}
use Rattle.std.specs.Map.{keys_of, lookup}
use Rattle.std.specs.VecDeque.{deque_len}
use Rattle.ulfm_match.proofs.Common.{Contains-append_cases, Contains-append_left, Contains-append_right, Contains-push_cases, Entries, Buckets, Grows, SweepsFor, IsAscending, IsIndexed, IsPool, IsSamePool, NoneIsWild, NonePass, NoneOf, Pool, TakesEarliest, TakesFirst, TakesLeast, TakesOut, all_of, few, get, in_order, IsUnique, numbers_at, numbers_of, IsFirstAt, IsLeast, Passes}
use Rattle.ulfm_match.proofs.Ascending.{ascending_both, ascending_filter, ascending_push}
use Rattle.ulfm_match.proofs.Decide.{Contains-none, Contains-head, Contains-tail}
use Rattle.ulfm_match.proofs.EndSteps.{other_context, passes_context}
use Rattle.ulfm_match.proofs.First.{first_is_least, taken_at}
use Rattle.ulfm_match.proofs.Indexed.{copied_indexed, grown_indexed, less_indexed, more_indexed, out_indexed, out_less}
use Rattle.ulfm_match.proofs.Listed.{filter_less, listed_ascending, listed_filter, listed_push, listed_takes, out_back, out_to, unlisted, listed}
use Rattle.ulfm_match.proofs.Members.{all_of as each_of, Contains-filter, filter-Contains}

module _ {X : Type 0} (P : ℕ × X → Type 0) (front back : List (ℕ × X)) (below : (y z : ℕ × X) → Contains front y → Contains back z → y.0 < z.0) where
  -- taken out of what stands before
  before_takes : (new : List (ℕ × X)) (z : ℕ × X) → IsAscending back → TakesLeast P front new z → TakesLeast P (front ++ back) (new ++ back) z
  before_takes new z a t = record {
    there = Contains-append_left front back z t.there;
    passes = t.passes;
    least = λ y c p. elim (Contains-append_cases front back y c) [ inl d ↦ t.least y d p | inr d ↦ (let l = below z y t.there d in omega (arith, l)) ];
    ascending = ascending_both new back t.ascending a (λ y w c d. below y w (t.left_to y c).0 d);
    left_to = λ y c. elim (Contains-append_cases new back y c) [
      | inl d ↦ let k = t.left_to y d in (Contains-append_left front back y k.0, k.1)
      | inr d ↦ (Contains-append_right front back y d, λ e. (let l = below z y t.there d in omega (arith, l, e)))
    ];
    left_back = λ y c n. elim (Contains-append_cases front back y c) [ inl d ↦ Contains-append_left new back y (t.left_back y d n) | inr d ↦ Contains-append_right new back y d ];
  }

  -- taken out of what stands after, where none before passes
  after_takes : (new : List (ℕ × X)) (z : ℕ × X) → IsAscending front → NoneOf P front → TakesLeast P back new z → TakesLeast P (front ++ back) (front ++ new) z
  after_takes new z a none t = record {
    there = Contains-append_right front back z t.there;
    passes = t.passes;
    least = λ y c p. elim (Contains-append_cases front back y c) [ inl d ↦ absurd (none y d p) | inr d ↦ t.least y d p ];
    ascending = ascending_both front new a t.ascending (λ y w c d. below y w c (t.left_to w d).0);
    left_to = λ y c. elim (Contains-append_cases front new y c) [
      | inl d ↦ (Contains-append_left front back y d, λ e. (let l = below y z d t.there in omega (arith, l, e)))
      | inr d ↦ let k = t.left_to y d in (Contains-append_right front back y k.0, k.1)
    ];
    left_back = λ y c n. elim (Contains-append_cases front back y c) [ inl d ↦ Contains-append_left front new y d | inr d ↦ Contains-append_right front new y (t.left_back y d n) ];
  }

-- as many are recent, where they are the same
same_len : {X : Type 0} (old new : Pool X) → new.recent.items ≡ old.recent.items → deque_len new.recent ≤ deque_len old.recent
same_len old new e = let q : deque_len new.recent ≡ deque_len old.recent = new.recent.ok.0 ∙ (ap length e ∙ sym old.recent.ok.0) in omega (arith, q)

module _ {X : Type 0} {K : X → ℕ → Type 0} {count : ℕ} {pool : Pool X} (i : IsPool K count pool) where
  still_few : (new : Pool X) → deque_len new.recent ≤ deque_len pool.recent → deque_len new.recent ≤ few
  still_few new l = let s = i.short in omega (arith, l, s)

  early_below : (y z : ℕ × X) → Contains (in_order pool.early.entries) y → Contains pool.recent.items z → y.0 < z.0
  early_below y z c d = let l = i.indexed.below y.0 y.1 (unlisted pool.early i.indexed.unique y c) in let m = i.from z d in omega (arith, l, m)

  pub all_ascending : IsAscending (all_of pool)
  all_ascending = ascending_both (in_order pool.early.entries) pool.recent.items (listed_ascending pool.early i.indexed.unique) i.ascending early_below

  pub none_early : {P : X → Type 0} → NonePass P pool.early → NoneOf (λ (y : ℕ × X). P y.1) (in_order pool.early.entries)
  none_early none y c p = none y.0 (record { entry = y.1; found = unlisted pool.early i.indexed.unique y c; passes = p })

  pub early_taken : {P : X → Type 0} {new : Entries X} {to : Buckets} {n : ℕ} {x : X} → TakesEarliest P pool.early new pool.buckets to n x → TakesLeast (λ (y : ℕ × X). P y.1) (all_of pool) (in_order new.entries ++ pool.recent.items) (n, x)
  early_taken {P} {new} {to} {n} {x} t =
      before_takes (λ y. P y.1) (in_order pool.early.entries) pool.recent.items early_below (in_order new.entries) (n, x) i.ascending
      (listed_takes pool.early new i.indexed.unique t.out.unique t)

  -- the least of the early ones is the least of all
  pub early_least : {P : X → Type 0} (n : ℕ) (x : X) → get nat_eq pool.early n ≡ Some x → P x → ((m : ℕ) → Passes P pool.early m → n ≤ m) → IsLeast (λ (y : ℕ × X). P y.1) (all_of pool) (n, x)
  early_least {P} n x found passes least =
      let there = listed pool.early i.indexed.unique n x found in
      record {
        there = Contains-append_left (in_order pool.early.entries) pool.recent.items (n, x) there;
        passes = passes;
        least = λ y c p. elim (Contains-append_cases (in_order pool.early.entries) pool.recent.items y c) [
          | inl d ↦ least y.0 (record { entry = y.1; found = unlisted pool.early i.indexed.unique y d; passes = p })
          | inr d ↦ (let l = early_below (n, x) y there d in omega (arith, l))
        ];
      }

  pub recent_taken : {P : X → Type 0} {new : List (ℕ × X)} {z : ℕ × X} → NonePass P pool.early → TakesFirst (λ (y : ℕ × X). P y.1) pool.recent.items new z → TakesLeast (λ (y : ℕ × X). P y.1) (all_of pool) (in_order pool.early.entries ++ new) z
  recent_taken {P} {new} {z} none t =
      after_takes (λ y. P y.1) (in_order pool.early.entries) pool.recent.items early_below new z (listed_ascending pool.early i.indexed.unique) (none_early none)
      (first_is_least (λ y. P y.1) pool.recent.items new z i.ascending t)

  -- the first of the recent ones is the least of all, where no early one passes
  pub recent_least : {P : X → Type 0} (k : ℕ) (z : ℕ × X) → NonePass P pool.early → IsFirstAt (λ (y : ℕ × X). P y.1) pool.recent.items k → z ≡ get_or pool.recent.items k z → IsLeast (λ (y : ℕ × X). P y.1) (all_of pool) z
  recent_least {P} k z none first is =
      let t = recent_taken none (taken_at (λ (y : ℕ × X). P y.1) pool.recent.items (remove pool.recent.items k) k z first is refl) in
      record { there = t.there; passes = t.passes; least = t.least }

  pub none_pool : {P : X → Type 0} → NonePass P pool.early → NoneOf (λ (y : ℕ × X). P y.1) pool.recent.items → NoneOf (λ (y : ℕ × X). P y.1) (all_of pool)
  none_pool {P} none recent y c p = elim (Contains-append_cases (in_order pool.early.entries) pool.recent.items y c) [ inl d ↦ none_early none y d p | inr d ↦ recent y d p ]

  -- other early entries and recent ones, of those that were there
  pub less_pool : (new : Pool X) → new.wild ≡ pool.wild → IsUnique nat_eq new.early → ((n : ℕ) (x : X) → get nat_eq new.early n ≡ Some x → get nat_eq pool.early n ≡ Some x) → ((k : ℕ) → SweepsFor new.early (numbers_at pool.buckets k) (numbers_at new.buckets k)) → IsAscending new.recent.items → ((y : ℕ × X) → Contains new.recent.items y → Contains pool.recent.items y) → deque_len new.recent ≤ deque_len pool.recent → IsPool K count new
  less_pool new w u sub s a recent l = record {
    top = i.top;
    indexed = less_indexed i.indexed u sub s;
    ascending = a;
    from = λ y c. i.from y (recent y c);
    below = λ y c. i.below y (recent y c);
    counted = i.counted;
    short = still_few new l;
    none_wild = λ d n x k f. i.none_wild (sym w ∙ d) n x k (sub n x f);
  }

  pub out_pool : {n : ℕ} (new : Pool X) → new.wild ≡ pool.wild → TakesOut n pool.early new.early pool.buckets new.buckets → new.recent.items ≡ pool.recent.items → IsPool K count new
  out_pool new w t e = record {
    top = i.top;
    indexed = out_indexed i.indexed t;
    ascending = rw e i.ascending;
    from = λ y c. i.from y (rw (sym e) c);
    below = λ y c. i.below y (rw (sym e) c);
    counted = i.counted;
    short = still_few new (same_len pool new e);
    none_wild = λ d m x k f. i.none_wild (sym w ∙ d) m x k (out_less i.indexed t m x f);
  }

  -- the recent ones are others, of those that were there
  pub later_pool : (new : Pool X) → new.wild ≡ pool.wild → new.early ≡ pool.early → new.buckets ≡ pool.buckets → IsAscending new.recent.items → ((y : ℕ × X) → Contains new.recent.items y → Contains pool.recent.items y) → deque_len new.recent ≤ deque_len pool.recent → IsPool K count new
  later_pool new w e f a recent l = record {
    top = i.top;
    indexed = rw e (rw f i.indexed);
    ascending = a;
    from = λ y c. i.from y (recent y c);
    below = λ y c. i.below y (recent y c);
    counted = i.counted;
    short = still_few new l;
    none_wild = λ d. rw e (i.none_wild (sym w ∙ d));
  }

  -- one of the recent ones is taken out
  pub taken_recent : (P : X → Type 0) {z : ℕ × X} (new : Pool X) → new.wild ≡ pool.wild → new.early ≡ pool.early → new.buckets ≡ pool.buckets → TakesFirst (λ (y : ℕ × X). P y.1) pool.recent.items new.recent.items z → deque_len new.recent ≤ deque_len pool.recent → IsPool K count new
  taken_recent P {z} new w e f t s = let l = first_is_least (λ y. P y.1) pool.recent.items new.recent.items z i.ascending t in later_pool new w e f l.ascending (λ y c. (l.left_to y c).0) s

  pub same_pool : (new : Pool X) → new.wild ≡ pool.wild → new.early ≡ pool.early → new.buckets ≡ pool.buckets → new.recent.items ≡ pool.recent.items → IsPool K count new
  same_pool new w e f g = later_pool new w e f (rw g i.ascending) (λ y c. rw (sym g) c) (same_len pool new g)

  -- a copy of a pool in other tables is a pool
  pub copied_pool : (new : Pool X) → IsSamePool pool new → IsPool K count new
  copied_pool new s = record {
    top = i.top;
    indexed = copied_indexed i.indexed s.early (subst (λ es. IsDistinct nat_eq (keys_of es)) (sym s.early) i.indexed.unique) s.buckets;
    ascending = rw s.recent i.ascending;
    from = λ y c. i.from y (rw (sym s.recent) c);
    below = λ y c. i.below y (rw (sym s.recent) c);
    counted = i.counted;
    short = still_few new (same_len pool new s.recent);
    none_wild = λ d n x k h. i.none_wild (sym s.wild ∙ d) n x k (subst (λ xs. lookup (nat_eq n) xs ≡ Some x) s.early h);
  }

  -- the early ones have more room
  pub roomy_pool : (new : Pool X) → new.wild ≡ pool.wild → new.early.entries ≡ pool.early.entries → IsUnique nat_eq new.early → new.buckets ≡ pool.buckets → new.recent.items ≡ pool.recent.items → IsPool K count new
  roomy_pool new w e u f g = copied_pool new (record { early = e; buckets = λ k. ap (λ bs. numbers_at bs k) f; recent = g; wild = w })

  pub higher_pool : IsPool K (count + 1) pool
  higher_pool = record {
    top = i.top;
    indexed = i.indexed;
    ascending = i.ascending;
    from = i.from;
    below = λ y c. let l = i.below y c in omega (arith, l);
    counted = let l = i.counted in omega (arith, l);
    short = i.short;
    none_wild = i.none_wild;
  }

  -- an entry comes
  pub pushed_pool : (new : Pool X) (x : X) → new.wild ≡ pool.wild → new.early ≡ pool.early → new.buckets ≡ pool.buckets → new.recent.items ≡ pool.recent.items ++ (count, x) ∷ [] → deque_len pool.recent < few → IsPool K (count + 1) new
  pushed_pool new x o e f g l = record {
    top = i.top;
    indexed = rw e (rw f i.indexed);
    ascending = rw g (ascending_push pool.recent.items (count, x) i.ascending i.below);
    from = λ y c. elim (Contains-push_cases pool.recent.items (count, x) y (rw (sym g) c)) [ inl d ↦ i.from y d | inr q ↦ rw (sym q) i.counted ];
    below = λ y c. elim (Contains-push_cases pool.recent.items (count, x) y (rw (sym g) c)) [ inl d ↦ (let l = i.below y d in omega (arith, l)) | inr q ↦ rw (sym q) (let l : count < count + 1 = omega arith in l) ];
    counted = let l = i.counted in omega (arith, l);
    short = let q : deque_len new.recent ≡ length pool.recent.items + 1 = new.recent.ok.0 ∙ (ap length g ∙ length-append pool.recent.items ((count, x) ∷ [])) in let w = pool.recent.ok.0 in omega (arith, l, q, w);
    none_wild = λ d. rw e (i.none_wild (sym o ∙ d));
  }

  -- the first of the recent ones becomes an early one
  module _ (n : ℕ) (x : X) (rest : List (ℕ × X)) (first : pool.recent.items ≡ (n, x) ∷ rest) where
    above : i.top ≤ n
    above = i.from (n, x) (rw first (Contains-head (n, x) rest))

    later : (y : ℕ × X) → Contains rest y → n < y.0
    later y c = let a : IsAscending ((n, x) ∷ rest) = subst (λ (ys : List (ℕ × X)). IsAscending ys) first i.ascending in each_of (λ (w : ℕ × X). n < w.0) rest y a.0 c

    -- no early one has its number
    pub settled_absent : (early : Entries X) → early.entries ≡ pool.early.entries → get nat_eq early n ≡ None
    settled_absent early e = ap (λ es. lookup (nat_eq n) es) e ∙ by (get nat_eq pool.early n) refl
      where
        by : (o : Option X) → get nat_eq pool.early n ≡ o → get nat_eq pool.early n ≡ None
        by None q = q
        by (Some y) q = absurd (let l = i.indexed.below n y q in let a = above in omega (arith, l, a))

    pub settled_all : (early : Entries X) → IsUnique nat_eq early → ((m : ℕ) → get nat_eq early m ≡ cond (nat_eq n m) (Some x) (get nat_eq pool.early m)) → in_order early.entries ++ rest ≡ all_of pool
    settled_all early u is =
        let pushed = listed_push pool.early early i.indexed.unique u n x is (λ m y f. let l = i.indexed.below m y f in let a = above in omega (arith, l, a)) in
        ap (λ ys. ys ++ rest) pushed ∙ (append_assoc (in_order pool.early.entries) ((n, x) ∷ []) rest ∙ ap (λ ys. in_order pool.early.entries ++ ys) (sym first))

    pub settled_pool : (new : Pool X) → (new.wild ≡ false → NoneIsWild K new.early) → IsUnique nat_eq new.early → ((m : ℕ) → get nat_eq new.early m ≡ cond (nat_eq n m) (Some x) (get nat_eq pool.early m)) → ((k : ℕ) → Grows n (numbers_at pool.buckets k) (numbers_at new.buckets k)) → ((k : ℕ) → K x k → Contains (numbers_at new.buckets k) n) → new.recent.items ≡ rest → IsPool K count new
    settled_pool new none u is g put e = record {
      top = n + 1;
      indexed = more_indexed i.indexed n above g x u is put;
      ascending = rw e (let a : IsAscending ((n, x) ∷ rest) = subst (λ (ys : List (ℕ × X)). IsAscending ys) first i.ascending in a.1);
      from = λ y c. let l = later y (rw (sym e) c) in omega (arith, l);
      below = λ y c. i.below y (rw first (Contains-tail (n, x) rest y (rw (sym e) c)));
      counted = let l = i.below (n, x) (rw first (Contains-head (n, x) rest)) in omega (arith, l);
      short = let q : deque_len new.recent ≡ length rest = new.recent.ok.0 ∙ ap length e in let w : deque_len pool.recent ≡ suc (length rest) = pool.recent.ok.0 ∙ ap length first in still_few new (omega (arith, q, w));
      none_wild = none;
    }

    -- it stays where it was, though some buckets had its number
    pub unsettled_pool : (new : Pool X) (between : Buckets) → new.wild ≡ pool.wild → new.early.entries ≡ pool.early.entries → IsUnique nat_eq new.early → ((k : ℕ) → Grows n (numbers_at pool.buckets k) (numbers_at between k)) → ((k : ℕ) → SweepsFor new.early (numbers_at between k) (numbers_at new.buckets k)) → new.recent.items ≡ pool.recent.items → IsPool K count new
    unsettled_pool new between w same u g s e = record {
      top = n;
      indexed =
          let grown : IsIndexed K n pool.early between = grown_indexed i.indexed n above g in
          let roomy : IsIndexed K n new.early between = copied_indexed grown same u (λ k. refl) in
          less_indexed roomy u (λ m y f. f) s;
      ascending = rw e i.ascending;
      from = λ y c. by y (subst (λ (ys : List (ℕ × X)). Contains ys y) (e ∙ first) c);
      below = λ y c. i.below y (rw (sym e) c);
      counted = let l = i.below (n, x) (rw first (Contains-head (n, x) rest)) in omega (arith, l);
      short = still_few new (same_len pool new e);
      none_wild = λ d m z k h. i.none_wild (sym w ∙ d) m z k (subst (λ xs. lookup (nat_eq m) xs ≡ Some z) same h);
    } where
      by : (y : ℕ × X) → Contains ((n, x) ∷ rest) y → n ≤ y.0
      by y c = elim (Contains-append_cases ((n, x) ∷ []) rest y c) [
        | inl d ↦ elim (Contains-push_cases [] (n, x) y d) [ inl f ↦ absurd (let l = f.1 in omega arith) | inr q ↦ rw (sym q) (let l : n ≤ n = omega arith in l) ]
        | inr d ↦ (let l = later y d in omega (arith, l))
      ]

  -- the entry of one number goes
  module _ (n : ℕ) (new : Pool X) (out : TakesOut n pool.early new.early pool.buckets new.buckets) (recent : new.recent.items ≡ filter (λ (y : ℕ × X). not (y.0 == n)) pool.recent.items) where
    pub ended_all : (y : ℕ × X) → Contains (all_of new) y ↔ (Contains (all_of pool) y × (y.0 ≢ n))
    ended_all y = (
      λ c. elim (Contains-append_cases (in_order new.early.entries) new.recent.items y c) [
        | inl d ↦ let k = out_to pool.early new.early i.indexed.unique out.unique n out.updates y d in (Contains-append_left (in_order pool.early.entries) pool.recent.items y k.0, k.1)
        | inr d ↦ let k = Contains-filter (λ (y : ℕ × X). not (y.0 == n)) pool.recent.items y (rw (sym recent) d) in (Contains-append_right (in_order pool.early.entries) pool.recent.items y k.0, other_context y.0 n k.1)
      ],
      λ c. elim (Contains-append_cases (in_order pool.early.entries) pool.recent.items y c.0) [
        | inl d ↦ Contains-append_left (in_order new.early.entries) new.recent.items y (out_back pool.early new.early i.indexed.unique out.unique n out.updates y d c.1)
        | inr d ↦ Contains-append_right (in_order new.early.entries) new.recent.items y (rw recent (filter-Contains (λ (y : ℕ × X). not (y.0 == n)) pool.recent.items y d (passes_context y.0 n c.1)))
      ],
    )

    pub ended_pool : new.wild ≡ pool.wild → deque_len new.recent ≤ deque_len pool.recent → IsPool K count new
    ended_pool w l = record {
      top = i.top;
      indexed = out_indexed i.indexed out;
      ascending = rw recent (ascending_filter (λ (y : ℕ × X). not (y.0 == n)) pool.recent.items i.ascending);
      from = λ y c. i.from y (was y c);
      below = λ y c. i.below y (was y c);
      counted = i.counted;
      short = still_few new l;
      none_wild = λ d m x k f. i.none_wild (sym w ∙ d) m x k (out_less i.indexed out m x f);
    } where
      was : (y : ℕ × X) → Contains new.recent.items y → Contains pool.recent.items y
      was y c = (Contains-filter (λ (y : ℕ × X). not (y.0 == n)) pool.recent.items y (rw (sym recent) c)).0

  -- those that fail a test go
  module _ (test : ℕ × X → Bool) (new : Pool X) (u : IsUnique nat_eq new.early) (is : new.early.entries ≡ filter test pool.early.entries) (recent : new.recent.items ≡ filter test pool.recent.items) where
    pub filtered_all : all_of new ≡ filter test (all_of pool)
    filtered_all =
        ap (λ ys. ys ++ new.recent.items) (listed_filter pool.early new.early i.indexed.unique u test is)
        ∙ (ap (λ ys. filter test (in_order pool.early.entries) ++ ys) recent ∙ sym (filter-append test (in_order pool.early.entries) pool.recent.items))

    pub filtered_pool : new.wild ≡ pool.wild → ((k : ℕ) → SweepsFor new.early (numbers_at pool.buckets k) (numbers_at new.buckets k)) → deque_len new.recent ≤ deque_len pool.recent → IsPool K count new
    filtered_pool w s l =
        less_pool new w u (filter_less pool.early new.early i.indexed.unique u test is) s (rw recent (ascending_filter test pool.recent.items i.ascending))
        (λ y c. (Contains-filter test pool.recent.items y (rw (sym recent) c)).0) l

-- no entries
pub empty_pool : {X : Type 0} {K : X → ℕ → Type 0} (pool : Pool X) → IsUnique nat_eq pool.early → pool.early.entries ≡ [] → pool.buckets.entries ≡ [] → pool.recent.items ≡ [] → IsPool K 0 pool
empty_pool {X} {K} pool u e b l = record {
  top = 0;
  indexed = record {
    unique = u;
    below = λ n x f. absurd (let g : get nat_eq pool.early n ≡ None = no_entry n in cc);
    held = λ n x k f q. absurd (let g : get nat_eq pool.early n ≡ None = no_entry n in cc);
    rises = λ k. rw (no_numbers k) tt;
    within = λ k n c. absurd (Contains-none n (subst (λ ns. Contains ns n) (no_numbers k) c));
  };
  ascending = rw l tt;
  from = λ y c. absurd (Contains-none y (subst (λ ys. Contains ys y) l c));
  below = λ y c. absurd (Contains-none y (subst (λ ys. Contains ys y) l c));
  counted = omega arith;
  short = let q : deque_len pool.recent ≡ 0 = pool.recent.ok.0 ∙ ap length l in omega (arith, q);
  none_wild = λ d n x k f. absurd (let g : get nat_eq pool.early n ≡ None = no_entry n in cc);
} where
  no_entry : (n : ℕ) → get nat_eq pool.early n ≡ None
  no_entry n = ap (λ es. lookup (nat_eq n) es) e

  no_numbers : (k : ℕ) → numbers_at pool.buckets k ≡ []
  no_numbers k = ap (λ bs. numbers_of (lookup (nat_eq k) bs)) b
