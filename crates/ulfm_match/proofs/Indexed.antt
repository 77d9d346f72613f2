-- Entries and their buckets, from one state to the next.
use Rattle.std.proofs.Common.{◌≡◌, ℕ, ◌+◌, ◌≤◌, ◌⊎◌, inl, inr, refl, List, [], ◌∷◌, length, ap, sym, ◌∙◌, subst, arith, Bool, true, false, cond, Contains, Option, Some, None, is_some, nat_eq}
use Rattle.std.specs.Map.{lookup}
use Rattle.ulfm_match.proofs.Bucketed.{sweeps_none}
use Rattle.ulfm_match.proofs.Common.{Pattern, Admits, AdmitsSource, AdmitsTag, Envelope, Letter, Entries, Buckets, numbers_at, SweepsFor, Grows, TakesOut, IsIndexed, Passes, get, IsUnique, key_number, key_of, source_of, tag_of, source_at, tag_at, key_at, key_from, AsksOf, StandsFrom, IsKeyAt, IsKeyOf, IsKeyOfReceive, IsWild, NoneIsWild, WorldRank, Tag, Source, One, Any, exact_unsigned_eq}

source_key : (source : Source) (rank : WorldRank) → AdmitsSource source rank → (b : Bool) × (source_of source ≡ source_at b rank)
source_key (One named) rank a = (false, ap (λ (r : WorldRank). r.number) (sym a))
source_key (Any members) rank a = (true, refl)

tag_key : (named : Option Tag) (tag : Tag) → AdmitsTag named tag → (b : Bool) × (tag_of named ≡ tag_at b tag)
tag_key None tag a = (true, refl)
tag_key (Some named) tag a = (false, ap (λ (t : Tag). t.number) (sym a))

-- the key of a receive is one of those of each envelope that it admits
pub admits_key : (p : Pattern) (e : Envelope) → Admits p e → IsKeyAt e (key_of p)
admits_key p e a =
    let s = source_key p.source e.source a.source in
    let t = tag_key p.tag e.tag a.tag in
    record {
      any_source = s.0;
      any_tag = t.0;
      is = ap (λ n. key_number n (source_of p.source) (tag_of p.tag)) (sym a.context)
          ∙ (ap (λ n. key_number e.context.number n (tag_of p.tag)) s.1 ∙ ap (λ n. key_number e.context.number (source_at s.0 e.source) n) t.1);
    }

asked : (source : Source) (rank : WorldRank) → AdmitsSource source rank → AsksOf source rank.number
asked (One named) rank a = ap (λ (r : WorldRank). r.number) a
asked (Any members) rank a = (rank.in_range, a)

-- a letter in buckets that a pattern admits stands in the bucket of its source
pub kept_found : {p : Pattern} {top : ℕ} {es : Entries Letter} {bs : Buckets} → IsIndexed IsKeyOf top es bs → (m : ℕ) → Passes (λ (l : Letter). Admits p l.envelope) es m → StandsFrom p bs m
kept_found {p} i m q =
    let e = q.entry.envelope in
    let t = tag_key p.tag e.tag q.passes.tag in
    let is : key_from e.source.number p ≡ key_at false t.0 e =
    ap (λ n. key_number n e.source.number (tag_of p.tag)) (sym q.passes.context) ∙ ap (λ n. key_number e.context.number e.source.number n) t.1 in
    (e.source.number, asked p.source e.source q.passes.source, i.held m q.entry (key_from e.source.number p) q.found (t.0, is))

-- a receive in buckets that admits a letter stands in the bucket of one of its keys
pub waiting_found : (e : Envelope) (top : ℕ) (es : Entries Pattern) (bs : Buckets) → IsIndexed IsKeyOfReceive top es bs → (m : ℕ) → Passes (λ (p : Pattern). Admits p e) es m → (k : ℕ) × IsKeyAt e k × Contains (numbers_at bs k) m
waiting_found e top es bs i m q = (key_of q.entry, admits_key q.entry e q.passes, i.held m q.entry (key_of q.entry) q.found refl)

-- a key of the envelope that isn't wild names its source and its tag
not_wild : (e : Envelope) (k : ℕ) (a b : Bool) → k ≡ key_at a b e → (IsWild k → ⊥) → k ≡ key_at false false e
not_wild e k false false is f = is
not_wild e k true b is f = absurd (f (record { envelope = e; any_source = true; any_tag = b; is_wild = inl refl; is = is }))
not_wild e k false true is f = absurd (f (record { envelope = e; any_source = false; any_tag = true; is_wild = inr refl; is = is }))

-- where none is wild, a receive in buckets that admits a letter stands in the bucket of the letter's source and tag
pub named_found : (e : Envelope) (top : ℕ) (es : Entries Pattern) (bs : Buckets) → IsIndexed IsKeyOfReceive top es bs → NoneIsWild IsKeyOfReceive es → (m : ℕ) → Passes (λ (p : Pattern). Admits p e) es m → Contains (numbers_at bs (key_at false false e)) m
named_found e top es bs i none m q =
    let a = admits_key q.entry e q.passes in
    let is = not_wild e (key_of q.entry) a.any_source a.any_tag a.is (none m q.entry (key_of q.entry) q.found refl) in
    subst (λ k. Contains (numbers_at bs k) m) is (i.held m q.entry (key_of q.entry) q.found refl)

four_cases : (e : Envelope) (M : ℕ → Type 0) (k1 k2 k3 k4 k : ℕ) → k1 ≡ key_at false false e → k2 ≡ key_at false true e → k3 ≡ key_at true false e → k4 ≡ key_at true true e → (a b : Bool) → k ≡ key_at a b e → M k → (M k1 ⊎ M k2) ⊎ (M k3 ⊎ M k4)
four_cases e M k1 k2 k3 k4 k e1 e2 e3 e4 false false is m = inl (inl (subst M (is ∙ sym e1) m))
four_cases e M k1 k2 k3 k4 k e1 e2 e3 e4 false true is m = inl (inr (subst M (is ∙ sym e2) m))
four_cases e M k1 k2 k3 k4 k e1 e2 e3 e4 true false is m = inr (inl (subst M (is ∙ sym e3) m))
four_cases e M k1 k2 k3 k4 k e1 e2 e3 e4 true true is m = inr (inr (subst M (is ∙ sym e4) m))

-- what holds at a key of a letter holds at one of the four
pub one_of_four : (e : Envelope) (M : ℕ → Type 0) (k1 k2 k3 k4 : ℕ) → k1 ≡ key_at false false e → k2 ≡ key_at false true e → k3 ≡ key_at true false e → k4 ≡ key_at true true e → (k : ℕ) → IsKeyAt e k → M k → (M k1 ⊎ M k2) ⊎ (M k3 ⊎ M k4)
one_of_four e M k1 k2 k3 k4 e1 e2 e3 e4 k is m = four_cases e M k1 k2 k3 k4 k e1 e2 e3 e4 is.any_source is.any_tag is.is m

pub some_same : {X : Type 0} {o : Option X} {x y : X} → o ≡ Some x → o ≡ Some y → x ≡ y
some_same e f = cc

-- an entry was there before another came, or is that one
pub old_or_new : {X : Type 0} (es es' : Entries X) (n : ℕ) (x : X) → ((m : ℕ) → get nat_eq es' m ≡ cond (nat_eq n m) (Some x) (get nat_eq es m)) → (m : ℕ) (y : X) → get nat_eq es' m ≡ Some y → ((n ≡ m) × (x ≡ y)) ⊎ (get nat_eq es m ≡ Some y)
old_or_new es es' n x is m y f = by (nat_eq n m) refl (sym (is m) ∙ f)
  where
    by : (b : Bool) → nat_eq n m ≡ b → cond b (Some x) (get nat_eq es m) ≡ Some y → ((n ≡ m) × (x ≡ y)) ⊎ (get nat_eq es m ≡ Some y)
    by true e f = inl (exact_unsigned_eq n m e, some_same refl f)
    by false e f = inr f

-- none is wild once one more came that isn't
pub more_named : {X : Type 0} {K : X → ℕ → Type 0} (es es' : Entries X) (n : ℕ) (x : X) → ((m : ℕ) → get nat_eq es' m ≡ cond (nat_eq n m) (Some x) (get nat_eq es m)) → NoneIsWild K es → ((k : ℕ) → K x k → IsWild k → ⊥) → NoneIsWild K es'
more_named {X} {K} es es' n x is none one m y k f q = elim (old_or_new es es' n x is m y f) [
  | inl e ↦ one k (subst (λ z. K z k) (sym e.1) q)
  | inr o ↦ none m y k o q
]

-- among no entries none passes
pub none_of_none : {X : Type 0} (P : X → Type 0) (es : Entries X) → length es.entries ≡ 0 → (n : ℕ) → Passes P es n → ⊥
none_of_none {X} P es e n q = by es.entries e q.found
  where
    by : (xs : List (ℕ × X)) → length xs ≡ 0 → lookup (nat_eq n) xs ≡ Some q.entry → ⊥
    by [] e f = cc
    by (x ∷ xs) e f = absurd (omega (arith, e))

module _ {X : Type 0} {K : X → ℕ → Type 0} {top : ℕ} {es : Entries X} {bs : Buckets} (i : IsIndexed K top es bs) where
  -- entries go
  pub less_indexed : {es' : Entries X} {bs' : Buckets} → IsUnique nat_eq es' → ((n : ℕ) (x : X) → get nat_eq es' n ≡ Some x → get nat_eq es n ≡ Some x) → ((k : ℕ) → SweepsFor es' (numbers_at bs k) (numbers_at bs' k)) → IsIndexed K top es' bs'
  less_indexed u sub s = record {
    unique = u;
    below = λ n x f. i.below n x (sub n x f);
    held = λ n x k f q. (s k).keeps n (i.held n x k (sub n x f) q) (ap is_some f);
    rises = λ k. (s k).rises (i.rises k);
    within = λ k n c. i.within k n ((s k).from n c);
  }

  -- what is left was there
  pub out_less : {n : ℕ} {es' : Entries X} {bs' : Buckets} → TakesOut n es es' bs bs' → (m : ℕ) (x : X) → get nat_eq es' m ≡ Some x → get nat_eq es m ≡ Some x
  out_less {n} t m x f = by (nat_eq n m) (sym (t.updates m) ∙ f)
    where
      by : (b : Bool) → cond b None (get nat_eq es m) ≡ Some x → get nat_eq es m ≡ Some x
      by true e = cc
      by false e = e

  pub out_indexed : {n : ℕ} {es' : Entries X} {bs' : Buckets} → TakesOut n es es' bs bs' → IsIndexed K top es' bs'
  out_indexed t = less_indexed t.unique (out_less t) t.sweeps

  -- entries with a copy of their buckets stay indexed
  pub copied_indexed : {es' : Entries X} {bs' : Buckets} → es'.entries ≡ es.entries → IsUnique nat_eq es' → ((k : ℕ) → numbers_at bs' k ≡ numbers_at bs k) → IsIndexed K top es' bs'
  copied_indexed {es'} e u b = less_indexed u (λ n x f. subst (λ xs. lookup (nat_eq n) xs ≡ Some x) e f) (λ k. subst (SweepsFor es' (numbers_at bs k)) (sym (b k)) (sweeps_none _ (numbers_at bs k)))

  module _ (n : ℕ) (above : top ≤ n) {bs' : Buckets} (g : (k : ℕ) → Grows n (numbers_at bs k) (numbers_at bs' k)) where
    -- the number of an entry that isn't there is put into some buckets
    pub grown_indexed : IsIndexed K n es bs'
    grown_indexed = record {
      unique = i.unique;
      below = λ m x f. let l = i.below m x f in omega (arith, l, above);
      held = λ m x k f q. (g k).keeps m (i.held m x k f q);
      rises = λ k. (g k).rises (i.rises k) (λ m c. let l = i.within k m c in omega (arith, l, above));
      within = λ k m c. elim ((g k).from m c) [ inl d ↦ (let l = i.within k m d in omega (arith, l, above)) | inr e ↦ (let q : m ≡ n = e in omega (arith, q)) ];
    }

    -- it is put into all of its buckets, and comes
    pub more_indexed : {es' : Entries X} (x : X) → IsUnique nat_eq es' → ((m : ℕ) → get nat_eq es' m ≡ cond (nat_eq n m) (Some x) (get nat_eq es m)) → ((k : ℕ) → K x k → Contains (numbers_at bs' k) n) → IsIndexed K (n + 1) es' bs'
    more_indexed {es'} x u is put = record {
      unique = u;
      below = λ m y f. elim (old_or_new es es' n x is m y f) [ inl e ↦ (let q : n ≡ m = e.0 in omega (arith, q)) | inr o ↦ (let l = i.below m y o in omega (arith, l, above)) ];
      held = λ m y k f q. elim (old_or_new es es' n x is m y f) [
        | inl e ↦ subst (λ j. Contains (numbers_at bs' k) j) e.0 (put k (subst (λ z. K z k) (sym e.1) q))
        | inr o ↦ (g k).keeps m (i.held m y k o q)
      ];
      rises = grown_indexed.rises;
      within = λ k m c. let l = grown_indexed.within k m c in omega (arith, l);
    }
