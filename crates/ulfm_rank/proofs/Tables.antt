-- The table of requests when the history grows by one event.
use Rattle.std.proofs.Common.{◌≡◌, ◌≢◌, ℕ, ◌<◌, ◌⊎◌, inl, inr, Bool, true, false, cond, eqb, List, [], ◌∷◌, ◌++◌, length, refl, ap, sym, ◌∙◌, subst, Option, Some, None, arith, eqb-true}
use Rattle.ulfm_rank.proofs.Common.{Pattern, MatchEvent, Post, Come, End, Clear, PostAt, count_before, Entry, Fate, Waiting, Paired, Found, Failed, Cleared, Request, is_released, is_probed, is_found, is_waiting, eq-eqb, ne_eqb, false_from_ne_true, Pairing, Pairs, IsWaiting, LawfulPairing, StandsFirst, IsOfGroup, Became, IsStanding, IsTable, slice_get_within, get_old, get_new, get_cases, length_more, count_old, count_below, count_front, count_rises, Adds, Changes, option_map, get_front, get_in_front}
use Rattle.ulfm_match.proofs.Steps.{waiting_to}

-- what stands first goes on standing first
pub first_on : (h xs : List MatchEvent) (i : ℕ) (e o : MatchEvent) → StandsFirst h i e o → StandsFirst (h ++ xs) i e o
first_on h xs i e o f =
    let l = slice_get_within h f.place e f.is in
    record {
      place = f.place;
      after = f.after;
      is = get_front h xs f.place e f.is;
      first = λ s. f.first (record { place = s.place; after = s.after; before = s.before; is = get_in_front h xs s.place o (let b = s.before in omega (arith, b, l)) s.is });
    }

module _ (h : List MatchEvent) (x : MatchEvent) (r r' : Pairing) (law : LawfulPairing h r) (keep : (i b : ℕ) → Pairs r i b → Pairs r' i b) where
  -- an fate that the event doesn't touch stays
  pub became_keeps : (i : ℕ) (p : Pattern) (o : Fate) → ((b : ℕ) → Pairs r' i b → Pairs r i b) → (o ≡ Waiting → (x ≢ End i) × (x ≢ Clear p.context.number)) → Became h r i p o → Became (h ++ x ∷ []) r' i p o
  became_keeps i p Waiting only still w =
      let ne = still refl in
      subst (IsWaiting (h ++ x ∷ []) r' i p) (sym (length_more h x)) (waiting_to h x r r' law keep i p ne.0 ne.1 only w)
  became_keeps i p (Paired l) only still g = record { place = g.place; pairs = keep i g.place g.pairs; came = get_old h x g.place (Come l) g.came }
  became_keeps i p (Found l) only still g = record { place = g.place; pairs = keep i g.place g.pairs; came = get_old h x g.place (Come l) g.came }
  became_keeps i p Failed only still w = (λ b q. w.0 b (only b q), first_on h (x ∷ []) i (End i) (Clear p.context.number) w.1)
  became_keeps i p Cleared only still w = (λ b q. w.0 b (only b q), first_on h (x ∷ []) i (Clear p.context.number) (End i) w.1)

-- another fate where b holds leaves the pattern
pub refated : (b : Bool) (o : Fate) (q : Request) → (cond b (record { pattern = q.pattern; fate = o }) q).pattern ≡ q.pattern
refated true o q = refl
refated false o q = refl

-- and its kind, where the request is no message before and after
pub same_kind : (b : Bool) (o : Fate) (q : Request) → is_found o ≡ false → (b ≡ true → is_found q.fate ≡ false) → is_found (cond b (record { pattern = q.pattern; fate = o }) q).fate ≡ is_found q.fate
same_kind true o q new old = new ∙ sym (old refl)
same_kind false o q new old = refl

-- what waits is no message
pub waiting_receive : (o : Fate) → is_waiting o ≡ true → is_found o ≡ false
waiting_receive Waiting e = refl
waiting_receive (Paired l) e = cc
waiting_receive (Found l) e = cc
waiting_receive Failed e = cc
waiting_receive Cleared e = cc

-- a history with one more event that is no post has no more posts
pub no_post : (h : List MatchEvent) (x : MatchEvent) → ((p : Pattern) → x ≢ Post p) → (i : ℕ) (p : Pattern) → PostAt (h ++ x ∷ []) i p → PostAt h i p
no_post h x never i p at = elim (get_cases h x i (Post p) at) [ inl old ↦ old | inr new ↦ absurd (never p new.1) ]

-- what changes to a request was one before (apart from tables, whose many facts would make `cc` slow)
was : (change : Request → Request) (o : Option Request) (q : Request) → option_map change o ≡ Some q → (w : Request) × (o ≡ Some w) × (change w ≡ q)
was change None q e = cc
was change (Some w) q e = (w, refl, let f : change w ≡ q = cc in f)

module _ (n : ℕ) (log : List Entry) (h es : List MatchEvent) (r r' : Pairing) (find find' : ℕ → Option Request) (t : IsTable n log h r find) where
  -- events with no post, by which requests change their outcomes alone
  pub table_change : ((i : ℕ) (p : Pattern) → PostAt (h ++ es) i p → PostAt h i p) → (change : ℕ → Request → Request) → Changes change find find'
      → ((id : ℕ) (q : Request) → (change id q).pattern ≡ q.pattern)
      → ((id : ℕ) (q : Request) → find id ≡ Some q → (s : IsStanding h r id q) → Became (h ++ es) r' s.place q.pattern (change id q).fate)
      → ((id : ℕ) (q : Request) → find id ≡ Some q → IsStanding h r id q → is_found (change id q).fate ≡ is_found q.fate)
      → IsTable n log (h ++ es) r' find'
  table_change posts change found same became kind = record {
    standing = λ id q f.
        let o = was (change id) (find id) q (sym (found id) ∙ f) in
        let s = t.standing id o.0 o.1 in
        let l = slice_get_within h s.place (Post o.0.pattern) s.posted in
        subst (IsStanding (h ++ es) r' id) o.2 (record {
          place = s.place;
          posted = subst (PostAt (h ++ es) s.place) (sym (same id o.0)) (get_front h es s.place (Post o.0.pattern) s.posted);
          numbered = count_front h es s.place (omega arith) ∙ s.numbered;
          fate = subst (λ (p : Pattern). Became (h ++ es) r' s.place p (change id o.0).fate) (sym (same id o.0)) (became id o.0 o.1 s);
        });
    of_group = λ id q f. let o = was (change id) (find id) q (sym (found id) ∙ f) in subst (IsOfGroup n log) (sym (same id o.0) ∙ ap (λ (w : Request). w.pattern) o.2) (t.of_group id o.0 o.1);
    unreleased = λ id q f. let o = was (change id) (find id) q (sym (found id) ∙ f) in t.unreleased id o.0 o.1;
    complete = λ i p posted free.
        let old = posts i p posted in
        let l = slice_get_within h i (Post p) old in
        let num = count_front h es i (omega arith) in
        let c = t.complete i p old (subst (λ k. is_released log k ≡ false) num free) in
        (change (count_before h i) c.0, subst (λ k. find' k ≡ Some (change (count_before h i) c.0)) (sym num) (found (count_before h i) ∙ ap (option_map (change (count_before h i))) c.1));
    released_below = λ id f. omega (arith, t.released_below id f, count_rises h es);
    kind = λ id q f.
        let o = was (change id) (find id) q (sym (found id) ∙ f) in
        subst (λ (w : Request). is_found w.fate ≡ is_probed log id) o.2 (kind id o.0 o.1 (t.standing id o.0 o.1) ∙ t.kind id o.0 o.1);
    probed_below = λ id f. omega (arith, t.probed_below id f, count_rises h es);
  }

module _ (n : ℕ) (log : List Entry) (h : List MatchEvent) (r r' : Pairing) (find find' : ℕ → Option Request) (t : IsTable n log h r find) (p : Pattern) (o : Fate) where
  -- a post adds one request
  pub table_post : is_found o ≡ false → IsOfGroup n log p → LawfulPairing h r → ((i b : ℕ) → Pairs r i b → Pairs r' i b) → ((i b : ℕ) → i < length h → Pairs r' i b → Pairs r i b)
      → Became (h ++ Post p ∷ []) r' (length h) p o → Adds (count_before h (length h)) (record { pattern = p; fate = o }) find find' → IsTable n log (h ++ Post p ∷ []) r' find'
  table_post receive world law keep only became found = record {
    standing = λ id q f.
        elim (had id q f) [
          | inl new ↦ subst (IsStanding (h ++ Post p ∷ []) r' id) new.1 (record { place = length h; posted = get_new h (Post p); numbered = count_old h (Post p) (length h) (omega arith) ∙ new.0; fate = became })
          | inr old ↦
              let s = t.standing id q old in
              let l = slice_get_within h s.place (Post q.pattern) s.posted in
              record {
                place = s.place;
                posted = get_old h (Post p) s.place (Post q.pattern) s.posted;
                numbered = count_old h (Post p) s.place (omega arith) ∙ s.numbered;
                fate = became_keeps h (Post p) r r' law keep s.place q.pattern q.fate (λ b. only s.place b l) (λ e. (λ g. cc, λ g. cc)) s.fate;
              }
        ];
    of_group = λ id q f. elim (had id q f) [ inl new ↦ subst (λ (w : Request). IsOfGroup n log w.pattern) new.1 world | inr old ↦ t.of_group id q old ];
    unreleased = λ id q f. elim (had id q f) [ inl new ↦ false_from_ne_true _ (λ g. omega (arith, t.released_below id g, new.0)) | inr old ↦ t.unreleased id q old ];
    complete = λ i q posted free.
        elim (get_cases h (Post p) i (Post q) posted) [
          | inl old ↦
              let l = slice_get_within h i (Post q) old in
              let num = count_old h (Post p) i (omega arith) in
              let c = t.complete i q old (rw num at free) in
              let less = count_below h i (length h) (Post q) old refl l in
              (c.0, rw num (found (count_before h i) ∙ (ap (λ b. cond b (Some (record { pattern = p; fate = o })) (find (count_before h i))) (ne_eqb (count_before h (length h)) (count_before h i) (λ e. omega (arith, less, e))) ∙ c.1)))
          | inr new ↦
              let num = ap (count_before (h ++ Post p ∷ [])) new.0 ∙ count_old h (Post p) (length h) (omega arith) in
              let here = count_before h (length h) in
              (record { pattern = p; fate = o }, rw num (found here ∙ ap (λ b. cond b (Some (record { pattern = p; fate = o })) (find here)) (eq-eqb here here refl)))
        ];
    released_below = λ id f. omega (arith, t.released_below id f, count_rises h (Post p ∷ []));
    kind = λ id q f. elim (had id q f) [
      | inl new ↦ ap (λ (w : Request). is_found w.fate) (sym new.1) ∙ receive ∙ sym (false_from_ne_true _ (λ g. omega (arith, t.probed_below id g, new.0)))
      | inr old ↦ t.kind id q old
    ];
    probed_below = λ id f. omega (arith, t.probed_below id f, count_rises h (Post p ∷ []));
  }
    where
      choose : (b : Bool) (id : ℕ) (q : Request) → eqb (count_before h (length h)) id ≡ b → cond b (Some (record { pattern = p; fate = o })) (find id) ≡ Some q → ((count_before h (length h) ≡ id) × ◌≡◌ {A = Request} (record { pattern = p; fate = o }) q) ⊎ (find id ≡ Some q)
      choose true id q e f = inl (eqb-true (count_before h (length h)) id e, cc)
      choose false id q e f = inr f

      had : (id : ℕ) (q : Request) → find' id ≡ Some q → ((count_before h (length h) ≡ id) × ◌≡◌ {A = Request} (record { pattern = p; fate = o }) q) ⊎ (find id ≡ Some q)
      had id q f = choose (eqb (count_before h (length h)) id) id q refl (sym (found id) ∙ f)
