-- A post and an arrival, with the table beside them.
use Rattle.std.proofs.Common.{◌≡◌, ◌≢◌, ℕ, ◌+◌, ◌<◌, inl, inr, Bool, true, false, cond, eqb, List, [], ◌∷◌, ◌++◌, length, refl, ap, sym, ◌∙◌, subst, Option, Some, None, arith, append_assoc, append-nil, eqb-true}
use Rattle.ulfm_rank.proofs.Common.{Pattern, Letter, Entry, Fate, Paired, Found, Request, Item, Contains-push, same_Some, Pairing, Pairs, LawfulPairing, Matching, Tracks, receive_within, IsUnpaired, IsOfGroup, Became, IsStanding, IsTable, is_found, letter_within, get_old, get_new, length_more, count_old, same_number, fate_of, changed, Adds, Changes, TracksItem, option_map, nat_tests, MatchEvent, Post, Come, End, Clear, PostAt, StandsBetween, count_before, post_events, item_events, TracksEnd}
use Rattle.ulfm_match.proofs.Steps.{pair_cases, pair_old, stands_nowhere}
use Rattle.ulfm_rank.proofs.Tables.{became_keeps, no_post, refated, same_kind, table_change, table_post}
use Rattle.ulfm_match.proofs.Determined.{Posts}

-- the pairing after a post
pub record IsPosted (h : List MatchEvent) (r : Pairing) (p : Pattern) (s : Matching) (o : Option Letter) : Type 0 where
  pub pairing : Pairing
  pub tracks : Tracks (h ++ Post p ∷ []) pairing s
  pub keep : (i b : ℕ) → Pairs r i b → Pairs pairing i b
  pub only : (i b : ℕ) → i < length h → Pairs pairing i b → Pairs r i b
  pub became : Became (h ++ Post p ∷ []) pairing (length h) p (fate_of o false)
  pub unpaired : o ≡ None → IsUnpaired pairing (length h)

pub posted : (h : List MatchEvent) (r : Pairing) (law : LawfulPairing h r) (p : Pattern) (s : Matching) (o : Option Letter) → Posts h r p s o → IsPosted h r p s o
posted h r law p s None t =
    let free : IsUnpaired r (length h) = λ b q. let l = receive_within h r law (length h) b q in absurd (omega arith) in
    record {
      pairing = r;
      tracks = t;
      keep = λ i b q. q;
      only = λ i b l q. q;
      became = record {
        live = record {
          posted = get_new h (Post p);
          before = let l = length_more h (Post p) in omega (arith, l);
          not_ended = λ s. stands_nowhere (subst (StandsBetween (h ++ Post p ∷ []) (End (length h)) (length h)) (length_more h (Post p)) s);
          not_cleared = λ s. stands_nowhere (subst (StandsBetween (h ++ Post p ∷ []) (Clear p.context.number) (length h)) (length_more h (Post p)) s);
        };
        unpaired = λ b l q. free b q;
      };
      unpaired = λ e. free;
    }
posted h r law p s (Some l) t = record {
  pairing = r ++ (length h, t.place) ∷ [];
  tracks = t.tracks;
  keep = pair_old r (length h) t.place;
  only = λ i b li q. elim (pair_cases r (length h) t.place i b q) [ inl old ↦ old | inr e ↦ absurd (let f = e.0 in omega arith) ];
  became = record { place = t.place; pairs = Contains-push r (length h, t.place); came = get_old h (Post p) t.place (Come l) t.came };
  unpaired = λ e. cc;
}

-- what is posted is no message
fate_receive : (o : Option Letter) (gone : Bool) → is_found (fate_of o gone) ≡ false
fate_receive None true = refl
fate_receive None false = refl
fate_receive (Some l) gone = refl

differ : (a b : ℕ) → eqb a b ≡ false → a ≢ b
differ a b e f = grind (arith, nat_tests)

-- the number of a request is that of one place
pub same_place : (h : List MatchEvent) (r : Pairing) (id : ℕ) (q : Request) (s : IsStanding h r id q) (i : ℕ) (p : Pattern) → PostAt h i p → count_before h i ≡ id → s.place ≡ i
same_place h r id q s i p here e = same_number h s.place i (Post q.pattern) (Post p) s.posted refl here refl (s.numbered ∙ sym e)

-- what a post leads to
abbrev pub AdmitsTo : Bool → Pattern → List MatchEvent → Pairing → Matching → Fate → Type 0
AdmitsTo gone p h r s o =
    (r' : Pairing) × Tracks (h ++ post_events gone h p) r' s
    × ((n : ℕ) (entries : List Entry) (find find' : ℕ → Option Request) → IsOfGroup n entries p → IsTable n entries h r find → Adds (count_before h (length h)) (record { pattern = p; fate = o }) find find' → IsTable n entries (h ++ post_events gone h p) r' find')

-- a post that isn't over at once
pub admitted : (p : Pattern) (h : List MatchEvent) (r : Pairing) (law : LawfulPairing h r) (s : Matching) (o : Option Letter) → Posts h r p s o → AdmitsTo false p h r s (fate_of o false)
admitted p h r law s o t =
    let d = posted h r law p s o t in (
      d.pairing,
      d.tracks,
      λ n entries find find' of t adds. table_post n entries h r d.pairing find find' t p (fate_of o false) (fate_receive o false) of law d.keep d.only d.became adds,
    )

pub map_same : (o : Option Request) (f : Request → Request) → ((q : Request) → f q ≡ q) → option_map f o ≡ o
map_same None f e = refl
map_same (Some q) f e = ap Some (e q)

-- the new request's fate after its end, in the table that the post left
ended_table : (id : ℕ) (p : Pattern) (a b : Fate) (find find' : ℕ → Option Request) → Adds id (record { pattern = p; fate = b }) find find' → (k : ℕ) → find' k ≡ option_map (changed id b k) (cond (eqb id k) (Some (record { pattern = p; fate = a })) (find k))
ended_table id p a b find find' adds k = adds k ∙ pick (eqb id k) refl
  where
    pick : (c : Bool) → eqb id k ≡ c → cond c (Some (record { pattern = p; fate = b })) (find k) ≡ option_map (changed id b k) (cond c (Some (record { pattern = p; fate = a })) (find k))
    pick true e = ap (λ c. Some (cond c (record { pattern = p; fate = b }) (record { pattern = p; fate = a }))) (sym e)
    pick false e = sym (map_same (find k) (changed id b k) (λ q. ap (λ c. cond c (record { pattern = q.pattern; fate = b }) q) e))

-- by cases whether the request is the one that changes
changed_became : (h : List MatchEvent) (r : Pairing) (id : ℕ) (o : Fate) (k : ℕ) (q : Request) (i : ℕ) → (id ≡ k → Became h r i q.pattern o) → (id ≢ k → Became h r i q.pattern q.fate) → Became h r i q.pattern (changed id o k q).fate
changed_became h r id o k q i here there = pick (eqb id k) refl
  where
    pick : (c : Bool) → eqb id k ≡ c → Became h r i q.pattern (cond c (record { pattern = q.pattern; fate = o }) q).fate
    pick true e = here (eqb-true id k e)
    pick false e = there (differ id k e)

-- the receive at the last place ends: it keeps its letter, or is over
over : (h1 : List MatchEvent) (r : Pairing) (i : ℕ) (p q : Pattern) (o : Option Letter) → length h1 ≡ i + 1 → Became h1 r i p (fate_of o false) → (o ≡ None → IsUnpaired r i) → Became (h1 ++ End i ∷ []) r i q (fate_of o true)
over h1 r i p q None l b u = (
  u refl,
  record {
    place = length h1;
    after = omega (arith, l);
    is = get_new h1 (End i);
    first = λ s. stands_nowhere (subst (StandsBetween (h1 ++ End i ∷ []) (Clear q.context.number) i) l s);
  },
)
over h1 r i p q (Some letter) l b u = record { place = b.place; pairs = b.pairs; came = get_old h1 (End i) b.place (Come letter) b.came }

-- a post that is over at once
pub admitted_over : (p : Pattern) (h : List MatchEvent) (r : Pairing) (law : LawfulPairing h r) (s s' : Matching) (o : Option Letter) → Posts h r p s o → TracksEnd (count_before h (length h)) s s' → AdmitsTo true p h r s' (fate_of o true)
admitted_over p h r law s s' o t ends =
    let d = posted h r law p s o t in
    let h1 = h ++ Post p ∷ [] in
    let F = λ (g : List MatchEvent). (r' : Pairing) × Tracks g r' s' × ((n : ℕ) (entries : List Entry) (find find' : ℕ → Option Request) → IsOfGroup n entries p → IsTable n entries h r find → Adds (count_before h (length h)) (record { pattern = p; fate = fate_of o true }) find find' → IsTable n entries g r' find') in
    let long = append_assoc h (Post p ∷ []) (End (length h) ∷ []) in
    subst F long (
      d.pairing,
      ends h1 d.pairing (length h) p (get_new h (Post p)) (count_old h (Post p) (length h) (omega arith)) d.tracks,
      λ n entries find find' of t adds.
          let find1 : ℕ → Option Request = λ k. cond (eqb (count_before h (length h)) k) (Some (record { pattern = p; fate = fate_of o false })) (find k) in
          let t1 = table_post n entries h r d.pairing find find1 t p (fate_of o false) (fate_receive o false) of law d.keep d.only d.became (λ k. refl) in
          table_change n entries h1 (End (length h) ∷ []) d.pairing d.pairing find1 find' t1 (no_post h1 (End (length h)) (λ q e. cc)) (changed (count_before h (length h)) (fate_of o true))
          (ended_table (count_before h (length h)) p (fate_of o false) (fate_of o true) find find' adds)
          (λ k q. refated (eqb (count_before h (length h)) k) (fate_of o true) q)
          (λ k q f w.
          changed_became (h1 ++ End (length h) ∷ []) d.pairing (count_before h (length h)) (fate_of o true) k q w.place
          (λ e.
          let same = same_place h1 d.pairing k q w (length h) p (get_new h (Post p)) (count_old h (Post p) (length h) (omega arith) ∙ e) in
          subst (λ m. Became (h1 ++ End (length h) ∷ []) d.pairing m q.pattern (fate_of o true)) (sym same) (over h1 d.pairing (length h) p q.pattern o (length_more h (Post p)) d.became d.unpaired))
          (λ ne.
          became_keeps h1 (End (length h)) d.pairing d.pairing d.tracks.lawful (λ i b q. q) w.place q.pattern q.fate (λ b q. q)
          (λ e. (λ g. let f : length h ≡ w.place = cc in ne (sym (count_old h (Post p) (length h) (omega arith)) ∙ (ap (count_before h1) f ∙ w.numbered)), λ g. cc))
          w.fate))
          (λ k q f w. same_kind (eqb (count_before h (length h)) k) (fate_of o true) q (fate_receive o true) (λ e. new_receive (count_before h (length h)) p o k q (find k) e f)),
    )
  where
    new_receive : (id : ℕ) (p : Pattern) (o : Option Letter) (k : ℕ) (q : Request) (old : Option Request) → eqb id k ≡ true → cond (eqb id k) (Some (record { pattern = p; fate = fate_of o false })) old ≡ Some q → is_found q.fate ≡ false
    new_receive id p o k q old e f =
        let here : Some (record { pattern = p; fate = fate_of o false }) ≡ Some q = sym (ap (λ b. cond b (Some (record { pattern = p; fate = fate_of o false })) old) e) ∙ f in
        ap (λ (w : Request). is_found w.fate) (sym (same_Some _ q here)) ∙ fate_receive o false

module _ (n : ℕ) (entries : List Entry) (h : List MatchEvent) (r : Pairing) (law : LawfulPairing h r) (l : Letter) (find : ℕ → Option Request) (t : IsTable n entries h r find) where
  -- a letter that is kept changes no request
  pub come_kept : IsTable n entries (h ++ Come l ∷ []) r find
  come_kept =
      table_change n entries h (Come l ∷ []) r r find find t (no_post h (Come l) (λ q e. cc)) (λ k q. q) (λ k. sym (map_same (find k) (λ q. q) (λ q. refl))) (λ k q. refl)
      (λ k q f s. became_keeps h (Come l) r r law (λ i b q. q) s.place q.pattern q.fate (λ b q. q) (λ e. (λ g. cc, λ g. cc)) s.fate) (λ k q f s. refl)

  -- a letter that is paired with the receive at i0
  pub come_paired : (i0 : ℕ) (p0 : Pattern) (id : ℕ) → PostAt h i0 p0 → count_before h i0 ≡ id → LawfulPairing (h ++ Come l ∷ []) (r ++ (i0, length h) ∷ []) → (find' : ℕ → Option Request) → Changes (changed id (Paired l)) find find' → IsTable n entries (h ++ Come l ∷ []) (r ++ (i0, length h) ∷ []) find'
  come_paired i0 p0 id here num law' find' change =
      table_change n entries h (Come l ∷ []) r (r ++ (i0, length h) ∷ []) find find' t (no_post h (Come l) (λ q e. cc)) (changed id (Paired l)) change (λ k q. refated (eqb id k) (Paired l) q)
      (λ k q f s.
      changed_became (h ++ Come l ∷ []) (r ++ (i0, length h) ∷ []) id (Paired l) k q s.place
      (λ e.
      let same : i0 ≡ s.place = sym (same_place h r k q s i0 p0 here (num ∙ e)) in
      record {
        place = length h;
        pairs = subst (λ m. Pairs (r ++ (i0, length h) ∷ []) m (length h)) same (Contains-push r (i0, length h));
        came = get_new h (Come l);
      })
      (λ ne.
      became_keeps h (Come l) r (r ++ (i0, length h) ∷ []) law (pair_old r i0 (length h)) s.place q.pattern q.fate
      (λ b q'. elim (pair_cases r i0 (length h) s.place b q') [ inl old ↦ old | inr e ↦ absurd (ne (sym num ∙ (ap (count_before h) (sym e.0) ∙ s.numbered))) ])
      (λ e. (λ g. cc, λ g. cc)) s.fate))
      (λ k q f s.
      same_kind (eqb id k) (Paired l) q refl (λ e.
      unpaired_receive s.place q.pattern q.fate
      (λ b p.
      let same : i0 ≡ s.place = sym (same_place h r k q s i0 p0 here (num ∙ eqb-true id k e)) in
      let two = law'.one_letter i0 b (length h) (pair_old r i0 (length h) i0 b (subst (λ m. Pairs r m b) (sym same) p)) (Contains-push r (i0, length h)) in
      omega (arith, two, letter_within h r law s.place b p)) s.fate))
    where
      unpaired_receive : (i : ℕ) (p : Pattern) (o : Fate) → IsUnpaired r i → Became h r i p o → is_found o ≡ false
      unpaired_receive i p (Found m) free g = absurd (free g.place g.pairs)
      unpaired_receive i p (Paired m) free g = refl
      unpaired_receive i p _ free g = refl

-- an item that gives no event
pub nothing_happens : (revoked : Bool) (s : ℕ) (item : Item) (m : Matching) (find : ℕ → Option Request) → ((h : List MatchEvent) → item_events revoked h s item ≡ []) → TracksItem revoked s item m find m find
nothing_happens revoked s item m find none n entries h r t table =
    subst (λ g. (r' : Pairing) × Tracks g r' m × IsTable n entries g r' find) (sym (ap (λ xs. h ++ xs) (none h) ∙ append-nil h)) (r, t, table)
