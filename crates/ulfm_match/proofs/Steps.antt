-- A history longer by one event: what waits and what is kept.
use Rattle.std.proofs.Common.{◌≡◌, ◌≢◌, ℕ, ◌+◌, ◌<◌, ◌⊎◌, inl, inr, List, [], ◌∷◌, ◌++◌, length, ap, sym, ◌∙◌, Some, arith, add-one, slice_get, true, false, ◌↔◌}
use Rattle.ulfm_match.proofs.Common.{Pattern, Letter, MatchEvent, Post, Come, End, Clear, PostAt, ComeAt, StandsBetween, IsWellFormed, counts_as, count_before, Pairing, Pairs, IsWaiting, IsKept, LawfulPairing, Matching, is_cleared, Lists, IsUncleared, Tracks, Contains-append_left, Contains-push_cases, slice_get_within}
use Rattle.ulfm_match.proofs.Decide.{eq_either, paired_receive, paired_letter}
use Rattle.ulfm_match.proofs.Histories.{receive_more, receive_less, letter_more, letter_less, count_old, count_new}
use Rattle.ulfm_base.proofs.Longer.{get_old, get_new, get_cases, get_below, get_last, length_more}
use Rattle.ulfm_match.proofs.Extend.{receive_within, letter_within}

-- the longer history is one
pub history_more : (h : List MatchEvent) (x : MatchEvent) → IsWellFormed h → ((i : ℕ) → x ≡ End i → (p : Pattern) × (i < length h) × PostAt h i p) → ((p : Pattern) → x ≡ Post p → IsUncleared h p.context.number) → ((l : Letter) → x ≡ Come l → IsUncleared h l.envelope.context.number) → IsWellFormed (h ++ x ∷ [])
history_more h x wf ends posts letters = record {
  ends = λ i k g.
      elim (get_cases h x k (End i) g) [
        | inl o ↦ let e = wf.ends i k o in (e.0, e.1, get_old h x i (Post e.0) e.2)
        | inr n ↦ let e = ends i n.1 in (e.0, let q : k ≡ length h = n.0 in let l : i < length h = e.1 in omega arith, get_old h x i (Post e.0) e.2)
      ];
  no_posts = λ k i p below posted cleared.
      elim (get_cases h x i (Post p) posted) [
        | inl o ↦
            let li : i < length h = within i (Post p) o in
            wf.no_posts k i p below o (get_below h x k (Clear p.context.number) (omega arith) cleared)
        | inr n ↦
            let q : i ≡ length h = n.0 in
            posts p n.1 k (get_below h x k (Clear p.context.number) (omega arith) cleared)
      ];
  no_letters = λ k b l below came cleared.
      elim (get_cases h x b (Come l) came) [
        | inl o ↦
            let lb : b < length h = within b (Come l) o in
            wf.no_letters k b l below o (get_below h x k (Clear l.envelope.context.number) (omega arith) cleared)
        | inr n ↦
            let q : b ≡ length h = n.0 in
            letters l n.1 k (get_below h x k (Clear l.envelope.context.number) (omega arith) cleared)
      ];
} where
  within : (k : ℕ) (e : MatchEvent) → slice_get h k ≡ Some e → k < length h
  within = slice_get_within h

-- a receive is posted in an open context
module _ (h : List MatchEvent) (p : Pattern) where
  pub posted_more : IsWellFormed h → IsUncleared h p.context.number → IsWellFormed (h ++ Post p ∷ [])
  posted_more wf open' = history_more h (Post p) wf (λ i e. cc) (λ q e. let f : q ≡ p = cc in rw f open') (λ l e. cc)

  pub posted_here : (q : Pattern) (i : ℕ) → i ≡ length h → PostAt (h ++ Post p ∷ []) i q → p ≡ q
  posted_here q i e posted = let g = get_last h (Post p) (Post q) (rw (sym e) posted) in cc

-- a letter comes in an open context
module _ (h : List MatchEvent) (l : Letter) where
  pub come_more : IsWellFormed h → IsUncleared h l.envelope.context.number → IsWellFormed (h ++ Come l ∷ [])
  come_more wf open' = history_more h (Come l) wf (λ i e. cc) (λ q e. cc) (λ m e. let f : m ≡ l = cc in rw f open')

  pub come_here : (m : Letter) (b : ℕ) → b ≡ length h → ComeAt (h ++ Come l ∷ []) b m → l ≡ m
  come_here m b e came = let g = get_last h (Come l) (Come m) (rw (sym e) came) in cc

pub pair_cases : (r : Pairing) (i0 b0 i b : ℕ) → Pairs (r ++ (i0, b0) ∷ []) i b → Pairs r i b ⊎ ((i ≡ i0) × (b ≡ b0))
pair_cases r i0 b0 i b p =
    elim (Contains-push_cases r (i0, b0) (i, b) p) [
      | inl o ↦ inl o
      | inr e ↦ inr (ap (λ (w : ℕ × ℕ). w.0) (sym e), ap (λ (w : ℕ × ℕ). w.1) (sym e))
    ]

pub pair_old : (r : Pairing) (i0 b0 i b : ℕ) → Pairs r i b → Pairs (r ++ (i0, b0) ∷ []) i b
pair_old r i0 b0 i b p = Contains-append_left r ((i0, b0) ∷ []) (i, b) p

pub stands_nowhere : {h : List MatchEvent} {e : MatchEvent} {n : ℕ} → StandsBetween h e n (n + 1) → ⊥
stands_nowhere {h} {e} {n} s = let a : n < s.place = s.after in let b : s.place < n + 1 = s.before in absurd (omega arith)

-- what counts as cleared after one more event
module _ (h : List MatchEvent) (x : MatchEvent) (s s' : Matching) (held : (c : ℕ) → (is_cleared s c ≡ false) ↔ IsUncleared h c) where
  less : (c : ℕ) → IsUncleared (h ++ x ∷ []) c → is_cleared s c ≡ false
  less c u = (held c).1 (λ k g. u k (get_old h x k (Clear c) g))

  more : (c : ℕ) → is_cleared s c ≡ false → x ≢ Clear c → IsUncleared (h ++ x ∷ []) c
  more c o n k g = elim (get_cases h x k (Clear c) g) [ inl y ↦ (held c).0 o k y | inr y ↦ n y.1 ]

  pub cleared_same : s'.cleared ≡ s.cleared → ((c : ℕ) → x ≢ Clear c) → (c : ℕ) → (is_cleared s' c ≡ false) ↔ IsUncleared (h ++ x ∷ []) c
  cleared_same e n c = rw e (λ o. more c o (n c), less c)

  pub cleared_also : (d : ℕ) → x ≡ Clear d → is_cleared s' d ≡ true → ((c : ℕ) → c ≢ d → is_cleared s' c ≡ is_cleared s c) → (c : ℕ) → (is_cleared s' c ≡ false) ↔ IsUncleared (h ++ x ∷ []) c
  cleared_also d is here there c =
      elim (eq_either c d) [
        | inl e ↦ (λ o. (let y = here in cc), λ u. absurd (u (length h) (get_new h x ∙ ap (λ (y : MatchEvent). Some y) (is ∙ ap (λ (n : ℕ). Clear n) (sym e)))))
        | inr n ↦ (λ o. more c (sym (there c n) ∙ o) (λ g. let same : d ≡ c = cc in n (sym same)), λ u. there c n ∙ less c u)
      ]

pub tracks : (h : List MatchEvent) (x : MatchEvent) (r : Pairing) (s : Matching) → IsWellFormed (h ++ x ∷ []) → LawfulPairing (h ++ x ∷ []) r → ((c : ℕ) → (is_cleared s c ≡ false) ↔ IsUncleared (h ++ x ∷ []) c) → s.count ≡ count_before h (length h) + counts_as x → Lists (h ++ x ∷ []) (λ i p. IsWaiting (h ++ x ∷ []) r i p (length h + 1)) s.waiting → Lists (h ++ x ∷ []) (λ b l. IsKept (h ++ x ∷ []) r b l (length h + 1)) s.kept → Tracks (h ++ x ∷ []) r s
tracks h x r s wf law m c w k =
    let e = sym (length_more h x) in
    record {
      well_formed = wf;
      lawful = law;
      remains = record {
        count = c ∙ sym (count_new h x) ∙ ap (count_before (h ++ x ∷ [])) (sym (add-one (length h)) ∙ e);
        waiting = rw (sym e) w;
        kept = rw (sym e) k;
        cleared = m;
      };
    }

module _ (h : List MatchEvent) (x : MatchEvent) (r r' : Pairing) (law : LawfulPairing h r) (keep : (i b : ℕ) → Pairs r i b → Pairs r' i b) where
  pub waiting_to : (i : ℕ) (p : Pattern) → x ≢ End i → x ≢ Clear p.context.number → ((b : ℕ) → Pairs r' i b → Pairs r i b) → IsWaiting h r i p (length h) → IsWaiting (h ++ x ∷ []) r' i p (length h + 1)
  waiting_to i p ne nc old w = record {
    live = receive_more h x ne nc w.live;
    unpaired = λ b lb q. w.unpaired b (letter_within h r law i b (old b q)) (old b q);
  }

  pub waiting_back : (i : ℕ) (p : Pattern) → i < length h → IsWaiting (h ++ x ∷ []) r' i p (length h + 1) → IsWaiting h r i p (length h)
  waiting_back i p l w = record { live = receive_less h x l w.live; unpaired = λ b lb q. w.unpaired b (omega arith) (keep i b q) }

  pub kept_to : (b : ℕ) (l : Letter) → x ≢ Clear l.envelope.context.number → ((i : ℕ) → Pairs r' i b → Pairs r i b) → IsKept h r b l (length h) → IsKept (h ++ x ∷ []) r' b l (length h + 1)
  kept_to b l nc old k = record {
    live = letter_more h x nc k.live;
    unpaired = λ i li q. k.unpaired i (receive_within h r law i b (old i q)) (old i q);
  }

  pub kept_back : (b : ℕ) (l : Letter) → b < length h → IsKept (h ++ x ∷ []) r' b l (length h + 1) → IsKept h r b l (length h)
  kept_back b l lb k = record { live = letter_less h x lb k.live; unpaired = λ i li q. k.unpaired i (omega arith) (keep i b q) }

module _ (h : List MatchEvent) (x : MatchEvent) (r : Pairing) where
  pub waiting_number : (i : ℕ) (p : Pattern) → IsWaiting h r i p (length h) → count_before (h ++ x ∷ []) i ≡ count_before h i
  waiting_number i p w = let l : i < length h = w.live.before in count_old h x i (omega arith)

  pub kept_number : (b : ℕ) (l : Letter) → IsKept h r b l (length h) → count_before (h ++ x ∷ []) b ≡ count_before h b
  kept_number b l k = let m : b < length h = k.live.before in count_old h x b (omega arith)

-- in an open context what is unpaired is live
module _ (h : List MatchEvent) (r : Pairing) (c : ℕ) (open' : IsUncleared h c) where
  pub kept_or_paired : (b : ℕ) (l : Letter) → b < length h → ComeAt h b l → l.envelope.context.number ≡ c → ((j : ℕ) × (j < length h) × Pairs r j b) ⊎ IsKept h r b l (length h)
  kept_or_paired b l lb came e =
      elim (paired_letter r b (length h)) [
        | inl q ↦ inl q
        | inr free ↦ inr (record {
          live = record { came = came; before = lb; not_cleared = λ s. open' s.place (rw (sym e) s.is) };
          unpaired = free;
        })
      ]

  pub waits_or_paired : (i : ℕ) (p : Pattern) → i < length h → PostAt h i p → (StandsBetween h (End i) i (length h) → ⊥) → p.context.number ≡ c → ((a : ℕ) × (a < length h) × Pairs r i a) ⊎ IsWaiting h r i p (length h)
  waits_or_paired i p li posted lives e =
      elim (paired_receive r i (length h)) [
        | inl q ↦ inl q
        | inr free ↦ inr (record {
          live = record { posted = posted; before = li; not_ended = lives; not_cleared = λ s. open' s.place (rw (sym e) s.is) };
          unpaired = free;
        })
      ]
