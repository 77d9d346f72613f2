-- A receive is posted, and gets a kept letter.
use Rattle.std.proofs.Common.{◌≡◌, ◌≢◌, ℕ, ◌+◌, ◌<◌, inl, inr, List, [], ◌∷◌, ◌++◌, length, refl, ap, sym, ◌∙◌, arith, max}
use Rattle.ulfm_match.proofs.Common.{Pattern, Admits, Letter, MatchEvent, Post, Come, PostAt, ComeAt, count_before, Pairing, Pairs, IsKept, LawfulPairing, Matching, IsUncleared, Tracks, Contains-push, PostGets}
use Rattle.ulfm_match.proofs.Decide.{lt_or_ge, compared}
use Rattle.ulfm_match.proofs.Histories.{stands_old, letter_more, count_below, same_number}
use Rattle.ulfm_base.proofs.Longer.{below_last, get_new, get_below}
use Rattle.ulfm_match.proofs.Least.{TakesLeast}
use Rattle.ulfm_match.proofs.Lists.{lists_sub, lists_same}
use Rattle.ulfm_match.proofs.Extend.{IsNew, receive_within, none_missed_below, extend}
use Rattle.ulfm_match.proofs.Steps.{posted_more, posted_here, pair_cases, pair_old, stands_nowhere, cleared_same, tracks, waiting_to, waiting_back, kept_to, kept_back, waiting_number, kept_number, kept_or_paired, waits_or_paired}

module _ (h : List MatchEvent) (r : Pairing) (s : Matching) (p : Pattern) (t : Tracks h r s) (open' : IsUncleared h p.context.number) where
  -- the first kept letter that fits is taken
  module _ (kept' : List (ℕ × Letter)) (z : ℕ × Letter) (taken : TakesLeast (λ (y : ℕ × Letter). Admits p y.1.envelope) s.kept kept' z) where
    found : (b : ℕ) × (count_before h b ≡ z.0) × IsKept h r b z.1 (length h)
    found = t.remains.kept.sound z.0 z.1 taken.there

    post_new : IsNew h (Post p) r (length h) found.0
    post_new =
        let b = found.0 in
        let k = found.2 in
        let l = z.1 in
        let lb : b < length h = k.live.before in
        let top : max (length h) b ≡ length h = omega arith in
        record {
          match = record {
            pattern = p;
            letter = l;
            receive_live = rw top (record { posted = get_new h (Post p); before = omega arith; not_ended = stands_nowhere; not_cleared = stands_nowhere });
            letter_live = rw top (letter_more h (Post p) (λ e. cc) k.live);
            admits = taken.passes;
          };
          free_receive = λ d q. let l = receive_within h r t.lawful (length h) d q in omega (arith, l);
          free_letter = λ j q. k.unpaired j (receive_within h r t.lawful j b q) q;
          earlier_letters = λ a q m posted below came adm.
              let e : p ≡ q = posted_here h p q (length h) refl posted in
              let adm' : Admits p m.envelope = rw e adm in
              let la : a < length h = omega arith in
              let came' : ComeAt h a m = get_below h (Post p) a (Come m) la came in
              elim (kept_or_paired h r p.context.number open' a m la came' adm'.context) [
                | inl j ↦ j
                | inr ka ↦
                    let in' = t.remains.kept.complete a m ka in
                    let less : count_before h a < z.0 = let n = count_below h a b (Come m) came' refl below in let g = found.1 in omega (arith, n) in
                    absurd (let g = taken.least (count_before h a, m) in' adm' in omega (arith, g, less))
              ];
          earlier_receives = λ j q m came below posted lives adm.
              let came' : ComeAt h b m = get_below h (Post p) b (Come m) lb came in
              let same : l ≡ m = (let g = k.live.came in cc) in
              let adm' : Admits q l.envelope = rw same adm in
              let posted' : PostAt h j q = get_below h (Post p) j (Post q) below posted in
              elim (waits_or_paired h r p.context.number open' j q below posted' (λ s. lives (rw top (stands_old h (Post p) s))) (sym adm'.context ∙ taken.passes.context)) [
                | inl a ↦ elim (compared a.0 b) [
                  | inl y ↦ (a.0, y, a.2)
                  | inr o ↦ elim o [
                    | inl e ↦ absurd (k.unpaired j below (rw (sym e) a.2))
                    | inr y ↦
                        let i = t.lawful.earlier_letters j a.0 b q l a.2 posted' y k.live.came adm' in
                        absurd (k.unpaired i.0 (let li : i.0 < j = i.1 in omega arith) i.2)
                  ]
                ]
                | inr w ↦ absurd (t.lawful.none_missed (length h) j b q l (omega arith) w k adm')
              ];
        }

    post_pairs : LawfulPairing (h ++ Post p ∷ []) (r ++ (length h, found.0) ∷ [])
    post_pairs =
        let b0 = found.0 in
        let r' : Pairing = r ++ (length h, b0) ∷ [] in
        extend h r t.lawful (Post p) r' (length h) b0 (pair_old r (length h) b0)
        (λ i b q. elim (pair_cases r (length h) b0 i b q) [
          | inl o ↦ inl o
          | inr e ↦ inr (e.0, e.1, rw e.0 (rw e.1 post_new))
        ])
        (λ i b q l w k adm.
        let li : i < length h + 1 = w.live.before in
        let lb : b < length h = below_last h (Post p) b (Come l) k.live.came (λ e. cc) in
        elim (lt_or_ge i (length h)) [
          | inl low ↦ none_missed_below h r t.lawful (Post p) r' (pair_old r (length h) b0) i b q l low lb w k adm
          | inr top ↦
              let e : i ≡ length h = omega arith in
              w.unpaired b0 (let l0 : b0 < length h = found.2.live.before in omega arith) (rw e (Contains-push r (length h, b0)))
        ])

    pub post_takes : (s' : Matching) → s'.count ≡ s.count + 1 → s'.waiting ≡ s.waiting → s'.kept ≡ kept' → s'.cleared ≡ s.cleared → PostGets h r p z.1 s'
    post_takes s' ec ew ek em =
        let b0 = found.0 in
        let r' : Pairing = r ++ (length h, b0) ∷ [] in
        let keep : (i b : ℕ) → Pairs r i b → Pairs r' i b = pair_old r (length h) b0 in
        let low : (i b : ℕ) → i < length h → Pairs r' i b → Pairs r i b = λ i b li q. elim (pair_cases r (length h) b0 i b q) [ inl o ↦ o | inr e ↦ absurd (let g : i ≡ length h = e.0 in omega arith) ] in record {
          place = b0;
          came = found.2.live.came;
          tracks = tracks h (Post p) r' s' (posted_more h p t.well_formed open') post_pairs
              (cleared_same h (Post p) s s' t.remains.cleared em (λ c e. cc))
              (ec ∙ ap (λ n. n + 1) t.remains.count)
              (rw ew
              (lists_same t.remains.waiting
              (waiting_number h (Post p) r)
              (λ i q w. waiting_to h (Post p) r r' t.lawful keep i q (λ e. cc) (λ e. cc) (λ b. low i b w.live.before) w)
              (λ i q w.
              let li : i < length h + 1 = w.live.before in
              elim (lt_or_ge i (length h)) [
                | inl l ↦ waiting_back h (Post p) r r' t.lawful keep i q l w
                | inr top ↦
                    let e : i ≡ length h = omega arith in
                    absurd (w.unpaired b0 (let l0 : b0 < length h = found.2.live.before in omega arith) (rw e (Contains-push r (length h, b0))))
              ])))
              (rw ek
              (lists_sub t.remains.kept
              (kept_number h (Post p) r)
              (λ y. y.0 ≢ z.0) taken.ascending taken.left_to taken.left_back
              (λ b l k n. kept_to h (Post p) r r' t.lawful keep b l (λ e. cc)
              (λ i q. elim (pair_cases r (length h) b0 i b q) [
                | inl o ↦ o
                | inr e ↦ absurd (n (ap (count_before h) e.1 ∙ found.1))
              ]) k)
              (λ b l k.
              let lb : b < length h = below_last h (Post p) b (Come l) k.live.came (λ e. cc) in
              let k' = kept_back h (Post p) r r' t.lawful keep b l lb k in (
                k',
                λ e.
                    let q : b0 ≡ b = same_number h b0 b (Come z.1) (Come l) found.2.live.came refl k'.live.came refl (found.1 ∙ sym e) in
                    k.unpaired (length h) (omega arith) (rw (sym q) (Contains-push r (length h, b0))),
              ))));
        }
