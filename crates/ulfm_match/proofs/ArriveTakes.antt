-- A letter comes, and a waiting receive gets it.
use Rattle.std.proofs.Common.{◌≡◌, ◌≢◌, ℕ, ◌+◌, ◌<◌, inl, inr, List, [], ◌∷◌, ◌++◌, length, refl, ap, sym, ◌∙◌, arith, max}
use Rattle.ulfm_match.proofs.Common.{Pattern, Admits, Letter, MatchEvent, Post, Come, PostAt, ComeAt, count_before, Pairing, Pairs, IsWaiting, LawfulPairing, Matching, IsUncleared, Tracks, Contains-push, ArrivalGoesTo}
use Rattle.ulfm_match.proofs.Decide.{lt_or_ge, compared}
use Rattle.ulfm_match.proofs.Histories.{stands_old, receive_more, stands_wider, count_below, same_number}
use Rattle.ulfm_base.proofs.Longer.{below_last, get_new, get_below}
use Rattle.ulfm_match.proofs.Least.{TakesLeast}
use Rattle.ulfm_match.proofs.Lists.{lists_sub, lists_same}
use Rattle.ulfm_match.proofs.Extend.{IsNew, letter_within, none_missed_below, extend}
use Rattle.ulfm_match.proofs.Steps.{come_more, come_here, pair_cases, pair_old, stands_nowhere, cleared_same, tracks, waiting_to, waiting_back, kept_to, kept_back, waiting_number, kept_number, kept_or_paired, waits_or_paired}

module _ (h : List MatchEvent) (r : Pairing) (s : Matching) (l : Letter) (t : Tracks h r s) (open' : IsUncleared h l.envelope.context.number) where
  -- the first waiting receive that admits the letter is answered
  module _ (waiting' : List (ℕ × Pattern)) (z : ℕ × Pattern) (taken : TakesLeast (λ (y : ℕ × Pattern). Admits y.1 l.envelope) s.waiting waiting' z) where
    found : (i : ℕ) × (count_before h i ≡ z.0) × IsWaiting h r i z.1 (length h)
    found = t.remains.waiting.sound z.0 z.1 taken.there

    arrive_new : IsNew h (Come l) r found.0 (length h)
    arrive_new =
        let i = found.0 in
        let w = found.2 in
        let p = z.1 in
        let li : i < length h = w.live.before in
        let top : max i (length h) ≡ length h = omega arith in
        record {
          match = record {
            pattern = p;
            letter = l;
            receive_live = rw top (receive_more h (Come l) (λ e. cc) (λ e. cc) w.live);
            letter_live = rw top (record { came = get_new h (Come l); before = omega arith; not_cleared = stands_nowhere });
            admits = taken.passes;
          };
          free_receive = λ d q. w.unpaired d (letter_within h r t.lawful i d q) q;
          free_letter = λ j q. let m = letter_within h r t.lawful j (length h) q in omega (arith, m);
          earlier_letters = λ a q m posted below came adm.
              let posted' : PostAt h i q = get_below h (Come l) i (Post q) li posted in
              let same : q ≡ p = (let g = w.live.posted in cc) in
              let adm' : Admits p m.envelope = rw (sym same) adm in
              let came' : ComeAt h a m = get_below h (Come l) a (Come m) below came in
              elim (kept_or_paired h r l.envelope.context.number open' a m below came' (adm'.context ∙ sym taken.passes.context)) [
                | inl j ↦ elim (compared j.0 i) [
                  | inl y ↦ (j.0, y, j.2)
                  | inr o ↦ elim o [
                    | inl e ↦ absurd (w.unpaired a below (rw (sym e) j.2))
                    | inr y ↦
                        let lj : j.0 < length h = j.1 in
                        let d = t.lawful.earlier_receives j.0 a i p m j.2 came' y w.live.posted (λ s. w.live.not_ended (stands_wider (length h) (omega arith) s)) adm' in
                        absurd (w.unpaired d.0 (let ld : d.0 < a = d.1 in omega arith) d.2)
                  ]
                ]
                | inr ka ↦ absurd (t.lawful.none_missed (length h) i a p m (omega arith) w ka adm')
              ];
          earlier_receives = λ j q m came below posted lives adm.
              let same : l ≡ m = come_here h l m (length h) refl came in
              let adm' : Admits q l.envelope = rw same adm in
              let lj : j < length h = omega arith in
              let posted' : PostAt h j q = get_below h (Come l) j (Post q) lj posted in
              elim (waits_or_paired h r l.envelope.context.number open' j q lj posted' (λ s. lives (rw top (stands_old h (Come l) s))) (sym adm'.context)) [
                | inl a ↦ a
                | inr wj ↦
                    let in' = t.remains.waiting.complete j q wj in
                    let less : count_before h j < z.0 = let n = count_below h j i (Post q) posted' refl below in let g = found.1 in omega (arith, n) in
                    absurd (let g = taken.least (count_before h j, q) in' adm' in omega (arith, g, less))
              ];
        }

    arrive_pairs : LawfulPairing (h ++ Come l ∷ []) (r ++ (found.0, length h) ∷ [])
    arrive_pairs =
        let i0 = found.0 in
        let r' : Pairing = r ++ (i0, length h) ∷ [] in
        extend h r t.lawful (Come l) r' i0 (length h) (pair_old r i0 (length h))
        (λ i b q. elim (pair_cases r i0 (length h) i b q) [
          | inl o ↦ inl o
          | inr e ↦ inr (e.0, e.1, rw e.0 (rw e.1 arrive_new))
        ])
        (λ i b q m w k adm.
        let li : i < length h = below_last h (Come l) i (Post q) w.live.posted (λ e. cc) in
        let lb : b < length h + 1 = k.live.before in
        elim (lt_or_ge b (length h)) [
          | inl low ↦ none_missed_below h r t.lawful (Come l) r' (pair_old r i0 (length h)) i b q m li low w k adm
          | inr top ↦
              let e : b ≡ length h = omega arith in
              k.unpaired i0 (let l0 : i0 < length h = found.2.live.before in omega arith) (rw e (Contains-push r (i0, length h)))
        ])

    pub arrive_takes : (s' : Matching) → s'.count ≡ s.count + 1 → s'.waiting ≡ waiting' → s'.kept ≡ s.kept → s'.cleared ≡ s.cleared → ArrivalGoesTo h r l z.0 s'
    arrive_takes s' ec ew ek em =
        let i0 = found.0 in
        let r' : Pairing = r ++ (i0, length h) ∷ [] in
        let keep : (i b : ℕ) → Pairs r i b → Pairs r' i b = pair_old r i0 (length h) in
        let low : (i b : ℕ) → b < length h → Pairs r' i b → Pairs r i b = λ i b lb q. elim (pair_cases r i0 (length h) i b q) [ inl o ↦ o | inr e ↦ absurd (let g : b ≡ length h = e.1 in omega arith) ] in record {
          place = i0;
          pattern = z.1;
          posted = found.2.live.posted;
          numbered = found.1;
          tracks = tracks h (Come l) r' s' (come_more h l t.well_formed open') arrive_pairs
              (cleared_same h (Come l) s s' t.remains.cleared em (λ c e. cc))
              (ec ∙ ap (λ n. n + 1) t.remains.count)
              (rw ew
              (lists_sub t.remains.waiting
              (waiting_number h (Come l) r)
              (λ y. y.0 ≢ z.0) taken.ascending taken.left_to taken.left_back
              (λ i q w n. waiting_to h (Come l) r r' t.lawful keep i q (λ e. cc) (λ e. cc)
              (λ b p. elim (pair_cases r i0 (length h) i b p) [
                | inl o ↦ o
                | inr e ↦ absurd (n (ap (count_before h) e.0 ∙ found.1))
              ]) w)
              (λ i q w.
              let li : i < length h = below_last h (Come l) i (Post q) w.live.posted (λ e. cc) in
              let w' = waiting_back h (Come l) r r' t.lawful keep i q li w in (
                w',
                λ e.
                    let g : i0 ≡ i = same_number h i0 i (Post z.1) (Post q) found.2.live.posted refl w'.live.posted refl (found.1 ∙ sym e) in
                    w.unpaired (length h) (omega arith) (rw (sym g) (Contains-push r (i0, length h))),
              ))))
              (rw ek
              (lists_same t.remains.kept
              (kept_number h (Come l) r)
              (λ b m k. kept_to h (Come l) r r' t.lawful keep b m (λ e. cc) (λ i. low i b k.live.before) k)
              (λ b m k.
              let lb : b < length h + 1 = k.live.before in
              elim (lt_or_ge b (length h)) [
                | inl y ↦ kept_back h (Come l) r r' t.lawful keep b m y k
                | inr top ↦
                    let e : b ≡ length h = omega arith in
                    absurd (k.unpaired i0 (let l0 : i0 < length h = found.2.live.before in omega arith) (rw e (Contains-push r (i0, length h))))
              ])));
        }
