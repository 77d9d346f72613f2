-- A letter comes, and is kept.
use Rattle.std.proofs.Common.{◌≡◌, ℕ, ◌+◌, ◌<◌, inl, inr, List, [], ◌∷◌, ◌++◌, length, refl, ap, sym, ◌∙◌, arith, Contains}
use Rattle.ulfm_match.proofs.Common.{Pattern, Admits, Letter, MatchEvent, Post, Come, count_before, Pairing, LawfulPairing, Matching, IsUncleared, Tracks}
use Rattle.ulfm_match.proofs.Decide.{lt_or_ge}
use Rattle.ulfm_match.proofs.Histories.{count_old, count_below}
use Rattle.ulfm_base.proofs.Longer.{below_last, get_new}
use Rattle.ulfm_match.proofs.Lists.{lists_same, lists_push}
use Rattle.ulfm_match.proofs.Extend.{letter_within, none_missed_below, extend}
use Rattle.ulfm_match.proofs.Steps.{come_more, come_here, stands_nowhere, cleared_same, tracks, waiting_to, waiting_back, kept_to, kept_back, waiting_number, kept_number}

module _ (h : List MatchEvent) (r : Pairing) (s : Matching) (l : Letter) (t : Tracks h r s) (open' : IsUncleared h l.envelope.context.number) where
  -- no waiting receive fits: the letter is kept
  module _ (none : (y : ℕ × Pattern) → Contains s.waiting y → Admits y.1 l.envelope → ⊥) where
    arrive_lawful : LawfulPairing (h ++ Come l ∷ []) r
    arrive_lawful =
        extend h r t.lawful (Come l) r 0 0 (λ i b q. q) (λ i b q. inl q)
        (λ i b q m w k adm.
        let li : i < length h = below_last h (Come l) i (Post q) w.live.posted (λ e. cc) in
        let lb : b < length h + 1 = k.live.before in
        elim (lt_or_ge b (length h)) [
          | inl low ↦ none_missed_below h r t.lawful (Come l) r (λ i b q. q) i b q m li low w k adm
          | inr top ↦
              let e : l ≡ m = come_here h l m b (omega arith) k.live.came in
              none (count_before h i, q)
              (t.remains.waiting.complete i q (waiting_back h (Come l) r r t.lawful (λ i b q. q) i q li w))
              (rw e adm)
        ])

    pub arrive_keeps : (s' : Matching) → s'.count ≡ s.count + 1 → s'.waiting ≡ s.waiting → s'.kept ≡ s.kept ++ (s.count, l) ∷ [] → s'.cleared ≡ s.cleared → Tracks (h ++ Come l ∷ []) r s'
    arrive_keeps s' ec ew ek em =
        tracks h (Come l) r s' (come_more h l t.well_formed open') arrive_lawful
        (cleared_same h (Come l) s s' t.remains.cleared em (λ c e. cc))
        (ec ∙ ap (λ n. n + 1) t.remains.count)
        (rw ew
        (lists_same t.remains.waiting
        (waiting_number h (Come l) r)
        (λ i q w. waiting_to h (Come l) r r t.lawful (λ i b q. q) i q (λ e. cc) (λ e. cc) (λ b q. q) w)
        (λ i q w. waiting_back h (Come l) r r t.lawful (λ i b q. q) i q (below_last h (Come l) i (Post q) w.live.posted (λ e. cc)) w)))
        (rw ek
        (lists_push t.remains.kept
        (kept_number h (Come l) r)
        (length h) l s.count
        (count_old h (Come l) (length h) (omega arith) ∙ sym t.remains.count)
        (λ b m k. let c = t.remains.count in omega (arith, count_below h b (length h) (Come m) k.live.came refl k.live.before))
        (record {
          live = record { came = get_new h (Come l); before = omega arith; not_cleared = stands_nowhere };
          unpaired = λ i li q. let m = letter_within h r t.lawful i (length h) q in omega (arith, m);
        })
        (λ b m k. kept_to h (Come l) r r t.lawful (λ i b q. q) b m (λ e. cc) (λ i q. q) k)
        (λ b m k.
        let lb : b < length h + 1 = k.live.before in
        elim (lt_or_ge b (length h)) [
          | inl low ↦ inl (kept_back h (Come l) r r t.lawful (λ i b q. q) b m low k)
          | inr top ↦ let e : b ≡ length h = omega arith in inr (e, come_here h l m b e k.live.came)
        ])))
