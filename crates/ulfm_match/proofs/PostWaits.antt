-- A receive is posted, and waits.
use Rattle.std.proofs.Common.{◌≡◌, ℕ, ◌+◌, ◌<◌, inl, inr, List, [], ◌∷◌, ◌++◌, length, refl, ap, sym, ◌∙◌, arith, Contains}
use Rattle.ulfm_match.proofs.Common.{Pattern, Admits, Letter, MatchEvent, Come, Post, count_before, Pairing, LawfulPairing, Matching, IsUncleared, Tracks}
use Rattle.ulfm_match.proofs.Decide.{lt_or_ge}
use Rattle.ulfm_match.proofs.Histories.{count_old, count_below}
use Rattle.ulfm_base.proofs.Longer.{below_last, get_new}
use Rattle.ulfm_match.proofs.Lists.{lists_same, lists_push}
use Rattle.ulfm_match.proofs.Extend.{receive_within, none_missed_below, extend}
use Rattle.ulfm_match.proofs.Steps.{posted_more, posted_here, stands_nowhere, cleared_same, tracks, waiting_to, waiting_back, kept_to, kept_back, waiting_number, kept_number}

module _ (h : List MatchEvent) (r : Pairing) (s : Matching) (p : Pattern) (t : Tracks h r s) (open' : IsUncleared h p.context.number) where
  -- no kept letter fits: the receive waits
  module _ (none : (y : ℕ × Letter) → Contains s.kept y → Admits p y.1.envelope → ⊥) where
    pub post_lawful : LawfulPairing (h ++ Post p ∷ []) r
    post_lawful =
        extend h r t.lawful (Post p) r 0 0 (λ i b q. q) (λ i b q. inl q)
        (λ i b q l w k adm.
        let li : i < length h + 1 = w.live.before in
        let lb : b < length h = below_last h (Post p) b (Come l) k.live.came (λ e. cc) in
        elim (lt_or_ge i (length h)) [
          | inl low ↦ none_missed_below h r t.lawful (Post p) r (λ i b q. q) i b q l low lb w k adm
          | inr top ↦
              let e : p ≡ q = posted_here h p q i (omega arith) w.live.posted in
              none (count_before h b, l)
              (t.remains.kept.complete b l (kept_back h (Post p) r r t.lawful (λ i b q. q) b l lb k))
              (rw e adm)
        ])

    pub post_waits : (s' : Matching) → s'.count ≡ s.count + 1 → s'.waiting ≡ s.waiting ++ (s.count, p) ∷ [] → s'.kept ≡ s.kept → s'.cleared ≡ s.cleared → Tracks (h ++ Post p ∷ []) r s'
    post_waits s' ec ew ek em =
        tracks h (Post p) r s' (posted_more h p t.well_formed open') post_lawful
        (cleared_same h (Post p) s s' t.remains.cleared em (λ c e. cc))
        (ec ∙ ap (λ n. n + 1) t.remains.count)
        (rw ew
        (lists_push t.remains.waiting
        (waiting_number h (Post p) r)
        (length h) p s.count
        (count_old h (Post p) (length h) (omega arith) ∙ sym t.remains.count)
        (λ i q w. let c = t.remains.count in omega (arith, count_below h i (length h) (Post q) w.live.posted refl w.live.before))
        (record {
          live = record { posted = get_new h (Post p); before = omega arith; not_ended = stands_nowhere; not_cleared = stands_nowhere };
          unpaired = λ b lb q. let l = receive_within h r t.lawful (length h) b q in omega (arith, l);
        })
        (λ i q w. waiting_to h (Post p) r r t.lawful (λ i b q. q) i q (λ e. cc) (λ e. cc) (λ b q. q) w)
        (λ i q w.
        let li : i < length h + 1 = w.live.before in
        elim (lt_or_ge i (length h)) [
          | inl low ↦ inl (waiting_back h (Post p) r r t.lawful (λ i b q. q) i q low w)
          | inr top ↦ let e : i ≡ length h = omega arith in inr (e, posted_here h p q i e w.live.posted)
        ])))
        (rw ek
        (lists_same t.remains.kept
        (kept_number h (Post p) r)
        (λ b l k. kept_to h (Post p) r r t.lawful (λ i b q. q) b l (λ e. cc) (λ i q. q) k)
        (λ b l k. kept_back h (Post p) r r t.lawful (λ i b q. q) b l (below_last h (Post p) b (Come l) k.live.came (λ e. cc)) k)))
