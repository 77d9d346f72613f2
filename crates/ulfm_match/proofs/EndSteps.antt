-- A receive ends, or a context is cleared: an event that makes no pair.
use Rattle.std.proofs.Common.{◌≡◌, ◌≢◌, ℕ, ◌+◌, ◌<◌, inl, List, [], ◌∷◌, ◌++◌, length, refl, ap, sym, ◌∙◌, Some, arith, Contains, filter, not, ◌==◌, Bool, true, false, ◌↔◌}
use Rattle.ulfm_match.proofs.Common.{Pattern, Letter, MatchEvent, Post, Come, End, Clear, PostAt, ComeAt, IsWellFormed, counts_as, count_before, Pairing, IsWaiting, IsKept, LawfulPairing, Matching, is_cleared, IsAscending, IsUncleared, Tracks, nat_tests, slice_get_within}
use Rattle.ulfm_match.proofs.Histories.{same_number}
use Rattle.ulfm_base.proofs.Longer.{below_last, get_new}
use Rattle.ulfm_match.proofs.Members.{Contains-filter, filter-Contains}
use Rattle.ulfm_match.proofs.Ascending.{ascending_filter}
use Rattle.ulfm_match.proofs.Lists.{lists_sub}
use Rattle.ulfm_match.proofs.Extend.{none_missed_below, extend}
use Rattle.ulfm_match.proofs.Steps.{history_more, cleared_same, cleared_also, tracks, waiting_to, waiting_back, kept_to, kept_back, waiting_number, kept_number}

-- an event that is no post and no arrival makes no pair
module _ (h : List MatchEvent) (r : Pairing) (s : Matching) (x : MatchEvent) (t : Tracks h r s) (light : counts_as x ≡ 0) where
  no_post : (i : ℕ) (p : Pattern) → PostAt (h ++ x ∷ []) i p → i < length h
  no_post i p posted = below_last h x i (Post p) posted (λ e. let one : counts_as x ≡ 1 = ap counts_as e in absurd (omega arith))

  no_letter : (b : ℕ) (l : Letter) → ComeAt (h ++ x ∷ []) b l → b < length h
  no_letter b l came = below_last h x b (Come l) came (λ e. let one : counts_as x ≡ 1 = ap counts_as e in absurd (omega arith))

  light_lawful : LawfulPairing (h ++ x ∷ []) r
  light_lawful =
      extend h r t.lawful x r 0 0 (λ i b q. q) (λ i b q. inl q)
      (λ i b p l w k adm. none_missed_below h r t.lawful x r (λ i b q. q) i b p l (no_post i p w.live.posted) (no_letter b l k.live.came) w k adm)

  -- the receives with W and the letters with K stay, and no others
  pub light_step : (W : ℕ × Pattern → Type 0) (K : ℕ × Letter → Type 0) (s' : Matching) → IsWellFormed (h ++ x ∷ []) → ((c : ℕ) → (is_cleared s' c ≡ false) ↔ IsUncleared (h ++ x ∷ []) c) → s'.count ≡ s.count
      → IsAscending s'.waiting → ((y : ℕ × Pattern) → Contains s'.waiting y → Contains s.waiting y × W y) → ((y : ℕ × Pattern) → Contains s.waiting y → W y → Contains s'.waiting y)
      → IsAscending s'.kept → ((y : ℕ × Letter) → Contains s'.kept y → Contains s.kept y × K y) → ((y : ℕ × Letter) → Contains s.kept y → K y → Contains s'.kept y)
      → ((i : ℕ) (p : Pattern) → IsWaiting h r i p (length h) → W (count_before h i, p) → (x ≢ End i) × (x ≢ Clear p.context.number))
      → ((i : ℕ) (p : Pattern) → IsWaiting h r i p (length h) → IsWaiting (h ++ x ∷ []) r i p (length h + 1) → W (count_before h i, p))
      → ((b : ℕ) (l : Letter) → IsKept h r b l (length h) → K (count_before h b, l) → x ≢ Clear l.envelope.context.number)
      → ((b : ℕ) (l : Letter) → IsKept h r b l (length h) → IsKept (h ++ x ∷ []) r b l (length h + 1) → K (count_before h b, l))
      → Tracks (h ++ x ∷ []) r s'
  light_step W K s' wf em ec aw w_to w_back ak k_to k_back stays stays_back keeps keeps_back =
      tracks h x r s' wf light_lawful em
      (let c = t.remains.count in omega arith)
      (lists_sub t.remains.waiting
      (waiting_number h x r) W aw w_to w_back
      (λ i q w y. let n = stays i q w y in waiting_to h x r r t.lawful (λ i b q. q) i q n.0 n.1 (λ b q. q) w)
      (λ i q w. let w' = waiting_back h x r r t.lawful (λ i b q. q) i q (no_post i q w.live.posted) w in (w', stays_back i q w' w)))
      (lists_sub t.remains.kept
      (kept_number h x r) K ak k_to k_back
      (λ b l k y. kept_to h x r r t.lawful (λ i b q. q) b l (keeps b l k y) (λ i q. q) k)
      (λ b l k. let k' = kept_back h x r r t.lawful (λ i b q. q) b l (no_letter b l k.live.came) k in (k', keeps_back b l k' k)))

module _ (h : List MatchEvent) (r : Pairing) (s : Matching) (t : Tracks h r s) where
  -- the receive posted at i0 ends; it may have been paired or ended before
  module _ (i0 : ℕ) (p0 : Pattern) (posted : PostAt h i0 p0) where
    pub end_step : (s' : Matching) → s'.cleared ≡ s.cleared → s'.count ≡ s.count → IsAscending s'.waiting → ((y : ℕ × Pattern) → Contains s'.waiting y → Contains s.waiting y × (y.0 ≢ count_before h i0)) → ((y : ℕ × Pattern) → Contains s.waiting y → y.0 ≢ count_before h i0 → Contains s'.waiting y) → s'.kept ≡ s.kept → Tracks (h ++ End i0 ∷ []) r s'
    end_step s' em ec aw to back ek =
        let l0 : i0 < length h = slice_get_within h i0 (Post p0) posted in
        light_step h r s (End i0) t refl (λ y. y.0 ≢ count_before h i0) (λ y. Unit {0}) s'
        (history_more h (End i0) t.well_formed (λ i e. let q : i0 ≡ i = cc in (p0, omega arith, rw (sym q) posted)) (λ q e. cc) (λ q e. cc))
        (cleared_same h (End i0) s s' t.remains.cleared em (λ c e. cc))
        ec aw to back
        (rw ek t.remains.kept.ascending)
        (λ y c. (rw (sym ek) c, tt))
        (λ y c u. rw ek c)
        (λ i p w n. (λ e. let q : i0 ≡ i = cc in n (ap (count_before h) (sym q)), λ e. cc))
        (λ i p w w' e.
        let q : i ≡ i0 = same_number h i i0 (Post p) (Post p0) w.live.posted refl posted refl e in
        w'.live.not_ended (record { place = length h; after = w.live.before; before = omega arith; is = get_new h (End i0) ∙ ap (λ (k : ℕ). Some (End k)) (sym q) }))
        (λ b l k u e. cc)
        (λ b l k k'. tt)

  -- everything of a context ends
  pub clear_step : (c : ℕ) (s' : Matching) → is_cleared s' c ≡ true → ((d : ℕ) → d ≢ c → is_cleared s' d ≡ is_cleared s d) → s'.count ≡ s.count
      → IsAscending s'.waiting → ((y : ℕ × Pattern) → Contains s'.waiting y → Contains s.waiting y × (y.1.context.number ≢ c)) → ((y : ℕ × Pattern) → Contains s.waiting y → y.1.context.number ≢ c → Contains s'.waiting y)
      → IsAscending s'.kept → ((y : ℕ × Letter) → Contains s'.kept y → Contains s.kept y × (y.1.envelope.context.number ≢ c)) → ((y : ℕ × Letter) → Contains s.kept y → y.1.envelope.context.number ≢ c → Contains s'.kept y)
      → Tracks (h ++ Clear c ∷ []) r s'
  clear_step c s' em others ec aw w_to w_back ak k_to k_back =
      light_step h r s (Clear c) t refl (λ y. y.1.context.number ≢ c) (λ y. y.1.envelope.context.number ≢ c) s'
      (history_more h (Clear c) t.well_formed (λ i e. cc) (λ q e. cc) (λ q e. cc))
      (cleared_also h (Clear c) s s' t.remains.cleared c refl em others)
      ec aw w_to w_back ak k_to k_back
      (λ i p w n. (λ e. cc, λ e. n (let q : p.context.number ≡ c = cc in q)))
      (λ i p w w' e. w'.live.not_cleared (record { place = length h; after = w.live.before; before = omega arith; is = get_new h (Clear c) ∙ ap (λ (k : ℕ). Some (Clear k)) (sym e) }))
      (λ b l k n e. n (let q : l.envelope.context.number ≡ c = cc in q))
      (λ b l k k' e. k'.live.not_cleared (record { place = length h; after = k.live.before; before = omega arith; is = get_new h (Clear c) ∙ ap (λ (k : ℕ). Some (Clear k)) (sym e) }))

module _ (h : List MatchEvent) (r : Pairing) (s : Matching) (t : Tracks h r s) where
  -- the receive at i0 was waiting, and is taken out
  pub end_taken : (i0 : ℕ) (p0 : Pattern) → PostAt h i0 p0 → (id : ℕ) → count_before h i0 ≡ id → (s' : Matching) → s'.cleared ≡ s.cleared → s'.count ≡ s.count → IsAscending s'.waiting → ((y : ℕ × Pattern) → Contains s'.waiting y → Contains s.waiting y × (y.0 ≢ id)) → ((y : ℕ × Pattern) → Contains s.waiting y → y.0 ≢ id → Contains s'.waiting y) → s'.kept ≡ s.kept → Tracks (h ++ End i0 ∷ []) r s'
  end_taken i0 p0 posted id n s' em ec asc to back ek =
      end_step h r s t i0 p0 posted s' em ec asc (λ y c. let x = to y c in (x.0, λ q. x.1 (q ∙ n))) (λ y c ne. back y c (λ q. ne (q ∙ sym n))) ek

  -- the receive at i0 wasn't waiting
  pub end_idle : (i0 : ℕ) (p0 : Pattern) → PostAt h i0 p0 → (id : ℕ) → count_before h i0 ≡ id → ((y : ℕ × Pattern) → Contains s.waiting y → y.0 ≡ id → ⊥) → Tracks (h ++ End i0 ∷ []) r s
  end_idle i0 p0 posted id n none =
      end_step h r s t i0 p0 posted s refl refl t.remains.waiting.ascending (λ y c. (c, λ q. none y c (q ∙ n))) (λ y c ne. c) refl

pub other_context : (a c : ℕ) → not (a == c) ≡ true → a ≢ c
other_context a c h e = grind (arith, nat_tests)

pub passes_context : (a c : ℕ) → a ≢ c → not (a == c) ≡ true
passes_context a c n = grind (arith, nat_tests)

-- what isn't of the context stays
pub clear_filtered : (h : List MatchEvent) (r : Pairing) (s : Matching) → Tracks h r s → (c : ℕ) (s' : Matching) → is_cleared s' c ≡ true → ((d : ℕ) → d ≢ c → is_cleared s' d ≡ is_cleared s d) → s'.count ≡ s.count → s'.waiting ≡ filter (λ (y : ℕ × Pattern). not (y.1.context.number == c)) s.waiting → s'.kept ≡ filter (λ (y : ℕ × Letter). not (y.1.envelope.context.number == c)) s.kept → Tracks (h ++ Clear c ∷ []) r s'
clear_filtered h r s t c s' em others ec ew ek =
    let W : ℕ × Pattern → Bool = λ y. not (y.1.context.number == c) in
    let K : ℕ × Letter → Bool = λ y. not (y.1.envelope.context.number == c) in
    clear_step h r s t c s' em others ec
    (rw ew (ascending_filter W s.waiting t.remains.waiting.ascending))
    (λ y d. let f = Contains-filter W s.waiting y (rw (sym ew) d) in (f.0, other_context y.1.context.number c f.1))
    (λ y d n. rw ew (filter-Contains W s.waiting y d (passes_context y.1.context.number c n)))
    (rw ek (ascending_filter K s.kept t.remains.kept.ascending))
    (λ y d. let f = Contains-filter K s.kept y (rw (sym ek) d) in (f.0, other_context y.1.envelope.context.number c f.1))
    (λ y d n. rw ek (filter-Contains K s.kept y d (passes_context y.1.envelope.context.number c n)))
