-- Several receives end.
use Rattle.std.proofs.Common.{◌≡◌, ◌≢◌, ℕ, inl, inr, Bool, true, false, List, [], ◌∷◌, ◌++◌, refl, ap, sym, ◌∙◌, subst, arith, append-nil, append_assoc, Contains, filter, not, ◌==◌}
use Rattle.ulfm_match.proofs.Common.{Pattern, names, MatchEvent, Post, End, PostAt, count_before, Pairing, Matching, IsAscending, Tracks, EndsNamed, slice_get_within}
use Rattle.ulfm_match.proofs.Decide.{Contains-head, Contains-tail, Contains-cons_cases, Contains-none}
use Rattle.ulfm_match.proofs.Histories.{count_old, same_number}
use Rattle.ulfm_base.proofs.Longer.{get_old}
use Rattle.ulfm_match.proofs.Members.{Contains-filter, filter-Contains}
use Rattle.ulfm_match.proofs.Ascending.{ascending_filter}
use Rattle.ulfm_match.proofs.Lists.{lists_sub}
use Rattle.ulfm_match.proofs.EndSteps.{end_step, other_context, passes_context}
use Rattle.ulfm_match.proofs.Unique.{same_pattern}

-- each of the events ends a receive of the history
abbrev pub AreEnds : List MatchEvent → List MatchEvent → Type 0
AreEnds h es = (x : MatchEvent) → Contains es x → (i : ℕ) × (p : Pattern) × (x ≡ End i) × PostAt h i p

-- the entry's receive isn't ended by them
abbrev pub IsSpared : List MatchEvent → List MatchEvent → ℕ → Type 0
IsSpared h es k = (i : ℕ) → Contains es (End i) → k ≢ count_before h i

-- the waiting receives that are spared stay, and no others
pub ends_tracks : (es h : List MatchEvent) (r : Pairing) (s s' : Matching) → Tracks h r s → AreEnds h es → s'.cleared ≡ s.cleared → s'.count ≡ s.count → s'.kept ≡ s.kept → IsAscending s'.waiting
    → ((y : ℕ × Pattern) → Contains s'.waiting y → Contains s.waiting y × IsSpared h es y.0)
    → ((y : ℕ × Pattern) → Contains s.waiting y → IsSpared h es y.0 → Contains s'.waiting y)
    → Tracks (h ++ es) r s'
ends_tracks [] h r s s' t ends em ec ek asc to back =
    rw (append-nil h) (record {
      well_formed = t.well_formed;
      lawful = t.lawful;
      remains = record {
        count = ec ∙ t.remains.count;
        waiting = lists_sub t.remains.waiting (λ i p w. refl) (λ y. Unit {0}) asc
            (λ y c. ((to y c).0, tt)) (λ y c u. back y c (λ i e. absurd (Contains-none (End i) e))) (λ i p w u. w) (λ i p w. (w, tt));
        kept = rw ek t.remains.kept;
        cleared = rw em t.remains.cleared;
      };
    })
ends_tracks (x ∷ es) h r s s' t ends em ec ek asc to back =
    let first = ends x (Contains-head x es) in
    let i = first.0 in
    let p = first.1 in
    let h1 = h ++ End i ∷ [] in
    let s1 : Matching = record { waiting = filter (λ (y : ℕ × Pattern). not (y.0 == count_before h i)) s.waiting; kept = s.kept; count = s.count; cleared = s.cleared; prepared = s.prepared } in
    let t1 : Tracks h1 r s1 =
    end_step h r s t i p first.3 s1 refl refl (ascending_filter (λ (y : ℕ × Pattern). not (y.0 == count_before h i)) s.waiting t.remains.waiting.ascending)
    (λ y c. let f = Contains-filter (λ (y : ℕ × Pattern). not (y.0 == count_before h i)) s.waiting y c in (f.0, other_context y.0 (count_before h i) f.1))
    (λ y c n. filter-Contains (λ (y : ℕ × Pattern). not (y.0 == count_before h i)) s.waiting y c (passes_context y.0 (count_before h i) n))
    refl in
    let num : (j : ℕ) (q : Pattern) → PostAt h j q → count_before h1 j ≡ count_before h j = λ j q at. let l = slice_get_within h j (Post q) at in count_old h (End i) j (omega arith) in
    let long = append_assoc h (End i ∷ []) es ∙ ap (λ e. h ++ e ∷ es) (sym first.2) in
    let at : (j : ℕ) → Contains es (End j) → count_before h1 j ≡ count_before h j = λ j c. let e = ends (End j) (Contains-tail x es (End j) c) in let f : j ≡ e.0 = (let g = e.2 in cc) in num j e.1 (subst (λ k. PostAt h k e.1) (sym f) e.3) in
    rw (sym long)
    (ends_tracks es h1 r s1 s' t1
    (λ y c. let e = ends y (Contains-tail x es y c) in (e.0, e.1, e.2, get_old h (End i) e.0 (Post e.1) e.3))
    em ec ek asc
    (λ y c.
    let f = to y c in (
      filter-Contains (λ (y : ℕ × Pattern). not (y.0 == count_before h i)) s.waiting y f.0 (passes_context y.0 (count_before h i) (f.1 i (rw (sym first.2) (Contains-head x es)))),
      λ j e n. f.1 j (Contains-tail x es (End j) e) (n ∙ at j e),
    ))
    (λ y c sp.
    let f = Contains-filter (λ (y : ℕ × Pattern). not (y.0 == count_before h i)) s.waiting y c in
    back y f.0 (λ j e n.
    elim (Contains-cons_cases x es (End j) e) [
      | inl same ↦ let k : i ≡ j = (let g = first.2 in cc) in other_context y.0 (count_before h i) f.1 (n ∙ ap (count_before h) (sym k))
      | inr later ↦ sp j later (n ∙ sym (at j later))
    ])))

not_named : (b : Bool) → not b ≡ true → b ≡ true → ⊥
not_named true h e = cc
not_named false h e = cc

unnamed : (b : Bool) → (b ≡ true → ⊥) → not b ≡ true
unnamed true n = absurd (n refl)
unnamed false n = refl

pub spares : (b : Bool) → not b ≡ true → b ≡ false
spares true h = cc
spares false h = refl

pub is_spared : (b : Bool) → b ≡ false → not b ≡ true
is_spared true h = cc
is_spared false h = refl

-- the receives that name s are taken out
pub named_filtered : (n : ℕ) (h : List MatchEvent) (r : Pairing) (es : List MatchEvent) (s s' : Matching) → EndsNamed h n es → Tracks h r s → s'.cleared ≡ s.cleared → s'.count ≡ s.count → s'.kept ≡ s.kept → s'.waiting ≡ filter (λ (y : ℕ × Pattern). not (names y.1.source n)) s.waiting → Tracks (h ++ es) r s'
named_filtered n h r es s s' ends t em ec ek ew =
    let W : ℕ × Pattern → Bool = λ y. not (names y.1.source n) in
    ends_tracks es h r s s' t (λ x c. let e = ends.sound x c in (e.0, e.1, e.2, e.3)) em ec ek
    (rw ew (ascending_filter W s.waiting t.remains.waiting.ascending))
    (λ y c.
    let f = Contains-filter W s.waiting y (rw (sym ew) c) in (
      f.0,
      λ i e num.
          let at = t.remains.waiting.sound y.0 y.1 f.0 in
          let x = ends.sound (End i) e in
          let ei : i ≡ x.0 = (let g = x.2 in cc) in
          let same = same_number h at.0 x.0 (Post y.1) (Post x.1) at.2.live.posted refl x.3 refl (at.1 ∙ (num ∙ ap (count_before h) ei)) in
          let pat = same_pattern h x.0 y.1 x.1 (rw (sym same) at.2.live.posted) x.3 in
          not_named (names y.1.source n) f.1 (rw pat x.4),
    ))
    (λ y c sp.
    let at = t.remains.waiting.sound y.0 y.1 c in
    rw ew
    (filter-Contains W s.waiting y c (unnamed (names y.1.source n) (λ e. sp at.0 (ends.complete at.0 y.1 at.2.live.posted e) (sym at.1)))))
