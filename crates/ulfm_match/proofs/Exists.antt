-- Each history that can happen has a lawful pairing.
use Rattle.std.proofs.Common.{◌≡◌, ℕ, ◌+◌, inl, inr, Bool, false, List, [], ◌∷◌, ◌++◌, length, refl, sym, subst, append-nil, append_assoc, filter, not, ◌==◌}
use Rattle.ulfm_match.proofs.Common.{Pattern, Admits, Letter, MatchEvent, Post, Come, End, Clear, PostAt, IsWellFormed, count_before, Pairing, LawfulPairing, Matching, is_cleared, Tracks, IsUncleared, slice_get_within}
use Rattle.ulfm_match.proofs.ArriveKeeps.{arrive_keeps}
use Rattle.ulfm_match.proofs.ArriveTakes.{arrive_takes}
use Rattle.ulfm_match.proofs.Ascending.{ascending_filter}
use Rattle.ulfm_match.proofs.Cut.{get_front, get_in_front}
use Rattle.ulfm_match.proofs.Decide.{Contains-none}
use Rattle.ulfm_match.proofs.EndSteps.{end_step, clear_filtered, other_context, passes_context}
use Rattle.ulfm_match.proofs.Least.{take_least}
use Rattle.ulfm_match.proofs.Members.{Contains-filter, filter-Contains}
use Rattle.ulfm_match.proofs.PostTakes.{post_takes}
use Rattle.ulfm_match.proofs.PostWaits.{post_waits}
use Rattle.ulfm_match.proofs.Admitted.{admits_either}
use Rattle.ulfm_base.proofs.Longer.{get_here}
use Rattle.ulfm_base.proofs.Tables.{value_there, marked_here, marked_there}
use Rattle.ulfm_base.specs.Table.{Marks, put_at}

-- a history with a lawful pairing and its remains
record IsPaired (h : List MatchEvent) : Type 0 where
  pub pairing : Pairing
  pub state : Matching
  pub tracks : Tracks h pairing state

abbrev a_state : List (ℕ × Pattern) → List (ℕ × Letter) → ℕ → Marks → Matching
a_state waiting kept count cleared = record { waiting = waiting; kept = kept; count = count; cleared = cleared; prepared = false }

module _ (h : List MatchEvent) (t : IsPaired h) where
  paired-post : (p : Pattern) → IsUncleared h p.context.number → IsPaired (h ++ Post p ∷ [])
  paired-post p open' =
      let s = t.state in
      let P : ℕ × Letter → Type 0 = λ y. Admits p y.1.envelope in
      elim (take_least P (λ y. admits_either p y.1.envelope) s.kept t.tracks.remains.kept.ascending) [
        | inl f ↦
            let k = post_takes h t.pairing s p t.tracks open' f.0 f.1 f.2 (a_state s.waiting f.0 (s.count + 1) s.cleared) refl refl refl refl in
            record { pairing = t.pairing ++ (length h, k.place) ∷ []; state = a_state s.waiting f.0 (s.count + 1) s.cleared; tracks = k.tracks }
        | inr none ↦ record {
          pairing = t.pairing;
          state = a_state (s.waiting ++ (s.count, p) ∷ []) s.kept (s.count + 1) s.cleared;
          tracks = post_waits h t.pairing s p t.tracks open' none (a_state (s.waiting ++ (s.count, p) ∷ []) s.kept (s.count + 1) s.cleared) refl refl refl refl;
        }
      ]

  paired-come : (l : Letter) → IsUncleared h l.envelope.context.number → IsPaired (h ++ Come l ∷ [])
  paired-come l open' =
      let s = t.state in
      let P : ℕ × Pattern → Type 0 = λ y. Admits y.1 l.envelope in
      elim (take_least P (λ y. admits_either y.1 l.envelope) s.waiting t.tracks.remains.waiting.ascending) [
        | inl f ↦
            let k = arrive_takes h t.pairing s l t.tracks open' f.0 f.1 f.2 (a_state f.0 s.kept (s.count + 1) s.cleared) refl refl refl refl in
            record { pairing = t.pairing ++ (k.place, length h) ∷ []; state = a_state f.0 s.kept (s.count + 1) s.cleared; tracks = k.tracks }
        | inr none ↦ record {
          pairing = t.pairing;
          state = a_state s.waiting (s.kept ++ (s.count, l) ∷ []) (s.count + 1) s.cleared;
          tracks = arrive_keeps h t.pairing s l t.tracks open' none (a_state s.waiting (s.kept ++ (s.count, l) ∷ []) (s.count + 1) s.cleared) refl refl refl refl;
        }
      ]

  paired-end : (i : ℕ) (p : Pattern) → PostAt h i p → IsPaired (h ++ End i ∷ [])
  paired-end i p posted =
      let s = t.state in
      let W : ℕ × Pattern → Bool = λ y. not (y.0 == count_before h i) in
      let new = a_state (filter W s.waiting) s.kept s.count s.cleared in
      record {
        pairing = t.pairing;
        state = new;
        tracks = end_step h t.pairing s t.tracks i p posted new refl refl (ascending_filter W s.waiting t.tracks.remains.waiting.ascending)
            (λ y c. let f = Contains-filter W s.waiting y c in (f.0, other_context y.0 (count_before h i) f.1))
            (λ y c n. filter-Contains W s.waiting y c (passes_context y.0 (count_before h i) n)) refl;
      }

  paired-clear : (c : ℕ) → IsPaired (h ++ Clear c ∷ [])
  paired-clear c =
      let s = t.state in
      let new = a_state (filter (λ (y : ℕ × Pattern). not (y.1.context.number == c)) s.waiting) (filter (λ (y : ℕ × Letter). not (y.1.envelope.context.number == c)) s.kept) s.count (put_at c tt s.cleared) in
      record { pairing = t.pairing; state = new; tracks = clear_filtered h t.pairing s t.tracks c new (marked_here c s.cleared (put_at c tt s.cleared) tt (λ d. value_there c tt d s.cleared)) (marked_there c s.cleared (put_at c tt s.cleared) tt (λ d. value_there c tt d s.cleared)) refl refl refl }

-- one more event of a history that can happen
paired-next : (h : List MatchEvent) (e : MatchEvent) (rest : List MatchEvent) → IsPaired h → IsWellFormed (h ++ e ∷ rest) → IsPaired (h ++ e ∷ [])
paired-next h (Post p) rest t wf = paired-post h t p (λ k c. wf.no_posts k (length h) p (slice_get_within h k (Clear p.context.number) c) (get_here h (Post p) rest) (get_front h (Post p ∷ rest) k (Clear p.context.number) c))
paired-next h (Come l) rest t wf = paired-come h t l (λ k c. wf.no_letters k (length h) l (slice_get_within h k (Clear l.envelope.context.number) c) (get_here h (Come l) rest) (get_front h (Come l ∷ rest) k (Clear l.envelope.context.number) c))
paired-next h (End i) rest t wf = let e = wf.ends i (length h) (get_here h (End i) rest) in paired-end h t i e.0 (get_in_front h (End i ∷ rest) i (Post e.0) e.1 e.2)
paired-next h (Clear c) rest t wf = paired-clear h t c

paired-all : (rest h : List MatchEvent) → IsPaired h → IsWellFormed (h ++ rest) → IsPaired (h ++ rest)
paired-all [] h t wf = subst IsPaired (sym (append-nil h)) t
paired-all (e ∷ rest) h t wf =
    let same = append_assoc h (e ∷ []) rest in
    subst IsPaired same (paired-all rest (h ++ e ∷ []) (paired-next h e rest t wf) (subst IsWellFormed (sym same) wf))

-- before anything happened nothing waits, is kept or was cleared
pub tracks_none : (s : Matching) → s.waiting ≡ [] → s.kept ≡ [] → s.count ≡ 0 → ((c : ℕ) → is_cleared s c ≡ false) → Tracks [] [] s
tracks_none s ew ek ec open' = record {
  well_formed = record { ends = λ i k g. cc; no_posts = λ k i p l g f. cc; no_letters = λ k b l m g f. cc };
  lawful = record {
    one_letter = λ i b d p q. absurd (Contains-none (i, b) p);
    one_receive = λ i j b p q. absurd (Contains-none (i, b) p);
    matched = λ i b p. absurd (Contains-none (i, b) p);
    earlier_letters = λ i b a p l q. absurd (Contains-none (i, b) q);
    earlier_receives = λ i b j p l q. absurd (Contains-none (i, b) q);
    none_missed = λ n i b p l le w k adm. let g = w.live.posted in cc;
  };
  remains = record {
    count = ec;
    waiting = rw ew (record { ascending = tt; sound = λ k x c. absurd (Contains-none (k, x) c); complete = λ i x w. let g = w.live.posted in cc });
    kept = rw ek (record { ascending = tt; sound = λ k x c. absurd (Contains-none (k, x) c); complete = λ i x w. let g = w.live.came in cc });
    cleared = λ c. (λ e k g. cc, λ u. open' c);
  };
}

-- a history that can happen has a lawful pairing
pub some_pairing : (h : List MatchEvent) → IsWellFormed h → (r : Pairing) × LawfulPairing h r
some_pairing h wf =
    let t = paired-all h [] (record { pairing = []; state = a_state [] [] 0 []; tracks = tracks_none (a_state [] [] 0 []) refl refl refl (λ c. refl) }) wf in
    (t.pairing, t.tracks.lawful)
