-- A history longer by one event, with one new pair at most, has a lawful pairing.
use Rattle.std.proofs.Common.{◌≡◌, ℕ, ◌+◌, ◌<◌, ◌≤◌, ◌⊎◌, inl, inr, List, [], ◌∷◌, ◌++◌, length, sym, ◌∙◌, subst, arith, max}
use Rattle.ulfm_match.proofs.Common.{Pattern, Admits, Letter, MatchEvent, Post, Come, End, PostAt, ComeAt, StandsBetween, Pairing, Pairs, IsWaiting, IsKept, IsMatch, LawfulPairing, slice_get_within}
use Rattle.ulfm_match.proofs.Decide.{lt_or_ge}
use Rattle.ulfm_match.proofs.Histories.{stands_old, receive_old, receive_back, receive_less, letter_old, letter_back, letter_less}
use Rattle.ulfm_base.proofs.Longer.{get_below, length_more}

-- a pair that the event x makes
pub record IsNew (h : List MatchEvent) (x : MatchEvent) (r : Pairing) (i b : ℕ) : Type 0 where
  pub match : IsMatch (h ++ x ∷ []) i b
  pub free_receive : (d : ℕ) → Pairs r i d → ⊥
  pub free_letter : (j : ℕ) → Pairs r j b → ⊥
  pub earlier_letters : (a : ℕ) (p : Pattern) (l : Letter) → PostAt (h ++ x ∷ []) i p → a < b → ComeAt (h ++ x ∷ []) a l → Admits p l.envelope → (j : ℕ) × (j < i) × Pairs r j a
  pub earlier_receives : (j : ℕ) (p : Pattern) (l : Letter) → ComeAt (h ++ x ∷ []) b l → j < i → PostAt (h ++ x ∷ []) j p → (StandsBetween (h ++ x ∷ []) (End j) j (max i b) → ⊥) → Admits p l.envelope → (a : ℕ) × (a < b) × Pairs r j a

module _ (h : List MatchEvent) (r : Pairing) (law : LawfulPairing h r) where
  pub receive_within : (i b : ℕ) → Pairs r i b → i < length h
  receive_within i b q = slice_get_within h i _ (law.matched i b q).receive_live.posted

  pub letter_within : (i b : ℕ) → Pairs r i b → b < length h
  letter_within i b q = slice_get_within h b _ (law.matched i b q).letter_live.came

  module _ (x : MatchEvent) where
    pub match_old : (i b : ℕ) → Pairs r i b → IsMatch (h ++ x ∷ []) i b
    match_old i b q =
        let k = law.matched i b q in
        let li = receive_within i b q in
        let lb = letter_within i b q in
        let top : max i b + 1 ≤ length h = omega arith in
        record { pattern = k.pattern; letter = k.letter; receive_live = receive_old h x top k.receive_live; letter_live = letter_old h x top k.letter_live; admits = k.admits }

    -- a waiting receive and a kept letter of before the event don't fit
    pub none_missed_below : (r' : Pairing) → ((i b : ℕ) → Pairs r i b → Pairs r' i b) → (i b : ℕ) (p : Pattern) (l : Letter) → i < length h → b < length h → IsWaiting (h ++ x ∷ []) r' i p (length h + 1) → IsKept (h ++ x ∷ []) r' b l (length h + 1) → Admits p l.envelope → ⊥
    none_missed_below r' keep i b p l li lb w k adm =
        law.none_missed (length h) i b p l (omega arith)
        (record { live = receive_less h x li w.live; unpaired = λ d ld q. w.unpaired d (omega arith) (keep i d q) })
        (record { live = letter_less h x lb k.live; unpaired = λ j lj q. k.unpaired j (omega arith) (keep j b q) })
        adm

    -- the longer history, with at most the pair i0 b0 more
    pub extend : (r' : Pairing) (i0 b0 : ℕ) → ((i b : ℕ) → Pairs r i b → Pairs r' i b) → ((i b : ℕ) → Pairs r' i b → Pairs r i b ⊎ ((i ≡ i0) × (b ≡ b0) × IsNew h x r i b)) → ((i b : ℕ) (p : Pattern) (l : Letter) → IsWaiting (h ++ x ∷ []) r' i p (length h + 1) → IsKept (h ++ x ∷ []) r' b l (length h + 1) → Admits p l.envelope → ⊥) → LawfulPairing (h ++ x ∷ []) r'
    extend r' i0 b0 keep added last = record {
      one_letter = λ i b d p q.
          elim (added i b p) [
            | inl old ↦ elim (added i d q) [ inl old' ↦ law.one_letter i b d old old' | inr new ↦ absurd (new.2.free_receive b old) ]
            | inr new ↦ elim (added i d q) [ inl old ↦ absurd (new.2.free_receive d old) | inr new' ↦ new.1 ∙ sym new'.1 ]
          ];
      one_receive = λ i j b p q.
          elim (added i b p) [
            | inl old ↦ elim (added j b q) [ inl old' ↦ law.one_receive i j b old old' | inr new ↦ absurd (new.2.free_letter i old) ]
            | inr new ↦ elim (added j b q) [ inl old ↦ absurd (new.2.free_letter j old) | inr new' ↦ new.0 ∙ sym new'.0 ]
          ];
      matched = λ i b p. elim (added i b p) [ inl old ↦ match_old i b old | inr new ↦ new.2.match ];
      earlier_letters = λ i b a p l q posted below came adm.
          elim (added i b q) [
            | inl old ↦
                let li = receive_within i b old in
                let lb = letter_within i b old in
                let j = law.earlier_letters i b a p l old (get_below h x i (Post p) li posted) below (get_below h x a (Come l) (omega arith) came) adm in
                (j.0, j.1, keep j.0 a j.2)
            | inr new ↦ let j = new.2.earlier_letters a p l posted below came adm in (j.0, j.1, keep j.0 a j.2)
          ];
      earlier_receives = λ i b j p l q came below posted lives adm.
          elim (added i b q) [
            | inl old ↦
                let li = receive_within i b old in
                let lb = letter_within i b old in
                let a = law.earlier_receives i b j p l old (get_below h x b (Come l) lb came) below (get_below h x j (Post p) (omega arith) posted) (λ s. lives (stands_old h x s)) adm in
                (a.0, a.1, keep j a.0 a.2)
            | inr new ↦ let a = new.2.earlier_receives j p l came below posted lives adm in (a.0, a.1, keep j a.0 a.2)
          ];
      none_missed = λ n i b p l le w k adm.
          let more = length_more h x in
          elim (lt_or_ge (length h) n) [
            | inl top ↦
                let e : n ≡ length h + 1 = omega arith in
                last i b p l (subst (IsWaiting (h ++ x ∷ []) r' i p) e w) (subst (IsKept (h ++ x ∷ []) r' b l) e k) adm
            | inr low ↦
                law.none_missed n i b p l low
                (record { live = receive_back h x low w.live; unpaired = λ d ld q. w.unpaired d ld (keep i d q) })
                (record { live = letter_back h x low k.live; unpaired = λ j lj q. k.unpaired j lj (keep j b q) })
                adm
          ];
    }
