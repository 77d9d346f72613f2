-- A history has one lawful pairing at most.
use Rattle.std.proofs.Common.{◌≡◌, ℕ, zero, suc, ◌+◌, ◌<◌, inl, inr, List, length, sym, subst, arith, max}
use Rattle.ulfm_match.proofs.Common.{Pattern, Letter, MatchEvent, PostAt, ComeAt, IsLiveReceive, IsLiveLetter, Pairing, Pairs, LawfulPairing, slice_get_within}
use Rattle.ulfm_match.proofs.Histories.{stands_wider}
use Rattle.ulfm_match.proofs.Decide.{lt_or_ge, compared, paired_receive, paired_letter}

-- the pairs with both places below m are in the other pairing too
abbrev pub Within : Pairing → Pairing → ℕ → Type 0
Within r s m = (i b : ℕ) → i < m → b < m → Pairs r i b → Pairs s i b

pub same_pattern : (h : List MatchEvent) (i : ℕ) (p q : Pattern) → PostAt h i p → PostAt h i q → p ≡ q
same_pattern h i p q a b = cc

pub same_letter : (h : List MatchEvent) (i : ℕ) (l k : Letter) → ComeAt h i l → ComeAt h i k → l ≡ k
same_letter h i l k a b = cc

-- no place is that of a receive and of a letter
pub no_both : (h : List MatchEvent) (i : ℕ) (p : Pattern) (l : Letter) → PostAt h i p → ComeAt h i l → ⊥
no_both h i p l a b = cc

module _ (h : List MatchEvent) (r s : Pairing) (lr : LawfulPairing h r) (ls : LawfulPairing h s) (m : ℕ) (rs : Within r s m) (sr : Within s r m) where
  -- a receive posted at m has the same letter in both
  pub at_receive : (b : ℕ) → b < m → Pairs r m b → Pairs s m b
  at_receive b bm p =
      let k = lr.matched m b p in
      let top : max m b ≡ m = omega arith in
      let P = k.pattern in
      let posted = k.receive_live.posted in
      let within = slice_get_within h m _ posted in
      elim (paired_receive s m (m + 1)) [
        | inl q ↦
            let d = q.0 in
            let kd = ls.matched m d q.2 in
            let same = same_pattern h m kd.pattern P kd.receive_live.posted posted in
            elim (compared b d) [
              | inl below ↦
                  let j = ls.earlier_letters m d b P k.letter q.2 posted below k.letter_live.came k.admits in
                  let e = lr.one_receive m j.0 b p (sr j.0 b j.1 bm j.2) in
                  absurd (let l = j.1 in omega arith)
              | inr o ↦ elim o [
                | inl e ↦ subst (Pairs s m) (sym e) q.2
                | inr above ↦
                    let j = lr.earlier_letters m b d P kd.letter p posted above kd.letter_live.came (rw (sym same) kd.admits) in
                    let e = ls.one_receive m j.0 d q.2 (rs j.0 d j.1 (omega arith) j.2) in
                    absurd (let l = j.1 in omega arith)
              ]
            ]
        | inr free ↦ elim (paired_letter s b (m + 1)) [
          | inl q ↦ elim (compared q.0 m) [
            | inl below ↦
                let e = lr.one_receive m q.0 b p (sr q.0 b below bm q.2) in
                absurd (omega arith)
            | inr o ↦ elim o [
              | inl e ↦ rw (sym e) q.2
              | inr above ↦ absurd (let l = q.1 in omega arith)
            ]
          ]
          | inr none ↦
              absurd (ls.none_missed (m + 1) m b P k.letter (omega arith)
              (record { live = subst (λ x. IsLiveReceive h m P (x + 1)) top k.receive_live; unpaired = free })
              (record { live = subst (λ x. IsLiveLetter h b k.letter (x + 1)) top k.letter_live; unpaired = none }) k.admits)
        ]
      ]

  -- a letter that came at m has the same receive in both
  pub at_letter : (i : ℕ) → i < m → Pairs r i m → Pairs s i m
  at_letter i im p =
      let k = lr.matched i m p in
      let top : max i m ≡ m = omega arith in
      let L = k.letter in
      let came = k.letter_live.came in
      let within = slice_get_within h m _ came in
      elim (paired_letter s m (m + 1)) [
        | inl q ↦
            let j = q.0 in
            let jm = q.1 in
            let kj = ls.matched j m q.2 in
            let same = same_letter h m kj.letter L kj.letter_live.came came in
            elim (compared i j) [
              | inl below ↦
                  let a = ls.earlier_receives j m i k.pattern L q.2 came below k.receive_live.posted (λ e. k.receive_live.not_ended (stands_wider (max i m + 1) (omega arith) e)) k.admits in
                  let e = lr.one_letter i a.0 m (sr i a.0 im a.1 a.2) p in
                  absurd (let l = a.1 in omega arith)
              | inr o ↦ elim o [
                | inl e ↦ rw e q.2
                | inr above ↦
                    let a = lr.earlier_receives i m j kj.pattern L p came above kj.receive_live.posted (λ e. kj.receive_live.not_ended (stands_wider (max j m + 1) (omega arith) e)) (rw (sym same) kj.admits) in
                    let e = ls.one_letter j a.0 m (rs j a.0 (omega arith) a.1 a.2) q.2 in
                    absurd (let l = a.1 in omega arith)
              ]
            ]
        | inr none ↦ elim (paired_receive s i (m + 1)) [
          | inl q ↦ elim (compared q.0 m) [
            | inl below ↦
                let e = lr.one_letter i q.0 m (sr i q.0 im below q.2) p in
                absurd (omega arith)
            | inr o ↦ elim o [
              | inl e ↦ subst (Pairs s i) e q.2
              | inr above ↦ absurd (let l = q.1 in omega arith)
            ]
          ]
          | inr free ↦
              absurd (ls.none_missed (m + 1) i m k.pattern L (omega arith)
              (record { live = subst (λ x. IsLiveReceive h i k.pattern (x + 1)) top k.receive_live; unpaired = free })
              (record { live = subst (λ x. IsLiveLetter h m L (x + 1)) top k.letter_live; unpaired = none }) k.admits)
        ]
      ]

  pub within_more : Within r s (suc m)
  within_more i b il bl p =
      elim (lt_or_ge i m) [
        | inl im ↦ elim (lt_or_ge b m) [
          | inl bm ↦ rs i b im bm p
          | inr bm ↦
              let e : b ≡ m = omega arith in
              rw e (at_letter i im (rw (sym e) p))
        ]
        | inr im ↦
            let e : i ≡ m = omega arith in
            elim (lt_or_ge b m) [
              | inl bm ↦ rw e (at_receive b bm (rw (sym e) p))
              | inr bm ↦
                  let k = lr.matched i b p in
                  let f : b ≡ i = omega arith in
                  absurd (no_both h i k.pattern k.letter k.receive_live.posted (subst (λ x. ComeAt h x k.letter) f k.letter_live.came))
            ]
      ]

-- at each moment two lawful pairings have the same pairs
pub within_both : (h : List MatchEvent) (r s : Pairing) → LawfulPairing h r → LawfulPairing h s → (m : ℕ) → Within r s m × Within s r m
within_both h r s lr ls zero = (λ i b il bl p. absurd (omega arith), λ i b il bl p. absurd (omega arith))
within_both h r s lr ls (suc m) =
    let w = within_both h r s lr ls m in
    (within_more h r s lr ls m w.0 w.1, within_more h s r ls lr m w.1 w.0)

-- two lawful pairings of a history have the same pairs
pub one_pairing : (h : List MatchEvent) (r s : Pairing) → LawfulPairing h r → LawfulPairing h s → (i b : ℕ) → Pairs r i b → Pairs s i b
one_pairing h r s lr ls i b p =
    let k = lr.matched i b p in
    let li = slice_get_within h i _ k.receive_live.posted in
    let lb = slice_get_within h b _ k.letter_live.came in
    (within_both h r s lr ls (length h)).0 i b li lb p
