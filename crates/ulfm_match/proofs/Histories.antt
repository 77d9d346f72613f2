-- A history longer by one event: what is at each place, what is live, and the numbers.
use Rattle.std.proofs.Common.{◌≡◌, ◌≢◌, ℕ, zero, suc, ◌+◌, ◌<◌, ◌≤◌, ◌⊎◌, inl, inr, List, [], ◌∷◌, ◌++◌, length, refl, ap, ◌∙◌, Some, arith, slice_get}
use Rattle.ulfm_match.proofs.Common.{Pattern, Letter, MatchEvent, Post, Come, End, Clear, StandsBetween, IsLiveReceive, IsLiveLetter, counts_as, count_before, slice_get_within}
use Rattle.ulfm_base.proofs.Longer.{get_below, get_cases, get_old}
use Rattle.ulfm_match.proofs.Decide.{compared}

pub stands_wider : {h : List MatchEvent} {e : MatchEvent} {i n : ℕ} (m : ℕ) → n ≤ m → StandsBetween h e i n → StandsBetween h e i m
stands_wider m l s = record { place = s.place; after = s.after; before = let a : s.place < _ = s.before in omega (arith, l, a); is = s.is }

module _ (h : List MatchEvent) (x : MatchEvent) where
  pub stands_old : {e : MatchEvent} {i n : ℕ} → StandsBetween h e i n → StandsBetween (h ++ x ∷ []) e i n
  stands_old {e} {i} {n} s = record { place = s.place; after = s.after; before = s.before; is = get_old h x s.place e s.is }

  pub stands_back : {e : MatchEvent} {i n : ℕ} → n ≤ length h → StandsBetween (h ++ x ∷ []) e i n → StandsBetween h e i n
  stands_back {e} {i} {n} l s =
      let b : s.place < n = s.before in
      record { place = s.place; after = s.after; before = s.before; is = get_below h x s.place e (omega arith) s.is }

  -- what stands before the moment after x is x, or stands before x
  pub stands_last : {e : MatchEvent} {i : ℕ} → StandsBetween (h ++ x ∷ []) e i (length h + 1) → StandsBetween h e i (length h) ⊎ (x ≡ e)
  stands_last {e} {i} s =
      elim (get_cases h x s.place e s.is) [
        | inl p ↦ inl (record { place = s.place; after = s.after; before = slice_get_within h s.place e p; is = p })
        | inr p ↦ inr p.1
      ]

  module _ {i : ℕ} {p : Pattern} where
    pub receive_old : {n : ℕ} → n ≤ length h → IsLiveReceive h i p n → IsLiveReceive (h ++ x ∷ []) i p n
    receive_old le v = record { posted = get_old h x i (Post p) v.posted; before = v.before; not_ended = λ s. v.not_ended (stands_back le s); not_cleared = λ s. v.not_cleared (stands_back le s) }

    pub receive_back : {n : ℕ} → n ≤ length h → IsLiveReceive (h ++ x ∷ []) i p n → IsLiveReceive h i p n
    receive_back {n} le v = record { posted = get_below h x i (Post p) (let b : i < n = v.before in omega arith) v.posted; before = v.before; not_ended = λ s. v.not_ended (stands_old s); not_cleared = λ s. v.not_cleared (stands_old s) }

    pub receive_more : x ≢ End i → x ≢ Clear p.context.number → IsLiveReceive h i p (length h) → IsLiveReceive (h ++ x ∷ []) i p (length h + 1)
    receive_more ne nc v = record {
      posted = get_old h x i (Post p) v.posted;
      before = let b : i < length h = v.before in omega arith;
      not_ended = λ s. elim (stands_last s) [ inl o ↦ v.not_ended o | inr e ↦ ne e ];
      not_cleared = λ s. elim (stands_last s) [ inl o ↦ v.not_cleared o | inr e ↦ nc e ];
    }

    pub receive_less : i < length h → IsLiveReceive (h ++ x ∷ []) i p (length h + 1) → IsLiveReceive h i p (length h)
    receive_less l v = record { posted = get_below h x i (Post p) l v.posted; before = l; not_ended = λ s. v.not_ended (stands_wider (length h + 1) (omega arith) (stands_old s)); not_cleared = λ s. v.not_cleared (stands_wider (length h + 1) (omega arith) (stands_old s)) }

  module _ {b : ℕ} {l : Letter} where
    pub letter_old : {n : ℕ} → n ≤ length h → IsLiveLetter h b l n → IsLiveLetter (h ++ x ∷ []) b l n
    letter_old le v = record { came = get_old h x b (Come l) v.came; before = v.before; not_cleared = λ s. v.not_cleared (stands_back le s) }

    pub letter_back : {n : ℕ} → n ≤ length h → IsLiveLetter (h ++ x ∷ []) b l n → IsLiveLetter h b l n
    letter_back {n} le v = record { came = get_below h x b (Come l) (let c : b < n = v.before in omega arith) v.came; before = v.before; not_cleared = λ s. v.not_cleared (stands_old s) }

    pub letter_more : x ≢ Clear l.envelope.context.number → IsLiveLetter h b l (length h) → IsLiveLetter (h ++ x ∷ []) b l (length h + 1)
    letter_more nc v = record {
      came = get_old h x b (Come l) v.came;
      before = let c : b < length h = v.before in omega arith;
      not_cleared = λ s. elim (stands_last s) [ inl o ↦ v.not_cleared o | inr e ↦ nc e ];
    }

    pub letter_less : b < length h → IsLiveLetter (h ++ x ∷ []) b l (length h + 1) → IsLiveLetter h b l (length h)
    letter_less c v = record { came = get_below h x b (Come l) c v.came; before = c; not_cleared = λ s. v.not_cleared (stands_wider (length h + 1) (omega arith) (stands_old s)) }

-- numbers
pub count_old : (h : List MatchEvent) (x : MatchEvent) (i : ℕ) → i ≤ length h → count_before (h ++ x ∷ []) i ≡ count_before h i
count_old [] x zero l = refl
count_old [] x (suc i) l = absurd (omega arith)
count_old (e ∷ h) x zero l = refl
count_old (e ∷ h) x (suc i) l = ap (λ n. counts_as e + n) (count_old h x i (omega arith))

pub count_new : (h : List MatchEvent) (x : MatchEvent) → count_before (h ++ x ∷ []) (suc (length h)) ≡ count_before h (length h) + counts_as x
count_new [] x = omega arith
count_new (e ∷ h) x = let k = count_new h x in omega (arith, k)

pub count_below : (h : List MatchEvent) (i n : ℕ) (e : MatchEvent) → slice_get h i ≡ Some e → counts_as e ≡ 1 → i < n → count_before h i < count_before h n
count_below [] i n e g w l = cc
count_below (y ∷ h) zero zero e g w l = absurd (omega arith)
count_below (y ∷ h) zero (suc n) e g w l =
    let q : y ≡ e = cc in
    let one : counts_as y ≡ 1 = ap counts_as q ∙ w in
    omega arith
count_below (y ∷ h) (suc i) zero e g w l = absurd (omega arith)
count_below (y ∷ h) (suc i) (suc n) e g w l = let k = count_below h i n e g w (omega arith) in omega (arith, k)

pub same_number : (h : List MatchEvent) (i j : ℕ) (d e : MatchEvent) → slice_get h i ≡ Some d → counts_as d ≡ 1 → slice_get h j ≡ Some e → counts_as e ≡ 1 → count_before h i ≡ count_before h j → i ≡ j
same_number h i j d e gi wi gj wj q =
    elim (compared i j) [
      | inl l ↦ absurd (omega (arith, count_below h i j d gi wi l))
      | inr o ↦ elim o [ inl s ↦ s | inr l ↦ absurd (omega (arith, count_below h j i e gj wj l)) ]
    ]

pub count_front : (h es : List MatchEvent) (i : ℕ) → i ≤ length h → count_before (h ++ es) i ≡ count_before h i
count_front [] [] zero l = refl
count_front [] (e ∷ es) zero l = refl
count_front [] es (suc i) l = absurd (omega (arith, l))
count_front (e ∷ h) es zero l = refl
count_front (e ∷ h) es (suc i) l = ap (λ n. counts_as e + n) (count_front h es i (omega (arith, l)))

pub count_rises : (h es : List MatchEvent) → count_before h (length h) ≤ count_before (h ++ es) (length (h ++ es))
count_rises [] es = omega arith
count_rises (e ∷ h) es = let r = count_rises h es in omega (arith, r)
