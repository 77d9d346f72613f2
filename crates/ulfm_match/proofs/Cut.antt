-- A lawful pairing, cut to a beginning of its history, is lawful there.
use Rattle.std.proofs.Common.{◌≡◌, ℕ, zero, suc, ◌+◌, ◌<◌, ◌≤◌, List, [], ◌∷◌, ◌++◌, length, Some, arith, true, length-append, slice_get, max, nat_lt, ◌&&◌}
use Rattle.ulfm_match.proofs.Common.{Pattern, Letter, MatchEvent, Post, Come, StandsBetween, IsLiveReceive, IsLiveLetter, Pairing, Pairs, pairs_below, LawfulPairing, nat_tests}
use Rattle.ulfm_match.proofs.Members.{Contains-filter, filter-Contains}

module _ {X : Type 0} where
  pub get_front : (xs ys : List X) (k : ℕ) (x : X) → slice_get xs k ≡ Some x → slice_get (xs ++ ys) k ≡ Some x
  get_front [] ys k x h = cc
  get_front (z ∷ xs) ys zero x h = h
  get_front (z ∷ xs) ys (suc k) x h = get_front xs ys k x h

  pub get_in_front : (xs ys : List X) (k : ℕ) (x : X) → k < length xs → slice_get (xs ++ ys) k ≡ Some x → slice_get xs k ≡ Some x
  get_in_front [] ys k x l h = absurd (omega arith)
  get_in_front (z ∷ xs) ys zero x l h = h
  get_in_front (z ∷ xs) ys (suc k) x l h = get_in_front xs ys k x (omega arith) h

pub inside_to : (n : ℕ) (r : Pairing) (i b : ℕ) → Pairs (pairs_below n r) i b → Pairs r i b × (i < n) × (b < n)
inside_to n r i b q =
    let f = Contains-filter (λ (pair : ℕ × ℕ). nat_lt pair.0 n && nat_lt pair.1 n) r (i, b) q in
    let both = tests n i b f.1 in
    (f.0, both.0, both.1)
  where
    tests : (n i b : ℕ) → nat_lt i n && nat_lt b n ≡ true → (i < n) × (b < n)
    tests n i b h = (grind (arith, nat_tests), grind (arith, nat_tests))

pub inside_back : (n : ℕ) (r : Pairing) (i b : ℕ) → i < n → b < n → Pairs r i b → Pairs (pairs_below n r) i b
inside_back n r i b li lb q = filter-Contains (λ (pair : ℕ × ℕ). nat_lt pair.0 n && nat_lt pair.1 n) r (i, b) q (tests n i b li lb)
  where
    tests : (n i b : ℕ) → i < n → b < n → nat_lt i n && nat_lt b n ≡ true
    tests n i b l m = grind (arith, nat_tests)

module _ (h xs : List MatchEvent) where
  stands_on : {e : MatchEvent} {i n : ℕ} → StandsBetween h e i n → StandsBetween (h ++ xs) e i n
  stands_on {e} {i} {n} s = record { place = s.place; after = s.after; before = s.before; is = get_front h xs s.place e s.is }

  stands_off : {e : MatchEvent} {i n : ℕ} → n ≤ length h → StandsBetween (h ++ xs) e i n → StandsBetween h e i n
  stands_off {e} {i} {n} l s =
      let b = s.before in
      record { place = s.place; after = s.after; before = s.before; is = get_in_front h xs s.place e (omega arith) s.is }

  receive_on : {i n : ℕ} {p : Pattern} → n ≤ length h → IsLiveReceive h i p n → IsLiveReceive (h ++ xs) i p n
  receive_on {i} {n} {p} l v = record { posted = get_front h xs i (Post p) v.posted; before = v.before; not_ended = λ s. v.not_ended (stands_off l s); not_cleared = λ s. v.not_cleared (stands_off l s) }

  receive_off : {i n : ℕ} {p : Pattern} → n ≤ length h → IsLiveReceive (h ++ xs) i p n → IsLiveReceive h i p n
  receive_off {i} {n} {p} l v = record { posted = get_in_front h xs i (Post p) (let b = v.before in omega arith) v.posted; before = v.before; not_ended = λ s. v.not_ended (stands_on s); not_cleared = λ s. v.not_cleared (stands_on s) }

  letter_on : {b n : ℕ} {l : Letter} → n ≤ length h → IsLiveLetter h b l n → IsLiveLetter (h ++ xs) b l n
  letter_on {b} {n} {l} le v = record { came = get_front h xs b (Come l) v.came; before = v.before; not_cleared = λ s. v.not_cleared (stands_off le s) }

  letter_off : {b n : ℕ} {l : Letter} → n ≤ length h → IsLiveLetter (h ++ xs) b l n → IsLiveLetter h b l n
  letter_off {b} {n} {l} le v = record { came = get_in_front h xs b (Come l) (let c = v.before in omega arith) v.came; before = v.before; not_cleared = λ s. v.not_cleared (stands_on s) }

  -- cut to a beginning, a lawful pairing is lawful there
  pub cut : (r : Pairing) → LawfulPairing (h ++ xs) r → LawfulPairing h (pairs_below (length h) r)
  cut r law =
      let to = inside_to (length h) r in
      record {
        one_letter = λ i b d p q. law.one_letter i b d (to i b p).0 (to i d q).0;
        one_receive = λ i j b p q. law.one_receive i j b (to i b p).0 (to j b q).0;
        matched = λ i b p.
            let f = to i b p in
            let li = f.1 in
            let lb = f.2 in
            let top : max i b + 1 ≤ length h = omega arith in
            let k = law.matched i b f.0 in
            record { pattern = k.pattern; letter = k.letter; receive_live = receive_off top k.receive_live; letter_live = letter_off top k.letter_live; admits = k.admits };
        earlier_letters = λ i b a p l q posted below came adm.
            let f = to i b q in
            let li = f.1 in
            let lb = f.2 in
            let j = law.earlier_letters i b a p l f.0 (get_front h xs i (Post p) posted) below (get_front h xs a (Come l) came) adm in
            (j.0, j.1, inside_back (length h) r j.0 a (let lj = j.1 in omega arith) (omega arith) j.2);
        earlier_receives = λ i b j p l q came below posted lives adm.
            let f = to i b q in
            let li = f.1 in
            let lb = f.2 in
            let top : max i b ≤ length h = omega arith in
            let a = law.earlier_receives i b j p l f.0 (get_front h xs b (Come l) came) below (get_front h xs j (Post p) posted) (λ s. lives (stands_off top s)) adm in
            (a.0, a.1, inside_back (length h) r j a.0 (omega arith) (let la = a.1 in omega arith) a.2);
        none_missed = λ n i b p l le w k adm.
            let li = w.live.before in
            let lb = k.live.before in
            law.none_missed n i b p l (let m = length-append h xs in omega arith)
            (record { live = receive_on le w.live; unpaired = λ d ld q. w.unpaired d ld (inside_back (length h) r i d (omega arith) (omega arith) q) })
            (record { live = letter_on le k.live; unpaired = λ j lj q. k.unpaired j lj (inside_back (length h) r j b (omega arith) (omega arith) q) })
            adm;
      }
