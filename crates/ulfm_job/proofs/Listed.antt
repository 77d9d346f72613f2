-- Stops of a rank and of all ranks, one more each time.
use Rattle.std.proofs.Common.{◌≡◌, ℕ, ◌+◌, ◌<◌, ◌≤◌, List, [], ◌∷◌, ◌++◌, append_assoc, append-nil, get_or, Bool, true, false, sym, ap, ◌∙◌, arith}
use Rattle.std.proofs.lemmas.List.{map-id}
use Rattle.std.proofs.lemmas.List.Concat.{flat_map-append}
use Rattle.std.proofs.lemmas.List.FromFn.{get_or-range_with_len, length-range_with_len, map-range_with_len_more}
use Rattle.std.proofs.lemmas.List.Sums.{position_or_len_is}
use Rattle.std.specs.List.{flat_map, position_or_len, range_with_len}
use Rattle.ulfm_job.specs.declared.stop.Stop.{Stop}

-- the first number that passes, of those below n
pub first_place : (p : ℕ → Bool) (n i : ℕ) → i ≤ n → ((k : ℕ) → k < i → p k ≡ false) → (i < n → p i ≡ true) → i ≡ position_or_len p (range_with_len 0 n)
first_place p n i le before here =
    let long = length-range_with_len 0 n in
    let at : (k : ℕ) → k < n → get_or (range_with_len 0 n) k 0 ≡ k = λ k lt. get_or-range_with_len 0 n k 0 lt ∙ omega arith in
    sym (position_or_len_is p (range_with_len 0 n) i 0 (omega (arith, long, le))
    (λ k lt. ap p (at k (omega (arith, lt, le))) ∙ before k lt)
    (λ lt. let inside : i < n = omega (arith, long, lt) in ap p (at i inside) ∙ here inside))

-- what one more number gives
pub flat_more : (f : ℕ → List Stop) (n : ℕ) → flat_map f (range_with_len 0 (n + 1)) ≡ flat_map f (range_with_len 0 n) ++ f n
flat_more f n =
    let more : range_with_len 0 (n + 1) ≡ range_with_len 0 n ++ n ∷ [] = sym (map-id _) ∙ map-range_with_len_more (λ k. k) 0 n n (omega arith) ∙ ap (λ (ks : List ℕ). ks ++ n ∷ []) (map-id _) in
    ap (flat_map f) more ∙ flat_map-append f (range_with_len 0 n) (n ∷ []) ∙ ap (λ (s : List Stop). flat_map f (range_with_len 0 n) ++ s) (append-nil (f n))

-- what one more number gives, behind other stops
pub flat_next : (f : ℕ → List Stop) (k : ℕ) (stops front : List Stop) → stops ≡ front ++ flat_map f (range_with_len 0 k) → stops ++ f k ≡ front ++ flat_map f (range_with_len 0 (k + 1))
flat_next f k stops front so_far =
    ap (λ (s : List Stop). s ++ f k) so_far ∙ append_assoc front (flat_map f (range_with_len 0 k)) (f k)
    ∙ ap (λ (s : List Stop). front ++ s) (sym (flat_more f k))
