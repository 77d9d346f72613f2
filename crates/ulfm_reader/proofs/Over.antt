-- Rows over ranks, one more each time.
use Rattle.std.proofs.Common.{◌≡◌, ℕ, ◌+◌, ◌<◌, ◌≤◌, List, [], ◌∷◌, ◌++◌, append_assoc, append-nil, length, Bool, true, false, leb, ◌||◌, map, get_or, drop, Option, Some, None, refl, sym, ap, ◌∙◌, arith}
use Rattle.std.proofs.lemmas.Bool.Decides.{nat_tests}
use Rattle.std.proofs.lemmas.List.{drop_all, drop_more, length-map, map-append, map-id}
use Rattle.std.proofs.lemmas.List.Concat.{flat_map-append}
use Rattle.std.proofs.lemmas.List.FromFn.{map-range_with_len_more}
use Rattle.std.specs.List.{flat_map, list_any, range_with_len}
use Rattle.std.specs.Option.{option_and_then}
use Rattle.toml.specs.Data.{Data}
use Rattle.ulfm_reader.proofs.WrittenOut.{Kept, Line, Value, line_view, view}
use Rattle.ulfm_reader.specs.Rows.{few_rows, rows_behind, rows_of}

pub any_view : (p : Data → Bool) (vs : List Value) → list_any p (map view vs) ≡ list_any (λ v. p (view v)) vs
any_view p [] = refl
any_view p (v ∷ vs) = ap (λ b. p (view v) || b) (any_view p vs)

pub any_line : (p : Line → Bool) (ls : List Kept) → list_any p (map line_view ls) ≡ list_any (λ l. p (line_view l)) ls
any_line p [] = refl
any_line p (l ∷ ls) = ap (λ b. p (line_view l) || b) (any_line p ls)

-- what one more number gives
flat_more : (f : ℕ → List Data) (n : ℕ) → flat_map f (range_with_len 0 (n + 1)) ≡ flat_map f (range_with_len 0 n) ++ f n
flat_more f n =
    let more : range_with_len 0 (n + 1) ≡ range_with_len 0 n ++ n ∷ [] = sym (map-id _) ∙ map-range_with_len_more (λ k. k) 0 n n (omega arith) ∙ ap (λ (ks : List ℕ). ks ++ n ∷ []) (map-id _) in
    ap (flat_map f) more ∙ flat_map-append f (range_with_len 0 n) (n ∷ []) ∙ ap (λ (s : List Data). flat_map f (range_with_len 0 n) ++ s) (append-nil (f n))

-- what one more gives behind others
pub one_more : (f : ℕ → List Data) (n : ℕ) (rows front more : List Data) → more ≡ rows ++ f n → rows ≡ front ++ flat_map f (range_with_len 0 n) → more ≡ front ++ flat_map f (range_with_len 0 (n + 1))
one_more f n rows front more grown so_far =
    grown ∙ ap (λ (s : List Data). s ++ f n) so_far ∙ append_assoc front (flat_map f (range_with_len 0 n)) (f n) ∙ ap (λ (s : List Data). front ++ s) (sym (flat_more f n))

module _ (lines : List Line) (ranks i : ℕ) (vs : List Value) (v : Value) (lt : i < length vs) (here : v ≡ get_or vs i v) (rows more new : List Value) (total : Option (List Data)) (grown : new ≡ rows ++ more)
    (each : map view more ≡ rows_of lines ranks (view v)) (so_far : rows_behind lines ranks (map view rows) (map view (drop i vs)) ≡ total) where
  all : map view new ≡ map view rows ++ rows_of lines ranks (view v)
  all = ap (map view) grown ∙ map-append view rows more ∙ ap (λ (ds : List Data). map view rows ++ ds) each

  step : total ≡ option_and_then (λ m. rows_behind lines ranks m (map view (drop (i + 1) vs))) (few_rows (map view new))
  unfolding rows_behind
  step = sym so_far ∙ rw (drop_more vs i v lt, ← here, all) refl

  -- too many with those of one more item
  pub rows_many : 1024 < length new → None ≡ total
  rows_many many =
      let long = length-map new view in
      let test : leb (length (map view new)) 1024 ≡ false = grind (arith, nat_tests) in
      sym (step ∙ rw test refl)

  -- no more than may be
  pub rows_few : length new ≤ 1024 → rows_behind lines ranks (map view new) (map view (drop (i + 1) vs)) ≡ total
  rows_few few =
      let long = length-map new view in
      let test : leb (length (map view new)) 1024 ≡ true = grind (arith, nat_tests) in
      sym (step ∙ rw test refl)

-- no item is left
pub rows_done : (lines : List Line) (ranks i : ℕ) (vs : List Value) (rows : List Data) (total : Option (List Data)) → length vs ≤ i → rows_behind lines ranks rows (map view (drop i vs)) ≡ total → Some rows ≡ total
unfolding rows_behind
rows_done lines ranks i vs rows total le so_far = let none : rows_behind lines ranks rows (map view (drop i vs)) ≡ Some rows = rw (drop_all i vs le) refl in sym none ∙ so_far
