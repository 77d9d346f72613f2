-- Texts that end with a star.
use Rattle.std.proofs.Common.{◌≡◌, ℕ, ◌<◌, ◌==◌, List, [], ◌∷◌, ◌++◌, append-nil, length, length-append, get_or, Bool, true, false, codes, if◌then◌else◌, refl, sym, ap, ◌∙◌, arith}
use Rattle.std.proofs.lemmas.Bool.{false_from_ne_true}
use Rattle.std.proofs.lemmas.Bool.Decides.{Decides-eqb}
use Rattle.std.proofs.lemmas.List.{nil_from_length, take_all}
use Rattle.std.proofs.lemmas.List.Sums.{passes_at_first, split_at_first}
use Rattle.std.proofs.lemmas.Slice.Eq.{bytes_eq-Decides}
use Rattle.std.specs.List.{after_first, before_first, position_or_len}
use Rattle.ulfm_job.specs.Text.{is_starred, star_if, unstarred}

-- a text around the first c
pub around : (c : ℕ) (text : List ℕ) → position_or_len (λ b. b == c) text < length text → before_first (λ b. b == c) text ++ (c ∷ after_first (λ b. b == c) text) ≡ text
around c text lt =
    let at : get_or text (position_or_len (λ b. b == c) text) 0 ≡ c = (Decides-eqb (get_or text (position_or_len (λ b. b == c) text) 0) c).0 (passes_at_first (λ b. b == c) text 0 lt) in
    ap (λ (b : ℕ). before_first (λ b. b == c) text ++ (b ∷ after_first (λ b. b == c) text)) (sym at) ∙ sym (split_at_first (λ b. b == c) text 0 lt)

-- a text is what stands before its last star, and that star, or has none there
pub star_written : (text : List ℕ) → unstarred text ++ star_if (is_starred text) ≡ text
star_written text = by (is_starred text) refl
  where
    by : (b : Bool) → is_starred text ≡ b → (if b then before_first (λ c. c == 42) text else text) ++ star_if b ≡ text
    by true is = sym ((bytes_eq-Decides text (before_first (λ c. c == 42) text ++ codes "*")).0 is)
    by false is = append-nil text

module _ (text : List ℕ) where
  -- nothing stands behind the first star
  pub starred_last : position_or_len (λ b. b == 42) text < length text → after_first (λ b. b == 42) text ≡ [] → is_starred text ≡ true
  starred_last lt none =
      (bytes_eq-Decides text (before_first (λ c. c == 42) text ++ codes "*")).1
      (sym (around 42 text lt) ∙ ap (λ (rest : List ℕ). before_first (λ c. c == 42) text ++ (42 ∷ rest)) none)

  -- there is none
  pub starred_never : position_or_len (λ b. b == 42) text ≡ length text → is_starred text ≡ false
  starred_never none = false_from_ne_true _ (λ is.
      let front = before_first (λ c. c == 42) text in
      let all : front ≡ text = take_all (position_or_len (λ b. b == 42) text) text (omega (arith, none)) in
      let whole = ap (λ (xs : List ℕ). length xs) ((bytes_eq-Decides text (front ++ codes "*")).0 is) in
      omega (arith, whole, length-append front (codes "*"), ap (λ (xs : List ℕ). length xs) all))

  parted : (b : Bool) → is_starred text ≡ b → (if b then before_first (λ c. c == 42) text else text) ≡ unstarred text
  parted b is = ap (λ (starred : Bool). if starred then before_first (λ c. c == 42) text else text) (sym is)

  module _ (front rest : List ℕ) (cut : (position_or_len (λ b. b == 42) text < length text) × (front ≡ before_first (λ b. b == 42) text) × (rest ≡ after_first (λ b. b == 42) text)) where
    -- the text ends behind the star
    pub cut_last : length rest ≡ 0 → (front ≡ unstarred text) × (true ≡ is_starred text)
    cut_last none =
        let is = starred_last cut.0 (sym cut.2 ∙ nil_from_length rest none) in
        (cut.1 ∙ parted true is, sym is)

  -- there is no star
  pub cut_never : position_or_len (λ b. b == 42) text ≡ length text → (text ≡ unstarred text) × (false ≡ is_starred text)
  cut_never none = let is = starred_never none in (parted false is, sym is)
