-- Lists in parts of one size.
use Rattle.std.proofs.Common.{◌≡◌, ℕ, zero, suc, ◌+◌, ◌*◌, ◌/◌, ◌%◌, ◌<◌, ◌≤◌, min, List, [], ◌∷◌, ◌++◌, length, take, drop, refl, ap, sym, subst, ◌∙◌, arith, length-drop, slice_index_or}
use Rattle.std.proofs.Math.Nat.{mod-lt}
use Rattle.std.proofs.lemmas.List.{drop-drop, drop_all, take-append-drop}
use Rattle.std.proofs.lemmas.Nat.{div-add-mod'}
use Rattle.std.specs.Fork.{slice_chunk}
use Rattle.ulfm_outcomes_reply.specs.inside.Parts.{AreParts}

module _ {X R : Type 0} (Came : List X → R → Type 0) (xs : List X) (size : ℕ) where
  -- the elements from a part on, by what each part came to
  pub parted-from : (n : ℕ) (rs : List R) → ((k : ℕ) (d : R) → k < length rs → Came (slice_chunk xs size (n + k)) (slice_index_or rs k d))
      → length (drop (n * size) xs) ≤ length rs * size → AreParts Came (drop (n * size) xs) rs
  parted-from n [] each short = drop_all 0 (drop (n * size) xs) (omega (arith, short))
  parted-from n (r ∷ rs) each short =
      let next : n * size + size ≡ suc n * size = omega arith in
      let here : n + 0 ≡ n = omega arith in (
        take size (drop (n * size) xs),
        drop (suc n * size) xs,
        sym (take-append-drop size (drop (n * size) xs)) ∙ ap (λ (ys : List X). take size (drop (n * size) xs) ++ ys) (drop-drop size (n * size) xs ∙ ap (λ (m : ℕ). drop m xs) next),
        subst (λ (m : ℕ). Came (slice_chunk xs size m) r) here (each 0 r (omega arith)),
        parted-from (suc n) rs (λ k d low. let same : n + suc k ≡ suc n + k = omega arith in subst (λ (m : ℕ). Came (slice_chunk xs size m) (slice_index_or rs k d)) same (each (suc k) d (omega (arith, low)))) (omega (arith, short, length-drop (n * size) xs, length-drop (suc n * size) xs)),
      )

-- all of them, by what each part came to
pub parted : {X R : Type 0} (Came : List X → R → Type 0) (xs : List X) (size : ℕ) (rs : List R) → ((k : ℕ) (d : R) → k < length rs → Came (slice_chunk xs size k) (slice_index_or rs k d))
    → length xs ≤ length rs * size → AreParts Came xs rs
parted {X} Came xs size rs each short =
    let none : 0 * size ≡ 0 = omega arith in
    subst (λ (n : ℕ). AreParts Came (drop n xs) rs) none
    (parted-from Came xs size 0 rs (λ k d low. let same : k ≡ 0 + k = omega arith in subst (λ (m : ℕ). Came (slice_chunk xs size m) (slice_index_or rs k d)) same (each k d low))
    (subst (λ (n : ℕ). length (drop n xs) ≤ length rs * size) (sym none) short))

-- as many parts as there are have room for all places
pub parts-enough : (n size m : ℕ) → 0 < size → m ≡ n / size + min 1 (n % size) → n ≤ m * size
parts-enough n size m some is = by (n % size) refl
  where
    whole : n / size * size + n % size ≡ n
    whole = div-add-mod' n size

    by : (r : ℕ) → n % size ≡ r → n ≤ m * size
    by zero none =
        let same : m ≡ n / size = omega (arith, is, none) in
        let step : m * size ≡ n / size * size = ap (λ (k : ℕ). k * size) same in
        omega (arith, step, whole, none)
    by (suc r) more =
        let same : m ≡ suc (n / size) = omega (arith, is, more) in
        let step : m * size ≡ suc (n / size) * size = ap (λ (k : ℕ). k * size) same in
        let grown : n / size * size + size ≡ suc (n / size) * size = omega arith in
        omega (arith, step, grown, whole, mod-lt n some)
