-- How many items the senders below a number have among those of all.
use Rattle.std.proofs.Common.{◌≡◌, ◌<◌, ◌≤◌, ◌+◌, inl, inr, ℕ, zero, suc, List, [], ◌∷◌, length, refl, ap, ◌∙◌, arith}
use Rattle.ulfm_carrier.proofs.Common.{AllBelow, cases_eq, cases_lt, items_from, Signed}
use Rattle.ulfm_carrier.proofs.Changed.{items_here, items_else}

abbrev pub items_below : ℕ → List Signed → ℕ
items_below zero xs = 0
items_below (suc n) xs = items_below n xs + length (items_from n xs)

below_else : (n : ℕ) (x : Signed) (xs : List Signed) → n ≤ x.0.number → items_below n (x ∷ xs) ≡ items_below n xs
below_else zero x xs late = refl
below_else (suc n) x xs late =
    let rest = below_else n x xs (omega (arith, late)) in
    let own = ap length (items_else n x xs (λ e. absurd (omega (arith, e, late)))) in
    omega (arith, rest, own)

below_here : (n : ℕ) (x : Signed) (xs : List Signed) → x.0.number < n → items_below n (x ∷ xs) ≡ items_below n xs + 1
below_here zero x xs low = absurd (omega (arith, low))
below_here (suc n) x xs low = elim (cases_eq x.0.number n) [
  | inl same ↦
      let rest = below_else n x xs (omega (arith, same)) in
      let own = ap length (items_here n x xs same) in
      omega (arith, rest, own)
  | inr apart ↦
      let m = apart in
      let rest = below_here n x xs (omega (arith, low, m)) in
      let own = ap length (items_else n x xs apart) in
      omega (arith, rest, own)
]

pub below-few : (n : ℕ) (xs : List Signed) → items_below n xs ≤ length xs
below-few zero [] = omega arith
below-few (suc n) [] = let rest = below-few n [] in omega (arith, rest)
below-few n (x ∷ xs) = elim (cases_lt x.0.number n) [
  | inl low ↦ let rest = below-few n xs in let own = below_here n x xs low in omega (arith, rest, own)
  | inr late ↦ let rest = below-few n xs in let own = below_else n x xs late in omega (arith, rest, own)
]

below_nil : (n : ℕ) → items_below n [] ≡ 0
below_nil zero = refl
below_nil (suc n) = let rest = below_nil n in omega (arith, rest)

pub below-all : (n : ℕ) (xs : List Signed) → AllBelow n xs → items_below n xs ≡ length xs
below-all n [] all = below_nil n
below-all n (x ∷ xs) all =
    let rest = below-all n xs (λ k y here. all (suc k) y here) in
    let own = below_here n x xs (all 0 x refl) in
    omega (arith, rest, own)

pub below-parts : (n : ℕ) (xs ys zs : List Signed) → ((p : ℕ) → p < n → length (items_from p xs) ≡ length (items_from p ys) + length (items_from p zs)) → items_below n xs ≡ items_below n ys + items_below n zs
below-parts zero xs ys zs parts = refl
below-parts (suc n) xs ys zs parts =
    let rest = below-parts n xs ys zs (λ p low. parts p (omega (arith, low))) in
    let own = parts n (omega arith) in
    omega (arith, rest, own)

pub below-none : (n : ℕ) (xs : List Signed) → items_below n xs ≡ 0 → (p : ℕ) → p < n → length (items_from p xs) ≡ 0
below-none zero xs none p low = absurd (omega (arith, low))
below-none (suc n) xs none p low = elim (cases_eq p n) [
  | inl same ↦ let own : length (items_from n xs) ≡ 0 = omega (arith, none) in ap (λ q. length (items_from q xs)) same ∙ own
  | inr apart ↦ let m = apart in below-none n xs (omega (arith, none)) p (omega (arith, low, m))
]

-- Each sender below n has as many items in the one list as in the other two. Where the second has as many items as the
-- first, the third has none of them.
pub none_more : (n : ℕ) (xs ys zs : List Signed) → AllBelow n ys → length xs ≡ length ys → ((p : ℕ) → p < n → length (items_from p xs) ≡ length (items_from p ys) + length (items_from p zs))
    → (p : ℕ) → p < n → length (items_from p zs) ≡ 0
none_more n xs ys zs all same parts =
    let few = below-few n xs in
    let whole = below-all n ys all in
    let sums = below-parts n xs ys zs parts in
    below-none n zs (omega (arith, few, whole, sums, same))
