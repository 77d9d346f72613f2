-- Sums below a number.
use Rattle.std.proofs.Common.{◌≡◌, ◌≢◌, ℕ, zero, suc, ◌+◌, ◌*◌, ◌<◌, ◌≤◌, refl, ap, arith, inl, inr}
use Rattle.ulfm_world.proofs.Common.{cases_eq, sum_below}

pub sum-same : (n : ℕ) (f g : ℕ → ℕ) → ((x : ℕ) → x < n → f x ≡ g x) → sum_below n f ≡ sum_below n g
sum-same zero f g h = refl
sum-same (suc n) f g h = omega (arith, sum-same n f g (λ x k. h x (omega (arith, k))), h n (omega arith))

-- a change at one place
pub sum-at : (n i : ℕ) (f g : ℕ → ℕ) → i < n → ((x : ℕ) → x < n → x ≢ i → f x ≡ g x) → sum_below n f + g i ≡ sum_below n g + f i
sum-at zero i f g inside h = absurd (omega (arith, inside))
sum-at (suc n) i f g inside h = elim (cases_eq n i) [
  | inl last ↦
      let below : sum_below n f ≡ sum_below n g = sum-same n f g (λ x k. h x (omega (arith, k)) (λ e. omega (arith, e, k, last))) in
      omega (arith, below, ap f last, ap g last)
  | inr other ↦ omega (arith, sum-at n i f g (omega (arith, inside, other)) (λ x k. h x (omega (arith, k))), h n (omega arith) other)
]

-- no place rises by more than c
pub sum-within : (n c : ℕ) (f g : ℕ → ℕ) → ((x : ℕ) → x < n → f x ≤ g x + c) → sum_below n f ≤ sum_below n g + c * n
sum-within zero c f g h = omega arith
sum-within (suc n) c f g h = omega (arith, sum-within n c f g (λ x k. h x (omega (arith, k))), h n (omega arith))

pub sum-le : (n : ℕ) (f g : ℕ → ℕ) → ((x : ℕ) → x < n → f x ≤ g x) → sum_below n f ≤ sum_below n g
sum-le zero f g h = omega arith
sum-le (suc n) f g h = omega (arith, sum-le n f g (λ x k. h x (omega (arith, k))), h n (omega arith))

-- no place rises, and one falls by c
pub sum-falls : (n i c : ℕ) (f g : ℕ → ℕ) → i < n → ((x : ℕ) → x < n → f x ≤ g x) → f i + c ≤ g i → sum_below n f + c ≤ sum_below n g
sum-falls zero i c f g inside h at = absurd (omega (arith, inside))
sum-falls (suc n) i c f g inside h at = elim (cases_eq n i) [
  | inl last ↦ omega (arith, sum-le n f g (λ x k. h x (omega (arith, k))), ap f last, ap g last, at)
  | inr other ↦ omega (arith, sum-falls n i c f g (omega (arith, inside, other)) (λ x k. h x (omega (arith, k))) at, h n (omega arith))
]
