-- Children are apart, and each is greater than its communicator.
use Rattle.std.proofs.Common.{◌≡◌, ◌<◌, ◌≤◌, ℕ, zero, suc, Bool, true, false, ◌+◌, ◌-◌, ◌*◌, ◌^◌, ◌/◌, ◌&&◌, nat_lt, if◌then◌else◌, refl, ap, arith, sym, ◌∙◌, subst}
use Rattle.std.proofs.Math.Nat.{pow-succ', suc-mul, mul_comm}
use Rattle.std.proofs.lemmas.Nat.{pow_pos}
use Rattle.std.proofs.lemmas.Bool.{and_parts, lt-ltb, ltb-true, ltb-false}
use Rattle.ulfm_base.specs.Context.{block_of, child_of, code_at, dup_of, halvings, nth_dup, nth_shrink, path_code, shrink_of}
use Rattle.ulfm_base.proofs.Odd.{odd_part, one_quotient}

-- a number lies between the power of two that its halvings give, and the next
halved : (most m : ℕ) → 1 ≤ m → m ≤ most + 1 → (2 ^ halvings most m ≤ m) × (m < 2 ^ halvings most m + 2 ^ halvings most m)
halved zero m some few = (omega (arith, some), omega (arith, few))
halved (suc most) m some few = pick (halved most (m / 2)) (nat_lt m 2) refl
  where
    more : ℕ
    more = halvings most (m / 2)

    pick : (1 ≤ m / 2 → m / 2 ≤ most + 1 → (2 ^ more ≤ m / 2) × (m / 2 < 2 ^ more + 2 ^ more)) → (b : Bool) → nat_lt m 2 ≡ b → (2 ^ (if b then 0 else suc more) ≤ m) × (m < 2 ^ (if b then 0 else suc more) + 2 ^ (if b then 0 else suc more))
    pick next true small = let low = ltb-true m 2 small in (omega (arith, some), omega (arith, low))
    pick next false large =
        let high = ltb-false m 2 large in
        let rest = next (omega (arith, high)) (omega (arith, few, high)) in
        let e : 2 ^ suc more ≡ 2 * 2 ^ more = pow-succ' 2 more in
        (omega (arith, e, rest.0), omega (arith, e, rest.1))

-- a child's number, from 1, lies in its block
pub in_block : (n : ℕ) → (2 ^ block_of n ≤ n + 1) × (n + 1 < 2 ^ block_of n + 2 ^ block_of n)
unfolding block_of
in_block n = halved n (n + 1) (omega arith) (omega arith)

-- the block of a number is its only one
pub blocks : (z y m k : ℕ) → m < 2 ^ z → k < 2 ^ y → 2 ^ z + m ≡ 2 ^ y + k → z ≡ y
blocks zero zero m k l g h = refl
blocks zero (suc y) m k l g h = let e = pow-succ' 2 y in let s = pow_pos y in absurd (omega (arith, e, s, h, l))
blocks (suc z) zero m k l g h = let e = pow-succ' 2 z in let s = pow_pos z in absurd (omega (arith, e, s, h, g))
blocks (suc z) (suc y) m k l g h =
    let e = pow-succ' 2 z in let f = pow-succ' 2 y in
    ap suc (blocks z y (m / 2) (k / 2) (omega (arith, e, l)) (omega (arith, f, g)) (omega (arith, e, f, h)))

-- a power of two that is no more than a child's number, from 1, while twice as much is, is the size of its block
pub block_is : (z n : ℕ) → 2 ^ z ≤ n + 1 → n + 1 < 2 ^ z + 2 ^ z → 2 ^ z ≡ 2 ^ block_of n
block_is z n low high =
    let its = in_block n in
    ap (λ b. 2 ^ b) (blocks z (block_of n) (n + 1 - 2 ^ z) (n + 1 - 2 ^ block_of n) (omega (arith, low, high)) (omega (arith, its.0, its.1)) (omega (arith, low, its.0)))

at_apart : (p q z y m k : ℕ) → m < 2 ^ z → k < 2 ^ y → code_at p z m ≡ code_at q y k → (p ≡ q) × (z ≡ y) × (m ≡ k)
at_apart p q z y m k l g h =
    let parts = odd_part z y (p * 2 ^ z + m) (q * 2 ^ y + k) h in
    let same : p * 2 ^ z + m ≡ q * 2 ^ z + k = parts.1 ∙ ap (λ w. q * 2 ^ w + k) (sym parts.0) in
    let rest = one_quotient (2 ^ z) p q m k l (subst (λ w. k < 2 ^ w) (sym parts.0) g) same in
    (rest.0, parts.0, rest.1)

codes_apart : (p q n m : ℕ) → path_code p n ≡ path_code q m → (p ≡ q) × (n ≡ m)
unfolding path_code
codes_apart p q n m h =
    let a = in_block n in
    let b = in_block m in
    let parts = at_apart p q (block_of n) (block_of m) (n + 1 - 2 ^ block_of n) (m + 1 - 2 ^ block_of m) (omega (arith, a.0, a.1)) (omega (arith, b.0, b.1)) h in
    let size : 2 ^ block_of n ≡ 2 ^ block_of m = ap (λ z. 2 ^ z) parts.1 in
    (parts.0, omega (arith, a.0, b.0, size, parts.2))

-- a number below which jobs name contexts, or a code behind them
abbrev either : Bool → ℕ → ℕ → ℕ
either b p n = if b then 2 * p + 1 + n else 63 + path_code p n

pub apart : (p q n m : ℕ) → child_of p n ≡ child_of q m → (p ≡ q) × (n ≡ m)
unfolding child_of
apart p q n m h = pick (nat_lt n 2 && nat_lt p 31) (nat_lt m 2 && nat_lt q 31) refl refl h
  where
    few : (p n : ℕ) → (nat_lt n 2 && nat_lt p 31) ≡ true → (n < 2) × (p < 31)
    few p n h = let parts = and_parts (nat_lt n 2) (nat_lt p 31) h in (ltb-true n 2 parts.0, ltb-true p 31 parts.1)

    pick : (b c : Bool) → (nat_lt n 2 && nat_lt p 31) ≡ b → (nat_lt m 2 && nat_lt q 31) ≡ c → either b p n ≡ either c q m → (p ≡ q) × (n ≡ m)
    pick true true a b h = let l = few p n a in let g = few q m b in (omega (arith, l.0, g.0, h), omega (arith, l.0, g.0, h))
    pick true false a b h = let l = few p n a in absurd (omega (arith, l.0, l.1, h))
    pick false true a b h = let l = few q m b in absurd (omega (arith, l.0, l.1, h))
    pick false false a b h = codes_apart p q n m (omega (arith, h))

-- p times something that isn't 0 is p at least
at_least : (p w : ℕ) → 0 < w → p ≤ p * w
at_least zero w s = omega arith
at_least (suc p) w s = let e = suc-mul p w in let rest = at_least p w s in omega (arith, e, rest, s)

-- the code by the size of the block
pub code_is : (p n w : ℕ) → w ≡ 2 ^ block_of n → w * (2 * (p * w + (n + 1 - w)) + 1) ≡ path_code p n
unfolding path_code
code_is p n w e = ap (λ w. w * (2 * (p * w + (n + 1 - w)) + 1)) e

within : (w inner : ℕ) → 0 < w → inner ≤ w * (2 * inner + 1)
within w inner s = let outer = at_least (2 * inner + 1) w s in let turned = mul_comm (2 * inner + 1) w in omega (arith, outer, turned)

-- what is doubled in a code isn't greater
pub code_within : (p n w : ℕ) → w ≡ 2 ^ block_of n → p * w + (n + 1 - w) ≤ path_code p n
code_within p n w e = subst (λ x. p * w + (n + 1 - w) ≤ x) (code_is p n w e) (within w (p * w + (n + 1 - w)) (subst (λ x. 0 < x) (sym e) (pow_pos (block_of n))))

code_greater : (p n : ℕ) → p < path_code p n
unfolding path_code
code_greater p n =
    let size = 2 ^ block_of n in
    let s : 0 < size = pow_pos (block_of n) in
    let inner = at_least p size s in
    let odd = 2 * (p * size + (n + 1 - size)) + 1 in
    let outer = at_least odd size s in
    let turned = mul_comm odd size in
    omega (arith, inner, outer, turned)

pub greater : (p n : ℕ) → p < child_of p n
unfolding child_of
greater p n = pick (nat_lt n 2 && nat_lt p 31)
  where
    pick : (b : Bool) → p < either b p n
    pick true = omega arith
    pick false = let more = code_greater p n in omega (arith, more)

-- a child's number isn't the world's
pub child_not_world : (p n : ℕ) → child_of p n ≡ 0 → ⊥
child_not_world p n e = let more = greater p n in omega (arith, more, e)

-- duplicates are apart
pub dups_alone : (k j p q : ℕ) → nth_dup k p ≡ nth_dup j q → (k ≡ j) × (p ≡ q)
dups_alone k j p q e = let same = apart p q (3 * k) (3 * j) e in (omega (arith, same.1), same.0)

-- shrinks are apart
pub shrinks_alone : (k j p q : ℕ) → nth_shrink k p ≡ nth_shrink j q → (k ≡ j) × (p ≡ q)
shrinks_alone k j p q e = let same = apart p q (3 * k + 1) (3 * j + 1) e in (omega (arith, same.1), same.0)

-- a duplicate is no shrink
pub dup_not_shrink : (k j p q : ℕ) → nth_dup k p ≡ nth_shrink j q → ⊥
dup_not_shrink k j p q e = let same = apart p q (3 * k) (3 * j + 1) e in omega (arith, same.1)

-- a child's number is greater than how many children are before it
more_than_place : (w inner n : ℕ) → 0 < w → n + 1 ≤ w + inner → n < w * (2 * inner + 1)
more_than_place w inner n s h = let outer = at_least (2 * inner) w s in let turned = mul_comm (2 * inner) w in omega (arith, outer, turned, h)

code_past : (p n : ℕ) → n < path_code p n
unfolding path_code
code_past p n =
    let size = 2 ^ block_of n in
    let its = in_block n in
    more_than_place size (p * size + (n + 1 - size)) n (pow_pos (block_of n)) (omega (arith, its.0))

pub child_past : (p n : ℕ) → n < child_of p n
unfolding child_of
child_past p n = pick (nat_lt n 2 && nat_lt p 31)
  where
    pick : (b : Bool) → n < either b p n
    pick true = omega arith
    pick false = let more = code_past p n in omega (arith, more)

pub child_early : (p n : ℕ) → n < 2 → p < 31 → 2 * p + 1 + n ≡ child_of p n
unfolding child_of
child_early p n few low = sym (ap (λ b. either (b && nat_lt p 31) p n) (lt-ltb n 2 few) ∙ ap (λ b. either (true && b) p n) (lt-ltb p 31 low))

pub child_later : (p n : ℕ) → (n < 2 → 31 ≤ p) → 63 + path_code p n ≡ child_of p n
unfolding child_of
child_later p n far = pick (nat_lt n 2) refl (nat_lt p 31) refl
  where
    pick : (a : Bool) → nat_lt n 2 ≡ a → (b : Bool) → nat_lt p 31 ≡ b → 63 + path_code p n ≡ either (a && b) p n
    pick true few true low = let high = far (ltb-true n 2 few) in let l = ltb-true p 31 low in absurd (omega (arith, high, l))
    pick true few false low = refl
    pick false many b low = refl

pub first_children : (c : ℕ) → c < 31 → (nth_dup 0 c ≡ dup_of c) × (nth_shrink 0 c ≡ shrink_of c)
unfolding child_of
first_children c low = let e : nat_lt c 31 ≡ true = lt-ltb c 31 low in (ap (λ b. if b then 2 * c + 1 + 0 else 63 + path_code c 0) e ∙ omega arith, ap (λ b. if b then 2 * c + 1 + 1 else 63 + path_code c 1) e ∙ omega arith)
