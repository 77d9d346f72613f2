-- Upwards and round: each place comes once in turn.
use Rattle.std.proofs.Common.{◌≡◌, ◌≢◌, ◌<◌, ◌+◌, ◌-◌, ◌*◌, ◌/◌, ◌%◌, ◌↔◌, inl, inr, ℕ, zero, suc, Bool, true, false, IsTrue, [], map, length, refl, ap, sym, ◌∙◌, arith}
use Rattle.std.proofs.lemmas.Nat.{div-add-mod', mod_below, mod-mul-add}
use Rattle.std.proofs.Math.Nat.{mul-le-mul_right, suc-mul}
use Rattle.std.proofs.lemmas.List.{get_or_past, length-map}
use Rattle.ulfm_carrier.proofs.Common.{cases_lt, LaneEnds, seen_from, seen_in}

-- two turns of one round come to two places
pub turns_apart : (s i j c : ℕ) → i < j → j < c → (s + i) % c ≢ (s + j) % c
turns_apart s i j c low inside same =
    let q = (s + i) / c in
    let p = (s + j) / c in
    let a = div-add-mod' (s + i) c in
    let b = div-add-mod' (s + j) c in elim (cases_lt q p) [
      | inl below ↦ let h = mul-le-mul_right c below in let k = suc-mul q c in omega arith
      | inr above ↦ let h = mul-le-mul_right c above in omega arith
    ]

-- each place is come to in a round
pub turn_of : (s c p : ℕ) → p < c → (j : ℕ) × (j < c) × ((s + j) % c ≡ p)
turn_of s c p inside =
    let q = s / c in let r = s % c in let a = div-add-mod' s c in
    let b : r < c = mod_below s c (omega arith) in elim (cases_lt p r) [
      | inl below ↦
          let k = suc-mul q c in
          let e : s + (p + c - r) ≡ suc q * c + p = omega arith in (p + c - r, omega arith, ap (λ m. m % c) e ∙ mod-mul-add (suc q) c p inside)
      | inr above ↦ let e : s + (p - r) ≡ q * c + p = omega arith in (p - r, omega arith, ap (λ m. m % c) e ∙ mod-mul-add q c p inside)
    ]

-- nothing was seen in any ring, where nothing was seen in those of a round
pub none_seen : (e : LaneEnds) (s : ℕ) {c : ℕ} → length e.ins.items ≡ c → ((j : ℕ) → j < c → seen_from e ((s + j) % c) ≡ []) → (p : ℕ) → seen_from e p ≡ []
none_seen e s {c} many round p = elim (cases_lt p c) [
  | inl below ↦ let t = turn_of s c p below in ap (λ q. seen_from e q) (sym t.2) ∙ round t.0 t.1
  | inr above ↦ get_or_past (map seen_in e.ins.items) p [] (omega (arith, length-map e.ins.items seen_in))
]

-- a look that tells nothing saw nothing
pub not_found : (b : Bool) (n : ℕ) → (IsTrue b ↔ (0 < n)) → b ≡ false → n ≡ 0
not_found b zero is nothing = refl
not_found b (suc n) is nothing = let yes : b ≡ true = is.1 (omega arith) in absurd (cc)
