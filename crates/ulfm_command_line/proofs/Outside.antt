-- A job that hasn't a place.
use Rattle.std.proofs.Common.{◌≡◌, ◌↔◌, Bool, true, false, IsTrue}

pub not_inside : {P : Type 0} (b : Bool) → (IsTrue b ↔ P) → b ≡ false → ¬ P
not_inside b h outside = λ p. by b outside (h.1 p)
  where
    by : (b : Bool) → b ≡ false → IsTrue b → ⊥
    by true e is = absurd cc
    by false e is = absurd cc
