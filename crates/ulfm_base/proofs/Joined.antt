-- A loop that joins two sets place by place, as their union or their intersection.
use Rattle.std.proofs.Common.{◌≡◌, ℕ, ◌+◌, ◌<◌, ◌≤◌, Bool, false, List, length, get_or, arith}
use Rattle.std.proofs.Math.ListN.{set}
use Rattle.std.proofs.lemmas.Grind.{common_steps}

-- zs is xs, joined with ys in the first i places
pub record IsJoined (join : Bool → Bool → Bool) (xs ys zs : List Bool) (i : ℕ) : Type 0 where
  pub long : length zs ≡ 8
  pub before : (r : ℕ) → r < i → get_or zs r false ≡ join (get_or xs r false) (get_or ys r false)
  pub after : (r : ℕ) → i ≤ r → get_or zs r false ≡ get_or xs r false

pub joined_more : (join : Bool → Bool → Bool) (xs ys zs : List Bool) (i : ℕ) → i < 8 → IsJoined join xs ys zs i → IsJoined join xs ys (set zs i (join (get_or zs i false) (get_or ys i false))) (i + 1)
joined_more join xs ys zs i l h =
    let long : length zs ≡ 8 = h.long in
    record {
      long = grind (arith, common_steps);
      before = λ r s. let b = h.before r in let a = h.after r in grind (arith, common_steps);
      after = λ r s. let a = h.after r in grind (arith, common_steps);
    }
