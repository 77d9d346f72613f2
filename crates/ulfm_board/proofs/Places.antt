-- A decision is put in at the place that was found for it.
use Rattle.std.proofs.Common.{◌≡◌, ℕ, zero, suc, List, [], ◌∷◌, map, insert, ap, refl, arith, None}
use Rattle.std.specs.FinMap.{find, put}
use Rattle.std.specs.Ordering.{nat_cmp}
use Rattle.ulfm_base.specs.declared.decision.Decision.{Decision}
use Rattle.ulfm_board.specs.Known.{Known}
use Rattle.ulfm_board.specs.inside.Places.{place_for}

-- to put one in, where there was none of its number, is to insert it there
pub put_there : (number : ℕ) (held : Decision) (known : Known) → find nat_cmp number known ≡ None → put nat_cmp number held known ≡ insert known (place_for number known) (number, held)
put_there number held [] none = refl
put_there number held (e ∷ es) none = grind (arith, put_there number held es)

pub map-insert : {X Y : Type 0} (f : X → Y) (xs : List X) (k : ℕ) (x : X) → map f (insert xs k x) ≡ insert (map f xs) k (f x)
map-insert f xs zero x = refl
map-insert f [] (suc k) x = refl
map-insert f (y ∷ ys) (suc k) x = ap (λ (l : List _). f y ∷ l) (map-insert f ys k x)
