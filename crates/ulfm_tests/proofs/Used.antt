-- One of many, which is used.
use Rattle.std.proofs.Common.{◌≡◌, ◌<◌, ℕ, List, length, get_or}
use Rattle.ulfm_base.specs.Lists.{at}
use Rattle.ulfm_carrier.proofs.Places.{at_read}

-- what each has, the one at this place has
pub has_here : {X : Type 0} (P : X → Type 0) (all : List X) (k : ℕ) {e : X} → k < length all → e ≡ get_or all k e → ((j : ℕ) (y : X) → at all j y → P y) → P e
has_here P all k {e} low here each = each k e (at_read all k low here)
