-- The ends of two ranks.
use Rattle.std.specs.Prelude.{ℕ, List}
use Rattle.ulfm_base.specs.declared.item.Item.{Item}
use Rattle.ulfm_carrier.specs.Family.{IsFresh}
use Rattle.ulfm_base.specs.Lists.{at}

-- each of these is an end of two, with which nothing was done yet
abbrev pub AreOfTwo : {E : Type 0} → (E → ℕ) → (E → ℕ → List Item) → (E → ℕ → List Item) → (E → Type 0) → List E → Type 0
AreOfTwo {E} count pushed taken ready ends = (k : ℕ) (e : E) → at ends k e → IsFresh count pushed taken ready 2 e
