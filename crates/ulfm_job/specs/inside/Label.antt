-- The bytes of a label, inline.
use Rattle.std.specs.Prelude.{ℕ, List, take, ◌≤◌}
use Rattle.std.specs.Str.{IsUtf8}

-- those that are used are a text
pub record IsKept (used : ℕ) (bytes : List ℕ) : Type 0 where
  pub few : used ≤ 32
  pub text : IsUtf8 (take used bytes)
