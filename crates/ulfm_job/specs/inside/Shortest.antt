-- Numbers as they are written.
use Rattle.std.specs.Prelude.{ℕ, ◌==◌, ◌&&◌, ◌||◌, Bool, false, not, List, [], ◌∷◌, length}
use Rattle.std.specs.Char.{is_ascii_digit}
use Rattle.std.specs.List.{list_all}

-- a number with no 0 before its other digits
abbrev pub is_shortest : List ℕ → Bool
is_shortest [] = false
is_shortest (c ∷ text) = is_ascii_digit c && list_all is_ascii_digit text && (not (c == 48) || length text == 0)
