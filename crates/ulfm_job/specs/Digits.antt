-- Numbers as texts have them.
use Rattle.std.specs.Prelude.{ℕ, nat_le, nat_lt, ◌&&◌, Bool, List, length, Option, Some, None, if◌then◌else◌}
use Rattle.std.specs.Char.{is_ascii_digit}
use Rattle.std.specs.List.{list_all}
use Rattle.std.specs.Str.Parse.{digits_value}

-- digits alone, of which there are some
abbrev pub is_number : List ℕ → Bool
is_number text = nat_lt 0 (length text) && list_all is_ascii_digit text

-- the number of such a text, if it is at most so much
abbrev pub number_in : ℕ → List ℕ → Option ℕ
number_in most text = if is_number text && nat_le (digits_value 10 text) most then Some (digits_value 10 text) else None
