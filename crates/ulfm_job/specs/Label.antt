-- What a note says.
use Rattle.std.specs.Prelude.{ℕ, ◌==◌, nat_le, nat_lt, Bool, ◌&&◌, ◌||◌, List, length, Option, Some, None, if◌then◌else◌}
use Rattle.std.specs.List.{list_all}

-- a letter, a digit, a space, `_`, `-` or `.`
abbrev pub is_label_byte : ℕ → Bool
is_label_byte b =
    (nat_le 97 b && nat_le b 122) || (nat_le 65 b && nat_le b 90) || (nat_le 48 b && nat_le b 57) || b == 32 || b == 95 || b == 45 || b == 46

-- the text of a note: 1 to 32 of them
abbrev pub is_label : List ℕ → Bool
is_label text = nat_lt 0 (length text) && nat_le (length text) 32 && list_all is_label_byte text

-- the label of a text, where it can be one
abbrev pub label_of : List ℕ → Option (List ℕ)
label_of text = if is_label text then Some text else None
