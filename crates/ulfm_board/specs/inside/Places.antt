-- Where a decision stands among others by rising numbers.
use Rattle.std.specs.Prelude.{ℕ, suc, [], ◌∷◌, nat_le, if◌then◌else◌}
use Rattle.ulfm_board.specs.Known.{Known}

-- how many of the first ones have a number below this one
abbrev pub place_for : ℕ → Known → ℕ
place_for number [] = 0
place_for number (e ∷ es) = if nat_le number e.0 then 0 else suc (place_for number es)
