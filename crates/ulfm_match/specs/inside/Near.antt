-- The hash of a number, near to those of its neighbours.
use Rattle.std.specs.Prelude.{ℕ, ◌+◌, ◌*◌, ◌/◌, ◌%◌, ◌^◌, bit_and, bit_or}

-- four numbers in turn are spread as one
abbrev pub spread : ℕ → ℕ
spread number = (number / 2 ^ 2 * 0x9e37_79b9_7f4a_7c15) % 2 ^ 64

-- the hash of a number: its place, and in the upper bits its mark
abbrev pub hash_of_number : ℕ → ℕ
hash_of_number number = bit_or (spread number / 2 ^ 40) ((bit_and ((spread number / 2 ^ 32 + number) % 2 ^ 64) 0xFF * 2 ^ 24) % 2 ^ 64)
