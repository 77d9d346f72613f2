-- The contexts that are made from a context: those of the first children of the first communicators by numbers, and all others by their paths.
use Rattle.std.specs.Prelude.{ℕ, zero, suc, ◌+◌, ◌-◌, ◌*◌, ◌/◌, ◌^◌, ◌&&◌, nat_lt, if◌then◌else◌}

-- the context of the first duplicate, of a context 0 to 30
abbrev pub dup_of : ℕ → ℕ
dup_of c = 2 * c + 1

-- the context of the communicator that the first shrink makes, of a context 0 to 30
abbrev pub shrink_of : ℕ → ℕ
shrink_of c = 2 * c + 2

-- how often a number can be halved before it is 1, where that isn't more often than `most`
abbrev pub halvings : ℕ → ℕ → ℕ
halvings zero m = 0
halvings (suc most) m = if nat_lt m 2 then 0 else suc (halvings most (m / 2))

-- The block of a communicator's child n, from 0. The blocks 0, 1, 2 .. have 1, 2, 4 .. children.
unfoldable pub block_of : ℕ → ℕ
block_of n = halvings n (n + 1)

-- the code of the path to the child at the place m of the block z of the communicator p
abbrev pub code_at : ℕ → ℕ → ℕ → ℕ
code_at p z m = 2 ^ z * (2 * (p * 2 ^ z + m) + 1)

-- the code of the path to the child n of the communicator p
unfoldable pub path_code : ℕ → ℕ → ℕ
path_code p n = code_at p (block_of n) (n + 1 - 2 ^ block_of n)

-- The context of the child n of the communicator p. Of 0 to 30 the children 0 and 1, the first duplicate and the first shrink, have numbers up to 62.
unfoldable pub child_of : ℕ → ℕ → ℕ
child_of p n = if nat_lt n 2 && nat_lt p 31 then 2 * p + 1 + n else 63 + path_code p n

-- the context of the duplicate k of the communicator c, from 0
abbrev pub nth_dup : ℕ → ℕ → ℕ
nth_dup k c = child_of c (3 * k)

-- The context of the communicator that the shrink k of the communicator c makes, from 0. The children 3 * k + 2 are nobody's.
abbrev pub nth_shrink : ℕ → ℕ → ℕ
nth_shrink k c = child_of c (3 * k + 1)
