-- When a text begins with words.
use Rattle.std.specs.Prelude.{ℕ, ◌==◌, Bool, true, false, List, [], ◌∷◌, if◌then◌else◌}

-- a text ends, or goes on with a space
abbrev pub ends_word : List ℕ → Bool
ends_word [] = true
ends_word (c ∷ text) = c == 32

-- a text begins, by whole words, with these words
abbrev pub begins : List ℕ → List ℕ → Bool
begins text [] = ends_word text
begins [] (w ∷ words) = false
begins (c ∷ text) (w ∷ words) = if c == w then begins text words else false
