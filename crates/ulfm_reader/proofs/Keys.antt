-- The keys of a table, as the code goes over them and as its members show them.
use Rattle.std.proofs.Common.{◌≡◌, ℕ, List, [], ◌∷◌, Bool, ◌||◌, map, Bor, String, Global, string_bytes, refl, ap}
use Rattle.ulfm_reader.proofs.Common.{Value, members_view, bytes_eq, is_among, keys_of, list_any, list_all}
use Rattle.std.specs.Map.{keys_of as map_keys}

pub list_any-map : {X Y : Type 0} (p : Y → Bool) (h : X → Y) (xs : List X) → list_any p (map h xs) ≡ list_any (λ x. p (h x)) xs
list_any-map p h [] = refl
list_any-map p h (x ∷ xs) = ap (λ b. p (h x) || b) (list_any-map p h xs)

pub keys_among : (names : List (Bor (List ℕ))) (es : List (String Global × Value)) → list_all (λ key. list_any (λ name. bytes_eq name.now (string_bytes key)) names) (map_keys es) ≡ list_all (is_among (map (λ s. s.now) names)) (keys_of (members_view es))
keys_among names [] = refl
keys_among names (e ∷ es) = rw (list_any-map (λ name. bytes_eq name (string_bytes e.0)) (λ s. s.now) names, keys_among names es) refl
