-- Texts that are written part by part.
use Rattle.std.proofs.Common.{◌≡◌, ℕ, ◌+◌, ◌<◌, List, [], ◌∷◌, ◌++◌, get_or, length, map, take, ap, sym, ◌∙◌, append_assoc}
use Rattle.std.specs.List.{flat_map}
use Rattle.std.proofs.lemmas.List.{flat_map_more, map-append, take_more}

-- one more line
pub one-more : {X V W : Type 0} (line : V → List W) (view : X → V) (xs : List X) (i : ℕ) (x : X) (old new start : List W) → i < length xs → x ≡ get_or xs i x
    → old ≡ start ++ flat_map line (map view (take i xs)) → new ≡ old ++ line (view x) → new ≡ start ++ flat_map line (map view (take (i + 1) xs))
one-more {X} {V} {W} line view xs i x old new start low is so_far pushed =
    pushed ∙ ap (λ (text : List W). text ++ line (view x)) so_far ∙ flat_map_more line start (map view (take i xs)) (view x)
    ∙ ap (λ (vs : List V). start ++ flat_map line vs) (sym (map-append view (take i xs) (x ∷ [])))
    ∙ ap (λ (ys : List X). start ++ flat_map line (map view ys)) (ap (λ (y : X). take i xs ++ y ∷ []) is ∙ sym (take_more xs i x low))

-- two texts, one after the other
pub one-after : (old a b first second : List ℕ) → first ≡ old ++ a → second ≡ first ++ b → second ≡ old ++ (a ++ b)
one-after old a b first second one two = two ∙ ap (λ text. text ++ b) one ∙ append_assoc old a b
