-- Lists that are handed over, one element after another, and what came of each.
use Rattle.std.proofs.Common.{◌≡◌, List, [], ◌∷◌, ◌++◌, map, ap, sym, ◌∙◌, append_assoc}
use Rattle.std.proofs.lemmas.List.{map-append}

-- the next of what is left goes to the end of what is done
pub handed : {H X : Type 0} (f : H → X) (done : List H) {done' : List H} (h : H) {x : X} {left left' all : List X} → map f done ++ left ≡ all → left ≡ x ∷ left' → done' ≡ done ++ h ∷ [] → f h ≡ x → map f done' ++ left' ≡ all
handed f done h {left'} was next more is =
    ap (λ l. map f l ++ left') more ∙ ap (λ l. l ++ left') (map-append f done (h ∷ [])) ∙ append_assoc (map f done) (f h ∷ []) left' ∙ ap (λ y. map f done ++ y ∷ left') is
    ∙ ap (λ l. map f done ++ l) (sym next) ∙ was
