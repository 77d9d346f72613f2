-- The scripts of the ranks, as they are read.
use Rattle.std.proofs.Common.{◌≡◌, ℕ, zero, suc, ◌+◌, ◌<◌, List, [], ◌∷◌, ◌++◌, length, map, set, get_or, replicate, slice_index_or, Vec, Global, refl, sym, ap, ◌∙◌}
use Rattle.std.proofs.lemmas.List.{map_push, map-set, get_or-map, replicate_more}
use Rattle.ulfm_reader.proofs.Common.{Step, lists_of, Order, order_of}

-- one more rank, with no steps yet
pub one_more : (vs : List (Vec Step Global)) (v : Vec Step Global) (n : ℕ) → v.items ≡ [] → lists_of vs ≡ replicate n [] → lists_of (vs ++ v ∷ []) ≡ replicate (n + 1) []
one_more vs v n e h =
    let grown : lists_of (vs ++ v ∷ []) ≡ lists_of vs ++ v.items ∷ [] = map_push (λ (w : Vec Step Global). w.items) vs v in
    cc (replicate_more {X = List Step} n [])

-- one more step in one script
pub lists_of-set : (vs : List (Vec Step Global)) (v w : Vec Step Global) (r : ℕ) (x : Step) → r < length vs → w ≡ slice_index_or vs r w → v.items ≡ w.items ++ x ∷ []
    → lists_of (set vs r v) ≡ set (lists_of vs) r (slice_index_or (lists_of vs) r [] ++ x ∷ [])
lists_of-set vs v w r x lt here grown =
    let kept : lists_of (set vs r v) ≡ set (lists_of vs) r v.items = map-set (λ (u : Vec Step Global). u.items) vs r v in
    let old : slice_index_or (lists_of vs) r [] ≡ (slice_index_or vs r w).items = get_or-map (λ (u : Vec Step Global). u.items) vs r w [] lt in
    let same : (slice_index_or vs r w).items ≡ w.items = ap (λ (u : Vec Step Global). u.items) (sym here) in
    kept ∙ ap (set (lists_of vs) r) (grown ∙ ap (λ (xs : List Step). xs ++ x ∷ []) (sym (old ∙ same)))

pub orders-put : (scripts : List (List Step)) (r : ℕ) (x : Step) → r < length scripts
    → map (map order_of) (set scripts r (slice_index_or scripts r [] ++ x ∷ [])) ≡ set (map (map order_of) scripts) r (slice_index_or (map (map order_of) scripts) r [] ++ order_of x ∷ [])
orders-put scripts r x inside =
    let old : get_or (map (map order_of) scripts) r [] ≡ map order_of (get_or scripts r []) = get_or-map (map order_of) scripts r [] [] inside in
    let grown : map order_of (get_or scripts r [] ++ x ∷ []) ≡ map order_of (get_or scripts r []) ++ order_of x ∷ [] = map_push order_of (get_or scripts r []) x in
    let moved : map (map order_of) (set scripts r (get_or scripts r [] ++ x ∷ [])) ≡ set (map (map order_of) scripts) r (map order_of (get_or scripts r [] ++ x ∷ [])) = map-set (map order_of) scripts r _ in
    moved ∙ cc (old, grown)

-- no steps yet
pub orders-empty : (n : ℕ) → map (map order_of) (replicate n []) ≡ replicate n []
orders-empty zero = refl
orders-empty (suc n) = ap (λ (xs : List (List Order)). [] ∷ xs) (orders-empty n)
