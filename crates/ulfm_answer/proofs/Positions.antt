-- Positions that are found one by one.
use Rattle.std.proofs.Common.{◌≡◌, ℕ, ◌+◌, ◌<◌, List, [], ◌∷◌, ◌++◌, Option, Some, None, length, take, filter_map, refl, get_or, ap, sym, subst, ◌∙◌, append-nil, length-append, arith, ◌≤◌, MatchOption}
use Rattle.smallvec.specs.SmallVec.{SmallVec}
use Rattle.std.proofs.lemmas.List.{take_more}
use Rattle.std.proofs.lemmas.Option.{slice_get-get_or}
use Rattle.std.proofs.lemmas.List.Elements.{filter_map-append}
use Rattle.ulfm_base.specs.Group.{rank_in, translated, position_in}

-- the positions in a group of the first k others
abbrev pub positions : List ℕ → List ℕ → ℕ → List ℕ
positions group others k = filter_map (λ (m : ℕ). rank_in group m) (take k others)

pub positions-more : (group others : List ℕ) (k : ℕ) → k < length others → positions group others (k + 1) ≡ positions group others k ++ filter_map (λ (m : ℕ). rank_in group m) (get_or others k 0 ∷ [])
positions-more group others k inside = rw (take_more others k 0 inside, filter_map-append) refl

found_here : (group others : List ℕ) (k : ℕ) (found : Option ℕ) → k < length others → found ≡ translated others group k → rank_in group (get_or others k 0) ≡ found
found_here group others k found inside is = sym (is ∙ ap (position_in group) (slice_get-get_or others k 0 inside))

-- one more of the others is looked for
pub found_more : (group others : List ℕ) (k : ℕ) (found : Option ℕ) (old new : List ℕ) → k < length others → found ≡ translated others group k → MatchOption found (new ≡ old) (λ (p : ℕ). new ≡ old ++ p ∷ []) → old ≡ positions group others k → new ≡ positions group others (k + 1)
found_more group others k None old new inside is pushed so_far =
    let here = found_here group others k None inside is in
    pushed ∙ so_far ∙ sym (positions-more group others k inside ∙ rw here (append-nil (positions group others k)))
found_more group others k (Some p) old new inside is pushed so_far =
    let here = found_here group others k (Some p) inside is in
    pushed ∙ ap (λ (xs : List ℕ). xs ++ p ∷ []) so_far ∙ sym (positions-more group others k inside ∙ rw here refl)

-- at most one more is found
pub few_more : (found : Option ℕ) (old new : List ℕ) (k : ℕ) → MatchOption found (new ≡ old) (λ (p : ℕ). new ≡ old ++ p ∷ []) → length old ≤ k → length new ≤ k + 1
few_more None old new k pushed few = omega (arith, ap length pushed)
few_more (Some p) old new k pushed few = omega (arith, simp length-append at (ap length pushed))

-- two lists of the same positions with room for as many are equal
pub same_positions : (v w : SmallVec ℕ) → w.items ≡ v.items → w.capacity ≡ v.capacity → w ≡ v
same_positions v w items capacity =
    let there : ◌≡◌ {A = SmallVec ℕ} w (record { items = w.items; capacity = v.capacity }) = subst (λ k. ◌≡◌ {A = SmallVec ℕ} w (record { items = w.items; capacity = k })) capacity refl in
    subst (λ xs. ◌≡◌ {A = SmallVec ℕ} w (record { items = xs; capacity = v.capacity })) items there
