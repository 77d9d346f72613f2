-- How many items of a sender there are.
use Rattle.std.proofs.Common.{◌≡◌, ◌+◌, ◌≤◌, ℕ, Bool, true, false, cond, eqb, List, [], ◌∷◌, ◌++◌, length, refl, ap, ◌∙◌, arith}
use Rattle.std.specs.List.{count_by}
use Rattle.std.proofs.lemmas.List.Recursion.{is_count_by}
use Rattle.std.proofs.lemmas.Bool.{ne_eqb}
use Rattle.ulfm_base.specs.declared.item.Item.{Item}
use Rattle.ulfm_base.specs.declared.rank.WorldRank.{WorldRank}
use Rattle.ulfm_base.specs.Items.{items_from}

-- they are as many as are counted
pub counted_from : (s : ℕ) (xs : List (WorldRank × Item)) → length (items_from s xs) ≡ count_by (λ (x : WorldRank × Item). eqb x.0.number s) xs
counted_from s xs = is_count_by (λ (ys : List (WorldRank × Item)). length (items_from s ys)) (λ (x : WorldRank × Item). eqb x.0.number s) refl (λ x ys. one (eqb x.0.number s) x.1 (items_from s ys)) xs
  where
    one : (b : Bool) (item : Item) (items : List Item) → length (cond b (item ∷ []) [] ++ items) ≡ cond b (1 + length items) (length items)
    one true item items = omega arith
    one false item items = refl

-- none is of a rank past the last one
pub none_far : (s : ℕ) (xs : List (WorldRank × Item)) → 8 ≤ s → items_from s xs ≡ []
none_far s [] far = refl
none_far s (x ∷ xs) far = ap (λ b. cond b (x.1 ∷ []) [] ++ items_from s xs) (ne_eqb x.0.number s (λ e. let low = x.0.in_range in omega (arith, far, e, low))) ∙ none_far s xs far
