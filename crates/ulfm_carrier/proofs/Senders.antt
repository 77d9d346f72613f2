-- The items of one sender among those of all.
use Rattle.std.proofs.Common.{◌≡◌, ◌≢◌, ℕ, cond, eq-eqb, List, [], ◌∷◌, ◌++◌, map, refl, ap, ◌∙◌, ne_eqb}
use Rattle.std.proofs.lemmas.Grind.{flat_map-append}
use Rattle.ulfm_base.specs.Items.{items_from, item_if_from}
use Rattle.ulfm_carrier.proofs.Common.{Item, with_sender, WorldRank}

pub items-append : (s : ℕ) (xs ys : List (WorldRank × Item)) → items_from s (xs ++ ys) ≡ items_from s xs ++ items_from s ys
items-append s xs ys = flat_map-append (item_if_from s) xs ys

pub items_own : (source : WorldRank) {s : ℕ} (xs : List Item) → source.number ≡ s → items_from s (map (with_sender source) xs) ≡ xs
items_own source [] is = refl
items_own source {s} (x ∷ xs) is = ap (λ b. cond b (x ∷ []) [] ++ items_from s (map (with_sender source) xs)) (eq-eqb source.number s is) ∙ ap (λ l. x ∷ l) (items_own source xs is)

pub items_other : (source : WorldRank) (s : ℕ) (xs : List Item) → source.number ≢ s → items_from s (map (with_sender source) xs) ≡ []
items_other source s [] apart = refl
items_other source s (x ∷ xs) apart = ap (λ b. cond b (x ∷ []) [] ++ items_from s (map (with_sender source) xs)) (ne_eqb source.number s apart) ∙ items_other source s xs apart
