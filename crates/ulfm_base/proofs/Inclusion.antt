-- A group has at most eight members, and stays a group when a rank that isn't a member comes to its end.
use Rattle.std.proofs.Common.{ℕ, ◌<◌, ◌≤◌, ◌+◌, ◌≡◌, true, false, List, [], ◌∷◌, ◌++◌, length, eqb, sym, refl, ◌∙◌, ⊎_elim, arith}
use Rattle.std.specs.List.{IsDistinct, AllByRecursion, list_any}
use Rattle.std.proofs.lemmas.Bool.{or_parts, or_from, or_cases, false≢true, eqb-true, eqb-false, ne_eqb}
use Rattle.std.proofs.lemmas.List.{length_push}
use Rattle.std.proofs.lemmas.List.Folds.{list_any-append}
use Rattle.std.proofs.lemmas.Map.Steps.{length-le_from_distinct_below}
use Rattle.ulfm_base.specs.Group.{is_member, IsGroup}

flipped : (m r : ℕ) → eqb m r ≡ false → eqb r m ≡ false
flipped m r h = ne_eqb r m (λ e. eqb-false m r h (sym e))

others : (m : ℕ) (group : List ℕ) → is_member group m ≡ false → AllByRecursion (λ r. eqb m r ≡ false) group
others m [] h = tt
others m (r ∷ group) h = (flipped r m (or_parts _ _ h).0, others m group (or_parts _ _ h).1)

distinct : (group : List ℕ) → IsGroup group → IsDistinct eqb group
unfolding IsDistinct
distinct [] h = tt
distinct (m ∷ group) h = (others m group h.1, distinct group h.2)

below : (group : List ℕ) → IsGroup group → (r : ℕ) → list_any (eqb r) group ≡ true → r < 8
below [] h r e = absurd (false≢true e)
below (m ∷ group) h r e =
    ⊎_elim (λ k. let same : r ≡ m = eqb-true r m k in let l = h.0 in omega arith) (below group h.2 r) (or_cases _ _ e)

pub at_most_eight : (group : List ℕ) → IsGroup group → length group ≤ 8
at_most_eight group h = length-le_from_distinct_below group 8 (distinct group h) (below group h)

pub IsGroup-push : (group : List ℕ) (r : ℕ) → IsGroup group → is_member group r ≡ false → r < 8 → IsGroup (group ++ r ∷ [])
IsGroup-push [] r h e l = (l, refl, tt)
IsGroup-push (m ∷ group) r h e l =
    let apart : eqb m r ≡ false = (or_parts _ _ e).0 in
    (h.0, list_any-append (λ x. eqb x m) group (r ∷ []) ∙ or_from _ _ h.1 (or_from _ _ (flipped m r apart) refl), IsGroup-push group r h.2 (or_parts _ _ e).1 l)

pub room_for_another : (group : List ℕ) (r : ℕ) → IsGroup group → is_member group r ≡ false → r < 8 → length group + 1 ≤ 8
room_for_another group r h e l = rw (← length_push group r) (at_most_eight (group ++ r ∷ []) (IsGroup-push group r h e l))
