-- What stays of a group when a test picks some of its members.
use Rattle.std.proofs.Common.{ℕ, ◌<◌, ◌≤◌, ◌+◌, ◌≡◌, Bool, false, List, [], ◌∷◌, length, not, filter, take, refl, arith, length-take-le}
use Rattle.std.proofs.lemmas.Bool.{or_parts, or_from, cond_both}
use Rattle.std.proofs.lemmas.List.Filters.{length-filter_both}
use Rattle.ulfm_base.specs.Group.{is_member, IsGroup}

absent : (test : ℕ → Bool) (r : ℕ) (group : List ℕ) → is_member group r ≡ false → is_member (filter test group) r ≡ false
absent test r [] h = h
absent test r (m ∷ group) h =
    let rest = absent test r group (or_parts _ _ h).1 in
    cond_both (test m) (m ∷ filter test group) (filter test group) (λ kept. is_member kept r ≡ false) (λ _. or_from _ _ (or_parts _ _ h).0 rest) (λ _. rest)

pub IsGroup-filter : (test : ℕ → Bool) (group : List ℕ) → IsGroup group → IsGroup (filter test group)
IsGroup-filter test [] h = h
IsGroup-filter test (m ∷ group) h =
    let rest = IsGroup-filter test group h.2 in
    cond_both (test m) (m ∷ filter test group) (filter test group) IsGroup (λ _. (h.0, absent test m group h.1, rest)) (λ _. rest)

pub room_for_filtered : (test : ℕ → Bool) (group : List ℕ) (i : ℕ) → length group ≤ 8 → i < length group → length (filter test (take i group)) + 1 ≤ 8
room_for_filtered test group i h l =
    omega (arith, length-take-le i group (omega arith), length-filter_both test (λ m. not (test m)) (λ _. refl) (take i group))
