-- The items of one sender in an inbox: how many they are, and which comes first.
use Rattle.std.proofs.Common.{◌≡◌, ◌≢◌, ℕ, ◌+◌, ◌<◌, ◌≤◌, Bool, true, false, cond, eqb, List, [], ◌∷◌, ◌++◌, length, take, drop, get_or, refl, ap, sym, subst, ◌∙◌, arith, inl, inr, length-append, Option, Some, None, MatchOption, MatchBool, OnSome, is_some, nat_lt, not, suc, All}
use Rattle.std.specs.List.{position, position_or_len, remove}
use Rattle.std.proofs.lemmas.Grind.{flat_map-append}
use Rattle.std.proofs.Math.Seq.{drop-cons}
use Rattle.std.proofs.lemmas.List.{take-append-drop}
use Rattle.ulfm_base.specs.Items.{item_if_from}
use Rattle.ulfm_world.specs.Parts.{IsFirstOf, IsTakenOut}
use Rattle.ulfm_world.proofs.Common.{WorldRank, Item, items_from, cases_eq, eq-eqb, ne_eqb, All-head, All-nil, same_Some, none-some}
use Rattle.std.proofs.lemmas.Bool.{eqb-true, ltb-false, ltb-true}
use Rattle.std.proofs.lemmas.List.Elements.{All-cons, All-tail}
pub use Rattle.ulfm_report_laws.proofs.Counted.{counted_from}

-- what holds of each item of two lists
pub all-parts : (P : WorldRank × Item → Type 0) (xs ys : List (WorldRank × Item)) → All P (xs ++ ys) → All P xs × All P ys
all-parts P [] ys h = (All-nil P, h)
all-parts P (x ∷ xs) ys h = let more = all-parts P xs ys (All-tail P x (xs ++ ys) h) in (All-cons P x xs (All-head P x (xs ++ ys) h) more.0, more.1)

-- an item that goes past those of others leaves the order of each sender's items
pub from-passed : (s : ℕ) (passed : List (WorldRank × Item)) (x : WorldRank × Item) (rest : List (WorldRank × Item)) → items_from x.0.number passed ≡ [] → item_if_from s x ++ items_from s (passed ++ rest) ≡ items_from s (passed ++ x ∷ rest)
from-passed s passed x rest none = elim (cases_eq x.0.number s) [
  | inl same ↦
      let gone : items_from s passed ≡ [] = ap (λ k. items_from k passed) (sym same) ∙ none in
      let first : items_from s (passed ++ rest) ≡ items_from s rest = flat_map-append (item_if_from s) passed rest ∙ ap (λ (ys : List Item). ys ++ items_from s rest) gone in
      let whole : items_from s (passed ++ x ∷ rest) ≡ item_if_from s x ++ items_from s rest = flat_map-append (item_if_from s) passed (x ∷ rest) ∙ ap (λ (ys : List Item). ys ++ (item_if_from s x ++ items_from s rest)) gone in
      ap (λ (ys : List Item). item_if_from s x ++ ys) first ∙ sym whole
  | inr other ↦
      let none_of : item_if_from s x ≡ [] = ap (λ (b : Bool). cond b (x.1 ∷ []) []) (ne_eqb x.0.number s other) in
      ap (λ (ys : List Item). ys ++ items_from s (passed ++ rest)) none_of
      ∙ flat_map-append (item_if_from s) passed rest
      ∙ ap (λ (ys : List Item). items_from s passed ++ (ys ++ items_from s rest)) (sym none_of)
      ∙ sym (flat_map-append (item_if_from s) passed (x ∷ rest))
]

-- a sender has no more items than there are
pub from_few : (s : ℕ) (xs : List (WorldRank × Item)) → length (items_from s xs) ≤ length xs
from_few s [] = omega arith
from_few s (x ∷ xs) = omega (arith, from_few s xs, length-append (item_if_from s x) (items_from s xs), one (eqb x.0.number s))
  where
    one : (b : Bool) → length (cond b (x.1 ∷ []) []) ≤ 1
    one true = omega arith
    one false = omega arith

-- a list by the parts round one place
parts-at : (xs : List (WorldRank × Item)) (k : ℕ) (d : WorldRank × Item) → k < length xs → take k xs ++ get_or xs k d ∷ drop (suc k) xs ≡ xs
parts-at xs k d inside = ap (λ (ys : List (WorldRank × Item)). take k xs ++ ys) (sym (drop-cons xs k d inside)) ∙ take-append-drop k xs

-- where no item of s stands before, the next one of s is the first, and none is left at the end
first-from : (s : ℕ) (xs : List (WorldRank × Item)) → let n = position_or_len (λ (x : WorldRank × Item). eqb x.0.number s) xs in (n < length xs → IsFirstOf s xs n) × (length xs ≤ n → items_from s xs ≡ [])
first-from s [] = (λ lt. absurd (omega (arith, lt)), λ le. refl)
first-from s (x ∷ xs) = one (position_or_len (λ (y : WorldRank × Item). eqb y.0.number s) xs) (eqb x.0.number s) refl (first-from s xs)
  where
    one : (n : ℕ) (b : Bool) → eqb x.0.number s ≡ b → (n < length xs → IsFirstOf s xs n) × (length xs ≤ n → items_from s xs ≡ [])
        → let m = cond (not b) (1 + n) 0 in (m < length (x ∷ xs) → IsFirstOf s (x ∷ xs) m) × (length (x ∷ xs) ≤ m → cond b (x.1 ∷ []) [] ++ items_from s xs ≡ [])
    one n true here h = (λ lt. record { inside = lt; is_source = λ d. eqb-true x.0.number s here; of_others = refl }, λ le. absurd (omega (arith, le)))
    one n false here h = (
      λ lt.
          let f = h.0 (omega (arith, lt)) in
          let next : suc n ≡ 1 + n = omega arith in
          subst (IsFirstOf s (x ∷ xs)) next (record { inside = omega (arith, f.inside); is_source = f.is_source; of_others = ap (λ (b : Bool). cond b (x.1 ∷ []) [] ++ items_from s (take n xs)) here ∙ f.of_others }),
      λ le. h.1 (omega (arith, le)),
    )

-- what a search for the first item of s finds
found-from : (s : ℕ) (xs : List (WorldRank × Item)) → MatchOption (position (λ (x : WorldRank × Item). eqb x.0.number s) xs) (items_from s xs ≡ []) (IsFirstOf s xs)
found-from s xs =
    let n = position_or_len (λ (x : WorldRank × Item). eqb x.0.number s) xs in
    at n (nat_lt n (length xs)) refl (first-from s xs)
  where
    at : (n : ℕ) (b : Bool) → nat_lt n (length xs) ≡ b → (n < length xs → IsFirstOf s xs n) × (length xs ≤ n → items_from s xs ≡ []) → MatchOption (cond b (Some n) None) (items_from s xs ≡ []) (IsFirstOf s xs)
    at n true lt h = h.0 (ltb-true n (length xs) lt)
    at n false le h = h.1 (ltb-false n (length xs) le)

-- what a search for the first item of s has found
pub found-as : (s : ℕ) (xs : List (WorldRank × Item)) (o : Option ℕ) → o ≡ position (λ (x : WorldRank × Item). eqb x.0.number s) xs → MatchOption o (items_from s xs ≡ []) (IsFirstOf s xs)
found-as s xs o is = let M : Option ℕ → Type 0 = λ (k : Option ℕ). MatchOption k (items_from s xs ≡ []) (IsFirstOf s xs) in subst M (sym is) (found-from s xs)

-- where an item of s stands, there are some
some-from : (s : ℕ) (xs : List (WorldRank × Item)) (k : ℕ) (d : WorldRank × Item) → IsFirstOf s xs k → items_from s xs ≢ []
some-from s xs k d f none =
    let x = get_or xs k d in
    let whole : items_from s (take k xs ++ x ∷ drop (suc k) xs) ≡ [] = ap (items_from s) (parts-at xs k d f.inside) ∙ none in
    let here : items_from s (x ∷ drop (suc k) xs) ≡ x.1 ∷ items_from s (drop (suc k) xs) = ap (λ (b : Bool). cond b (x.1 ∷ []) [] ++ items_from s (drop (suc k) xs)) (eq-eqb x.0.number s (f.is_source d)) in
    let one : length (items_from s (take k xs) ++ (x.1 ∷ items_from s (drop (suc k) xs))) ≡ 0 =
    ap (λ (ys : List Item). length (items_from s (take k xs) ++ ys)) (sym here) ∙ ap (λ (ys : List Item). length ys) (sym (flat_map-append (item_if_from s) (take k xs) (x ∷ drop (suc k) xs)) ∙ whole) in
    omega (arith, one, length-append (items_from s (take k xs)) (x.1 ∷ items_from s (drop (suc k) xs)))

-- what is taken out of the place of the first
taken-out : (s k : ℕ) (xs ys : List (WorldRank × Item)) (x : WorldRank × Item) → IsFirstOf s xs k → x ≡ get_or xs k x → ys ≡ remove xs k → IsTakenOut xs s x ys
taken-out s k xs ys x f is left = record {
  is_source = ap (λ (y : WorldRank × Item). y.0.number) is ∙ f.is_source x;
  passed = take k xs;
  rest = drop (suc k) xs;
  found = sym (parts-at xs k x f.inside) ∙ ap (λ (y : WorldRank × Item). take k xs ++ y ∷ drop (suc k) xs) (sym is);
  of_others = f.of_others;
  still = left;
}

-- and what the contract of a removal says
pub removed-first : (s k n : ℕ) (xs ys : List (WorldRank × Item)) (o : Option (WorldRank × Item)) → IsFirstOf s xs k → n ≡ length xs → ((d : WorldRank × Item) → k < n → o ≡ Some (get_or xs k d)) → OnSome o (ys ≡ remove xs k) → MatchOption o ((items_from s xs ≡ []) × (ys ≡ xs)) (λ x. IsTakenOut xs s x ys)
removed-first s k n xs ys (Some x) f size some left = taken-out s k xs ys x f (same_Some x (get_or xs k x) (some x (omega (arith, f.inside, size)))) left
removed-first s k n [] ys None f size some left = absurd (omega (arith, f.inside))
removed-first s k n (x ∷ xs) ys None f size some left = absurd (none-some (get_or (x ∷ xs) k x) (some x (omega (arith, f.inside, size))))

-- whether there are some
pub has-from : (s : ℕ) (xs : List (WorldRank × Item)) (o : Option ℕ) → MatchOption o (items_from s xs ≡ []) (IsFirstOf s xs) → MatchBool (is_some o) (items_from s xs ≢ []) (items_from s xs ≡ [])
has-from s xs None h = h
has-from s [] (Some k) f = absurd (omega (arith, f.inside))
has-from s (x ∷ xs) (Some k) f = some-from s (x ∷ xs) k x f
