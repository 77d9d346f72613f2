-- The first element that passes: that a search finds it, and that it is taken out.
use Rattle.std.proofs.Common.{◌≡◌, ℕ, suc, ◌+◌, ◌<◌, ◌≤◌, inl, inr, List, [], ◌∷◌, ◌++◌, length, take, drop, get_or, refl, ap, sym, ◌∙◌, subst, arith, Option, Some, None, is_some, true, Contains, length-append}
use Rattle.std.specs.Prelude.{remove, IsSome, IfSome, IfNone, OnSome, MatchOption}
use Rattle.std.proofs.lemmas.List.{take-append-drop, take-append-le, get_or_append_left, get_or-append-add}
use Rattle.std.proofs.lemmas.List.Elements.{at_read, Contains-get_or}
use Rattle.std.proofs.Math.Seq.{drop-cons, take-append-add}
use Rattle.ulfm_match.proofs.Common.{Contains-append_cases, Contains-append_right, FindsFirst, IsAscending, IsFirstAt, NoneOf, TakesFirst, TakesLeast}
use Rattle.ulfm_match.proofs.Ascending.{ascending_without, left_to, left_back, left_below}
use Rattle.ulfm_match.proofs.Decide.{lt_or_ge, Contains-head}

module _ {X : Type 0} (P : X → Type 0) where
  pub first_at : (xs : List X) (k : ℕ) (x : X) → k < length xs → x ≡ get_or xs k x → NoneOf P (take k xs) → P x → IsFirstAt P xs k
  first_at xs k x l is before here = record { within = l; passes = at_read xs P k x l is here; none_before = before }

  pub taken_at : (xs ys : List X) (k : ℕ) (x : X) → IsFirstAt P xs k → x ≡ get_or xs k x → ys ≡ remove xs k → TakesFirst P xs ys x
  taken_at xs ys k x f is e = record {
    front = take k xs;
    back = drop (suc k) xs;
    old_is = sym (take-append-drop k xs) ∙ ap (λ zs. take k xs ++ zs) (drop-cons xs k x f.within ∙ ap (λ z. z ∷ drop (suc k) xs) (sym is));
    new_is = e;
    passes = subst P (sym is) (f.passes x);
    first = f.none_before;
  }

  -- what a search found is removed
  pub taken : (xs ys : List X) (k : ℕ) (r : Option X) → IsFirstAt P xs k → IsSome r → IfSome r (λ y. y ≡ get_or xs k y) → OnSome r (ys ≡ remove xs k) → MatchOption r (NoneOf P xs) (TakesFirst P xs ys)
  taken xs ys k None f s is e = cc
  taken xs ys k (Some x) f s is e = taken_at xs ys k x f is e

  -- a search in one list and then in another
  module _ (xs ys zs : List X) (both : xs ++ ys ≡ zs) where
    pub none_in : NoneOf P xs → NoneOf P ys → NoneOf P zs
    none_in f g x c p = elim (Contains-append_cases xs ys x (rw both c)) [ inl d ↦ f x d p | inr d ↦ g x d p ]

    pub first_in_front : (k : ℕ) → IsFirstAt P xs k → IsFirstAt P zs k
    first_in_front k f = rw (sym both) (record {
      within = let l = f.within in omega (arith, l, length-append xs ys);
      passes = λ d. rw (get_or_append_left xs ys d k f.within) (f.passes d);
      none_before = rw (take-append-le k xs ys (let l = f.within in omega (arith, l))) f.none_before;
    })

    pub first_in_back : NoneOf P xs → (k : ℕ) → IsFirstAt P ys k → IsFirstAt P zs (length xs + k)
    first_in_back none k f = rw (sym both) (record {
      within = let l = f.within in omega (arith, l, length-append xs ys);
      passes = λ d. rw (get_or-append-add xs ys k d) (f.passes d);
      none_before = rw (take-append-add xs ys k) (λ x c p. elim (Contains-append_cases xs (take k ys) x c) [ inl d ↦ none x d p | inr d ↦ f.none_before x d p ]);
    })

-- in a list by rising numbers the first is the least
pub first_is_least : {X : Type 0} (P : ℕ × X → Type 0) (old new : List (ℕ × X)) (z : ℕ × X) → IsAscending old → TakesFirst P old new z → TakesLeast P old new z
first_is_least {X} P old new z a taken =
    let asc : IsAscending (taken.front ++ z ∷ taken.back) = subst (λ (xs : List (ℕ × X)). IsAscending xs) taken.old_is a in
    record {
      there = subst (λ (xs : List (ℕ × X)). Contains xs z) (sym taken.old_is) (Contains-append_right taken.front (z ∷ taken.back) z (Contains-head z taken.back));
      passes = taken.passes;
      least = λ y c p.
          elim (lt_or_ge y.0 z.0) [
            | inl l ↦ absurd (taken.first y (left_below taken.front taken.back z asc y (subst (λ (xs : List (ℕ × X)). Contains xs y) taken.old_is c) l) p)
            | inr g ↦ g
          ];
      ascending = subst (λ (xs : List (ℕ × X)). IsAscending xs) (sym taken.new_is) (ascending_without taken.front taken.back z asc);
      left_to = λ y c.
          let l = left_to taken.front taken.back z asc y (subst (λ (xs : List (ℕ × X)). Contains xs y) taken.new_is c) in
          (subst (λ (xs : List (ℕ × X)). Contains xs y) (sym taken.old_is) l.0, l.1);
      left_back = λ y c n. subst (λ (xs : List (ℕ × X)). Contains xs y) (sym taken.new_is) (left_back taken.front taken.back z asc y (subst (λ (xs : List (ℕ × X)). Contains xs y) taken.old_is c) n);
    }

-- what is removed makes it no longer
pub removed_shorter : {X V : Type 0} (r : Option X) (len : V → ℕ) (new old : V) → OnSome r (len new + 1 ≡ len old) → IfNone r (new ≡ old) → len new ≤ len old
removed_shorter None len new old l u = let e = ap len u in omega (arith, e)
removed_shorter (Some x) len new old l u = omega (arith, l)

-- whether there is one
pub found_is : {X : Type 0} (P : X → Type 0) (xs : List X) (o : Option ℕ) → FindsFirst P xs o → is_some o ≡ true → (x : X) × Contains xs x × P x
found_is P xs None f t = cc
found_is P [] (Some k) f t = absurd (let l = f.within in omega (arith, l))
found_is P (y ∷ ys) (Some k) f t = (get_or (y ∷ ys) k y, Contains-get_or (y ∷ ys) k y f.within, f.passes y)

pub found_some : {X : Type 0} (P : X → Type 0) (xs : List X) (o : Option ℕ) → FindsFirst P xs o → (x : X) → Contains xs x → P x → is_some o ≡ true
found_some P xs None f x c p = absurd (f x c p)
found_some P xs (Some k) f x c p = refl
