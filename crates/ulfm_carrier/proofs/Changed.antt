-- A function that is changed at one place, and the items of one sender with one item more.
use Rattle.std.proofs.Common.{◌≡◌, ◌≢◌, ℕ, cond, eq-eqb, inl, inr, List, [], ◌∷◌, ◌++◌, refl, ap, sym, ◌∙◌, subst, append-nil, ◌==◌, if◌then◌else◌}
use Rattle.std.proofs.lemmas.Bool.{ne_eqb, cases_eq}
use Rattle.ulfm_carrier.proofs.Common.{Item, items_from, Signed}
use Rattle.ulfm_carrier.proofs.Senders.{items-append}

pub change : {X : Type 0} → (ℕ → X) → ℕ → X → ℕ → X
change f a y q = if q == a then y else f q

pub change_here : {X : Type 0} (f : ℕ → X) (a : ℕ) (y : X) → change f a y a ≡ y
unfolding change
change_here f a y = ap (λ b. cond b y (f a)) (eq-eqb a a refl)

pub change_else : {X : Type 0} (f : ℕ → X) (a q : ℕ) (y : X) → q ≢ a → change f a y q ≡ f q
unfolding change
change_else f a q y apart = ap (λ b. cond b y (f q)) (ne_eqb q a apart)

-- a fact of each number, from the fact of a and of each other
pub at_or_else : (P : ℕ → Type 0) (a q : ℕ) → P a → (q ≢ a → P q) → P q
at_or_else P a q here others = elim (cases_eq q a) [ inl same ↦ subst P (sym same) here | inr apart ↦ others apart ]

pub items_here : (p : ℕ) (x : Signed) (xs : List Signed) → x.0.number ≡ p → items_from p (x ∷ xs) ≡ x.1 ∷ items_from p xs
items_here p x xs is = ap (λ b. cond b (x.1 ∷ []) [] ++ items_from p xs) (eq-eqb x.0.number p is)

pub items_else : (p : ℕ) (x : Signed) (xs : List Signed) → x.0.number ≢ p → items_from p (x ∷ xs) ≡ items_from p xs
items_else p x xs apart = ap (λ b. cond b (x.1 ∷ []) [] ++ items_from p xs) (ne_eqb x.0.number p apart)

-- one item more at the back
pub items_push : (p : ℕ) (xs : List Signed) (x : Signed) → x.0.number ≡ p → items_from p (xs ++ x ∷ []) ≡ items_from p xs ++ x.1 ∷ []
items_push p xs x is = items-append p xs (x ∷ []) ∙ ap (λ l. items_from p xs ++ l) (items_here p x [] is)

pub items_push_else : (p : ℕ) (xs : List Signed) (x : Signed) → p ≢ x.0.number → items_from p (xs ++ x ∷ []) ≡ items_from p xs
items_push_else p xs x apart = items-append p xs (x ∷ []) ∙ ap (λ l. items_from p xs ++ l) (items_else p x [] (λ e. apart (sym e))) ∙ append-nil (items_from p xs)

not_empty : (xs : List Item) (x : Item) (ys : List Item) → xs ++ x ∷ ys ≢ []
not_empty [] x ys h = absurd (cc)
not_empty (y ∷ xs) x ys h = absurd (cc)

pub items_some : (taken held : List Signed) (x : Signed) → items_from x.0.number (taken ++ x ∷ held) ≢ []
items_some taken held x none =
    not_empty (items_from x.0.number taken) x.1 (items_from x.0.number held) (sym (items-append x.0.number taken (x ∷ held) ∙ ap (λ l. items_from x.0.number taken ++ l) (items_here x.0.number x held refl)) ∙ none)
