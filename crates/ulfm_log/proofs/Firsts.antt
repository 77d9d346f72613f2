-- The first entrance into a topic that a log tells of, and that a rank took from another.
use Rattle.std.proofs.Common.{◌≡◌, ℕ, Bool, true, false, cond, eqb, List, [], ◌∷◌, ◌++◌, refl, ap, sym, ◌∙◌, inl, inr, ◌⊎◌, Option, Some, None, is_some}
use Rattle.ulfm_log.proofs.Common.{Topic, Contribution, Item, Entry, Took, took, took_by, or_else, first_given, false≢true, item_entry, heard_of}

pub or_none : {X : Type 0} (o : Option X) → or_else o None ≡ o
or_none None = refl
or_none (Some x) = refl

or_assoc : {X : Type 0} (a b c : Option X) → or_else (or_else a b) c ≡ or_else a (or_else b c)
or_assoc None b c = refl
or_assoc (Some x) b c = refl

-- the first of two that is there is one of them
pub or_else_cases : {X : Type 0} (a b : Option X) (x : X) → or_else a b ≡ Some x → (a ≡ Some x) ⊎ ((a ≡ None) × (b ≡ Some x))
or_else_cases None b x h = inr (refl, h)
or_else_cases (Some y) b x h = inl h

pub or_else_first : {X : Type 0} (a b : Option X) (x : X) → a ≡ Some x → or_else a b ≡ Some x
or_else_first a b x h = ap (λ o. or_else o b) h

pub or_else_second : {X : Type 0} (a b : Option X) → a ≡ None → or_else a b ≡ b
or_else_second a b h = ap (λ o. or_else o b) h

pub some_from : {X : Type 0} (o : Option X) → is_some o ≡ true → (x : X) × (o ≡ Some x)
some_from None h = absurd (false≢true h)
some_from (Some x) h = (x, refl)

pub none_from : {X : Type 0} (o : Option X) → is_some o ≡ false → o ≡ None
none_from None h = refl
none_from (Some x) h = absurd (false≢true (sym h))

pub first-push : {X : Type 0} (give : Entry → Option X) (log : List Entry) (e : Entry) → first_given give (log ++ e ∷ []) ≡ or_else (first_given give log) (give e)
first-push give [] e = or_none (give e)
first-push give (x ∷ log) e = ap (or_else (give x)) (first-push give log e) ∙ sym (or_assoc (give x) (first_given give log) (give e))

-- what the first entrance into the topic c among these items brings
abbrev pub first_set : Topic → List Item → Option Contribution
first_set c [] = None
first_set c (item ∷ items) = or_else (item_entry c item) (first_set c items)

pub set-append : (c : Topic) (xs ys : List Item) → first_set c (xs ++ ys) ≡ or_else (first_set c xs) (first_set c ys)
set-append c [] ys = refl
set-append c (x ∷ xs) ys = ap (or_else (item_entry c x)) (set-append c xs ys) ∙ sym (or_assoc (item_entry c x) (first_set c xs) (first_set c ys))

heard_took : (c : Topic) (s : ℕ) (e : Entry) → heard_of c s e ≡ first_set c (took_by s e)
heard_took c s (Took source item) = pick (eqb source.number s)
  where
    pick : (b : Bool) → cond b (item_entry c item) None ≡ first_set c (cond b (item ∷ []) [])
    pick true = sym (or_none (item_entry c item))
    pick false = refl
heard_took c s _ = refl

-- what a rank heard of the entry of s is the first that it took from s
pub heard-took : (log : List Entry) (c : Topic) (s : ℕ) → first_given (heard_of c s) log ≡ first_set c (took log s)
heard-took [] c s = refl
heard-took (e ∷ log) c s =
    ap (λ o. or_else o (first_given (heard_of c s) log)) (heard_took c s e)
    ∙ ap (or_else (first_set c (took_by s e))) (heard-took log c s)
    ∙ sym (set-append c (took_by s e) (took log s))
