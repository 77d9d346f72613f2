-- The first slot of a row of some number.
use Rattle.std.proofs.Common.{◌≡◌, ◌==◌, ◌<◌, ℕ, zero, suc, inl, inr, Bool, true, false, cond, List, [], ◌∷◌, ◌++◌, length, ap, sym, ◌∙◌, refl, arith, Option, Some, None, slice_get, subst}
use Rattle.std.specs.Option.{option_map}
use Rattle.std.proofs.lemmas.Bool.{cases_lt, eq-eqb, eqb-true, false≢true}
use Rattle.std.proofs.lemmas.Option.{none-some, same_Some, slice_get_within}
use Rattle.ulfm_board.specs.inside.Trail.{slot_of}

-- such a row stands there, and none before it
pub record IsFirst (numbers : List ℕ) (number slot : ℕ) : Type 0 where
  pub here : slice_get numbers slot ≡ Some number
  pub before : (k : ℕ) → k < slot → slice_get numbers k ≡ Some number → ⊥

first_behind : (n number k : ℕ) (ns : List ℕ) → (n == number) ≡ false → IsFirst ns number k → IsFirst (n ∷ ns) number (suc k)
first_behind n number k ns other first = record { here = first.here; before = at }
  where
    at : (j : ℕ) → j < suc k → slice_get (n ∷ ns) j ≡ Some number → ⊥
    at zero low same = false≢true (sym other ∙ eq-eqb n number (same_Some n number same))
    at (suc j) low same = first.before j (omega (arith, low)) same

-- the search in a list, by its first row
abbrev searched : ℕ → ℕ → Bool → Option ℕ → Option ℕ
searched n number b rest = cond b (Some 0) (option_map suc rest)

-- the slot that is found is such a one
pub slot_first : (numbers : List ℕ) (number slot : ℕ) → slot_of numbers number ≡ Some slot → IsFirst numbers number slot
slot_first [] number slot h = absurd (none-some slot h)
slot_first (n ∷ ns) number slot h = at (λ k. slot_first ns number k) (n == number) refl
  where
    later : ((k : ℕ) → slot_of ns number ≡ Some k → IsFirst ns number k) → (o : Option ℕ) → slot_of ns number ≡ o → (n == number) ≡ false → option_map suc o ≡ Some slot → IsFirst (n ∷ ns) number slot
    later rec None is other found = absurd (none-some slot found)
    later rec (Some k) is other found = subst (λ (s : ℕ). IsFirst (n ∷ ns) number s) (same_Some (suc k) slot found) (first_behind n number k ns other (rec k is))

    at : ((k : ℕ) → slot_of ns number ≡ Some k → IsFirst ns number k) → (b : Bool) → (n == number) ≡ b → IsFirst (n ∷ ns) number slot
    at rec true is =
        let so : 0 ≡ slot = same_Some 0 slot (sym (ap (λ (b : Bool). searched n number b (slot_of ns number)) is) ∙ h) in
        let first : IsFirst (n ∷ ns) number 0 = record { here = ap Some (eqb-true n number is); before = λ j low. absurd (omega (arith, low)) } in
        subst (λ (s : ℕ). IsFirst (n ∷ ns) number s) so first
    at rec false is = later rec (slot_of ns number) refl is (sym (ap (λ (b : Bool). searched n number b (slot_of ns number)) is) ∙ h)

-- where nothing is found in a list, nothing is behind its first row
rest_none : (o : Option ℕ) → option_map suc o ≡ None → o ≡ None
rest_none None h = refl
rest_none (Some j) h = absurd (none-some (suc j) (sym h))

behind_none : (n number : ℕ) (ns : List ℕ) → (n == number) ≡ false → slot_of (n ∷ ns) number ≡ None → slot_of ns number ≡ None
behind_none n number ns other h = rest_none (slot_of ns number) (sym (ap (λ (b : Bool). searched n number b (slot_of ns number)) other) ∙ h)

first_other : (n number : ℕ) (ns : List ℕ) → slot_of (n ∷ ns) number ≡ None → (n == number) ≡ false
first_other n number ns h = at (n == number) refl
  where
    at : (b : Bool) → (n == number) ≡ b → (n == number) ≡ false
    at true is = absurd (none-some 0 (sym h ∙ ap (λ (b : Bool). searched n number b (slot_of ns number)) is))
    at false is = is

-- where no slot is found, there is no such row
pub none_first : (numbers : List ℕ) (number : ℕ) → slot_of numbers number ≡ None → (k : ℕ) → slice_get numbers k ≡ Some number → ⊥
none_first [] number h k there = none-some number there
none_first (n ∷ ns) number h zero there = false≢true (sym (first_other n number ns h) ∙ eq-eqb n number (same_Some n number there))
none_first (n ∷ ns) number h (suc k) there = none_first ns number (behind_none n number ns (first_other n number ns h) h) k there

-- a slot that was found is found where more rows follow
stays_behind : (n number slot : ℕ) (ns more : List ℕ) → ((k : ℕ) → slot_of ns number ≡ Some k → slot_of (ns ++ more) number ≡ Some k) → (b : Bool) → (n == number) ≡ b → slot_of (n ∷ ns) number ≡ Some slot → slot_of (n ∷ (ns ++ more)) number ≡ Some slot
stays_behind n number slot ns more rec true is h =
    ap (λ (b : Bool). searched n number b (slot_of (ns ++ more) number)) is ∙ sym (ap (λ (b : Bool). searched n number b (slot_of ns number)) is) ∙ h
stays_behind n number slot ns more rec false is h =
    ap (λ (b : Bool). searched n number b (slot_of (ns ++ more) number)) is ∙ later (slot_of ns number) refl (sym (ap (λ (b : Bool). searched n number b (slot_of ns number)) is) ∙ h)
  where
    later : (o : Option ℕ) → slot_of ns number ≡ o → option_map suc o ≡ Some slot → option_map suc (slot_of (ns ++ more) number) ≡ Some slot
    later None gone found = absurd (none-some slot found)
    later (Some k) here found = ap (option_map suc) (rec k here) ∙ found

pub slot_stays : (numbers more : List ℕ) (number slot : ℕ) → slot_of numbers number ≡ Some slot → slot_of (numbers ++ more) number ≡ Some slot
slot_stays [] more number slot h = absurd (none-some slot h)
slot_stays (n ∷ ns) more number slot h = stays_behind n number slot ns more (λ k. slot_stays ns more number k) (n == number) refl h

moved_up : (b : Bool) (k : ℕ) → option_map suc (cond b (Some k) None) ≡ cond b (Some (suc k)) None
moved_up true k = refl
moved_up false k = refl

-- where none was found, the next row is looked at
pub slot_next : (numbers : List ℕ) (next number : ℕ) → slot_of numbers number ≡ None → slot_of (numbers ++ next ∷ []) number ≡ cond (next == number) (Some (length numbers)) None
slot_next [] next number h = refl
slot_next (n ∷ ns) next number h =
    let other = first_other n number ns h in
    ap (λ (b : Bool). searched n number b (slot_of (ns ++ next ∷ []) number)) other ∙ ap (option_map suc) (slot_next ns next number (behind_none n number ns other h)) ∙ moved_up (next == number) (length ns)

-- a slot that was found is inside
pub slot_inside : (numbers : List ℕ) (number slot : ℕ) → slot_of numbers number ≡ Some slot → slot < length numbers
slot_inside numbers number slot h = slice_get_within numbers slot number (slot_first numbers number slot h).here

-- the slot that is found is the first one
pub first_slot : (numbers : List ℕ) (number slot : ℕ) → slice_get numbers slot ≡ Some number → ((k : ℕ) → k < slot → slice_get numbers k ≡ Some number → ⊥) → slot_of numbers number ≡ Some slot
first_slot numbers number slot here before = at (slot_of numbers number) refl
  where
    at : (o : Option ℕ) → slot_of numbers number ≡ o → slot_of numbers number ≡ Some slot
    at None is = absurd (none_first numbers number is slot here)
    at (Some s) is =
        let other = slot_first numbers number s is in
        elim (cases_lt s slot) [
          | inl low ↦ absurd (before s low other.here)
          | inr high ↦ elim (cases_lt slot s) [
            | inl low ↦ absurd (other.before slot low here)
            | inr up ↦ is ∙ ap Some (let same : s ≡ slot = omega (arith, high, up) in same)
          ]
        ]

-- where there is no such row, no slot is found
pub no_slot : (numbers : List ℕ) (number : ℕ) → ((k : ℕ) → slice_get numbers k ≡ Some number → ⊥) → slot_of numbers number ≡ None
no_slot numbers number none = at (slot_of numbers number) refl
  where
    at : (o : Option ℕ) → slot_of numbers number ≡ o → slot_of numbers number ≡ None
    at None is = is
    at (Some s) is = absurd (none s (slot_first numbers number s is).here)
