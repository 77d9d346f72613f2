-- Notes that stand at one place are compared.
use Rattle.std.proofs.Common.{◌≡◌, ◌<◌, ℕ, List, length, get_or, set, ap, sym, ◌∙◌, subst, Some, IfSome}
use Rattle.std.proofs.lemmas.List.{set-get_or}
use Rattle.std.proofs.lemmas.Option.{same_Some, slice_get-get_or}
use Rattle.once_cell.specs.declared.race.note.Note.{Note}
use Rattle.ulfm_base.specs.Lists.{at}

-- the notes at a place know no two values
abbrev pub NoTwo : {X : Type 0} → List (Note X) → List (Note X) → ℕ → Type 0
NoTwo {X} xs ys k = (x y : Note X) → at xs k x → at ys k y → IfSome x.known (λ v. IfSome y.known (λ w. w ≡ v))

-- what is read at a place is what stands there
pub read_at : {X : Type 0} (xs : List X) (k : ℕ) (n x : X) → k < length xs → n ≡ get_or xs k n → at xs k x → n ≡ x
read_at xs k n x low here there = same_Some n x (ap Some here ∙ sym (slice_get-get_or xs k n low) ∙ there)

-- two that were compared are those that stand there
pub pair_here : {X : Type 0} (xs ys : List (Note X)) (k : ℕ) (n m : Note X) → k < length xs → k < length ys → n ≡ get_or xs k n → m ≡ get_or ys k m → IfSome n.known (λ v. IfSome m.known (λ w. w ≡ v)) → NoTwo xs ys k
pair_here {X} xs ys k n m low low' here there agree x y at_x at_y =
    subst (λ (t : Note X × Note X). IfSome t.0.known (λ v. IfSome t.1.known (λ w. w ≡ v))) (λ i. (read_at xs k n x low here at_x i, read_at ys k m y low' there at_y i)) agree

-- what is read at a place is written back
pub set_same : {X : Type 0} (xs ys : List X) (k : ℕ) (n m : X) → xs ≡ ys → n ≡ get_or xs k n → m ≡ n → set xs k m ≡ ys
set_same {X} xs ys k n m same here kept = ap (λ (x : X). set xs k x) (kept ∙ here) ∙ set-get_or xs k n ∙ same
