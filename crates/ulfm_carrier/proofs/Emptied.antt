-- An inbox whose senders have all closed, after as many items were taken as it held.
use Rattle.std.proofs.Common.{◌≡◌, ◌<◌, ◌≤◌, ◌+◌, ℕ, suc, List, [], ◌∷◌, ◌++◌, Option, None, Some, length, get_or, refl, ap, sym, ◌∙◌, arith, subst, append_assoc, append-nil}
use Rattle.std.proofs.lemmas.List.{nil_from_length, length-append}
use Rattle.std.proofs.lemmas.Option.{slice_get-get_or, slice_get_within}
use Rattle.ulfm_carrier.proofs.Common.{at, Item, items_from, ReceiptsAreTakenAndHeld, shown, Signed, PassView, after_take, after_all}
use Rattle.ulfm_carrier.specs.inside.Emptying.{ReceiptsAreTaken, HasAllReceipts, AllBelow}
use Rattle.ulfm_carrier.proofs.Changed.{items_else}
use Rattle.ulfm_carrier.proofs.Counts.{none_more}
use Rattle.ulfm_carrier.proofs.Senders.{items-append}

pub took_more : (v : PassView) {u w : PassView} (xs ys : List Signed) (x : Signed) → u ≡ after_all v xs → w ≡ after_take u x → ys ≡ xs ++ x ∷ [] → w ≡ after_all v ys
took_more v xs ys x was is more = is ∙ ap (λ y. after_take y x) was ∙ (λ i. record v { taken = append_assoc v.taken xs (x ∷ []) i }) ∙ ap (after_all v) (sym more)

pub none_above : (n s : ℕ) (xs : List Signed) → AllBelow n xs → n ≤ s → items_from s xs ≡ []
none_above n s [] all past = refl
none_above n s (x ∷ xs) all past = let low = all 0 x refl in items_else s x xs (λ e. absurd (omega (arith, e, low, past))) ∙ none_above n s xs (λ k y here. all (suc k) y here) past

-- of one closed sender: what the inbox held is what was taken since and what it holds
parts : (p : ℕ) (l : List Item) (taken left was now : List Signed) → l ≡ items_from p (taken ++ was) → l ≡ items_from p ((taken ++ left) ++ now) → length (items_from p was) ≡ length (items_from p left) + length (items_from p now)
parts p l taken left was now before after =
    let a : l ≡ items_from p taken ++ items_from p was = before ∙ items-append p taken was in
    let b : l ≡ items_from p taken ++ (items_from p left ++ items_from p now) = after ∙ ap (items_from p) (append_assoc taken left now) ∙ items-append p taken (left ++ now) ∙ ap (λ t. items_from p taken ++ t) (items-append p left now) in
    let m = ap length a ∙ length-append (items_from p taken) (items_from p was) in
    let k = ap length b ∙ length-append (items_from p taken) (items_from p left ++ items_from p now) in
    let j = length-append (items_from p left) (items_from p now) in
    omega (arith, m, k, j)

all_taken : (v : PassView) (left was now : List Signed) → HasAllReceipts v → AllBelow v.made left → length was ≡ length left → ReceiptsAreTakenAndHeld v was → ReceiptsAreTakenAndHeld (after_all v left) now → ReceiptsAreTaken (after_all v left)
all_taken v left was now receipts below many before after k p l here =
    let is = receipts.1 k (p, l) here in
    let low : p < v.made = omega (arith, slice_get_within v.receipts k (p, l) here, receipts.0, is) in
    let each : (q : ℕ) → q < v.made → length (items_from q was) ≡ length (items_from q left) + length (items_from q now) = λ q inside.
    let x = get_or v.receipts q (0, []) in
    let there : at v.receipts q x = slice_get-get_or v.receipts q (0, []) (omega (arith, inside, receipts.0)) in
    subst (λ n. length (items_from n was) ≡ length (items_from n left) + length (items_from n now)) (receipts.1 q x there) (parts x.0 x.1 v.taken left was now (before q x.0 x.1 there) (after q x.0 x.1 there)) in
    let none = nil_from_length (items_from p now) (none_more v.made was left now below many each p low) in
    after k p l here ∙ items-append p (v.taken ++ left) now ∙ ap (λ t. items_from p (v.taken ++ left) ++ t) none ∙ append-nil (items_from p (v.taken ++ left))

pub emptied : (v : PassView) {w : PassView} (left was now : List Signed) → w ≡ after_all v left → HasAllReceipts v → AllBelow v.made left → length was ≡ length left → ReceiptsAreTakenAndHeld v was → ReceiptsAreTakenAndHeld w now → ReceiptsAreTaken w
emptied v left was now is receipts below many before after =
    subst ReceiptsAreTaken (sym is) (all_taken v left was now receipts below many before (subst (λ y. ReceiptsAreTakenAndHeld y now) is after))

-- what a closed sender pushed, as an end tells of it that is being gathered
pub told_left : (v : PassView) {w : PassView} (left : List Signed) (gathered : Option ℕ) → gathered ≡ None → w ≡ after_all v left → ReceiptsAreTaken w → (k : ℕ) (x : ℕ × List Item) → at v.receipts k x → x.1 ≡ items_from x.0 (shown gathered v.taken) ++ items_from x.0 left
told_left v left None live is all k x here = (subst ReceiptsAreTaken is all) k x.0 x.1 here ∙ items-append x.0 v.taken left
told_left v left (Some count) live is all k x here = absurd (cc)
