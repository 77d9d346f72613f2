-- Lists that are handed over, one element after another, and what came of each.
use Rattle.std.proofs.Common.{◌≡◌, ℕ, zero, suc, List, [], ◌∷◌, map, length, refl, ap, sym, ◌∙◌, arith, subst, slice_get, All}
use Rattle.ulfm_script.specs.Answered.{AnswersFollow}
use Rattle.ulfm_report_laws.specs.Answers.{AllAnswersFollow}
use Rattle.ulfm_run.proofs.Common.{at, at_view, contents, Global, IsFresh, Item, Known, Report, Vec, WorldRank, same_Some, slice_get_within, get_or_from_slice_get, inbox_of, All-get_or, Ran, EachFresh, GaveAnswers, report_in, decider_in}

pub fresh_first : {E : Type 0} (count : E → ℕ) (pushed taken : E → ℕ → List Item) (ready : E → Type 0) {n : ℕ} {all rest : List E} {x : E} → EachFresh count pushed taken ready n all → all ≡ x ∷ rest → IsFresh count pushed taken ready n x
fresh_first count pushed taken ready {x} fresh is = fresh 0 x (ap (λ l. slice_get l 0) is)

pub fresh_rest : {E : Type 0} (count : E → ℕ) (pushed taken : E → ℕ → List Item) (ready : E → Type 0) {n : ℕ} {all rest : List E} {x : E} → EachFresh count pushed taken ready n all → all ≡ x ∷ rest → EachFresh count pushed taken ready n rest
fresh_rest count pushed taken ready fresh is = λ k e here. fresh (suc k) e (ap (λ l. slice_get l (suc k)) is ∙ here)

-- what stands at a place of a mapped list comes from there
pub from_map : {X Y : Type 0} (f : X → Y) (xs : List X) (k : ℕ) {y : Y} → at (map f xs) k y → (x : X) × at xs k x × (f x ≡ y)
from_map f [] k h = absurd (cc)
from_map f (x ∷ xs) zero {y} h = (x, refl, same_Some (f x) y h)
from_map f (x ∷ xs) (suc k) {y} h = from_map f xs k h

-- what is left in the inbox at a place
pub inbox_there : (inboxes : List (Vec (WorldRank × Item) Global)) (d : ℕ) {inbox : Vec (WorldRank × Item) Global} → at inboxes d inbox → inbox_of (contents inboxes) d ≡ inbox.items
inbox_there inboxes d {inbox} here =
    let items : Vec (WorldRank × Item) Global → List (WorldRank × Item) = λ v. v.items in
    get_or_from_slice_get (contents inboxes) d inbox.items [] (at_view items inboxes d inbox here)

-- lists with equal elements at each place are equal under their functions
pub same_maps : {X Y Z : Type 0} (f : X → Z) (g : Y → Z) (xs : List X) (ys : List Y) → length ys ≡ length xs → ((k : ℕ) (x : X) (y : Y) → at xs k x → at ys k y → g y ≡ f x) → map g ys ≡ map f xs
same_maps f g [] [] n h = refl
same_maps f g [] (y ∷ ys) n h = absurd (omega (arith, n))
same_maps f g (x ∷ xs) [] n h = absurd (omega (arith, n))
same_maps {X} {Y} {Z} f g (x ∷ xs) (y ∷ ys) n h =
    ap (λ (z : Z). z ∷ map g ys) (h zero x y refl refl) ∙ ap (λ (zs : List Z). f x ∷ zs) (same_maps f g xs ys (omega (arith, n)) (λ k a b p q. h (suc k) a b p q))

-- what each thread gave back has right answers, by its place in the lists of reports and of what deciders know
pub answers_all : {E D : Type 0} (known : D → Known) (ran : List (Ran E D)) → All (GaveAnswers known) ran → {reports : List Report} (knows : List Known) → reports ≡ map report_in ran → knows ≡ map known (map decider_in ran) → AllAnswersFollow knows reports
answers_all {E} {D} known ran all knows rs ds k told it p q =
    let a = from_map report_in ran k (ap (λ l. slice_get l k) (sym rs) ∙ p) in
    let c = from_map known (map decider_in ran) k (ap (λ l. slice_get l k) (sym ds) ∙ q) in
    let b = from_map decider_in ran k c.1 in
    let H = GaveAnswers known in
    let h : H a.0 = subst H (get_or_from_slice_get ran k a.0 a.0 a.1) (All-get_or H ran k a.0 (slice_get_within ran k a.0 a.1) all) in
    let K : Known → Report → Type 0 = λ (x : Known) (r : Report). AnswersFollow x r in
    subst (λ (x : Known). K x told) (ap known (ap decider_in (sym (same_Some b.0 a.0 (sym b.1 ∙ a.1))) ∙ b.2) ∙ c.2) (subst (λ (r : Report). K (known a.0.decider) r) a.2 h)
