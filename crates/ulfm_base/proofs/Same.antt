-- Sets, contributions and listings whose tests pass are equal.
use Rattle.std.proofs.Common.{◌≡◌, ℕ, ◌==◌, ◌<◌, Bool, true, false, Option, Some, None, List, length, refl, ap, sym, ◌∙◌, arith}
use Rattle.std.proofs.Math.Path.{to_path_p}
use Rattle.std.proofs.Props.{props}
use Rattle.std.specs.Option.{option_eq}
use mathlib.Core.Bool.{beq}
use lib.Pointwise.{pointwise, pointwise_decides}
use Rattle.std.proofs.lemmas.Bool.{and_parts, and_from, eqb-true, eq-eqb}
use Rattle.std.proofs.lemmas.List.{ext_get_or}
use Rattle.std.proofs.lemmas.Option.{same_Some}
use Rattle.ulfm_base.specs.declared.contribution.Contribution.{Contribution}
use Rattle.ulfm_base.specs.RankSet.{has}
use Rattle.ulfm_base.specs.Topic.{is_contribution}
use Rattle.ulfm_base.specs.declared.rank_set.RankSet.{RankSet}

bools_decide : (x y : Bool) → (beq x y ≡ true → x ≡ y) × (x ≡ y → beq x y ≡ true)
bools_decide true true = (λ _. refl, λ _. refl)
bools_decide true false = (λ e. cc, λ e. cc)
bools_decide false true = (λ e. cc, λ e. cc)
bools_decide false false = (λ _. refl, λ _. refl)

-- a set has its places in one way
sized_once : (members : List Bool) → IsProp (length members ≡ 8)
sized_once members = hlevel props

-- sets of the same members are one
pub same_members : (x y : RankSet) → x.members ≡ y.members → x ≡ y
same_members x y e =
    let sized = to_path_p (λ i. length (e i) ≡ 8) {a = x.sized} {b = y.sized} (sized_once y.members _ y.sized) in
    λ i. record { members = e i; sized = sized i }

-- sets that have the same ranks are one
pub same_set : (x y : RankSet) → ((r : ℕ) → r < 8 → has x r ≡ has y r) → x ≡ y
same_set x y each =
    let size : length x.members ≡ 8 = x.sized in
    same_members x y (ext_get_or false x.members y.members (size ∙ sym y.sized) (λ r h. each r (omega (arith, h, size))))

pub sets_decide : (x y : RankSet) → (pointwise beq x.members y.members ≡ true → x ≡ y) × (x ≡ y → pointwise beq x.members y.members ≡ true)
sets_decide x y =
    let d = pointwise_decides bools_decide x.members y.members in
    (λ h. same_members x y (d.0 h), λ e. d.1 (ap (λ (s : RankSet). s.members) e))

flags_decide : (x y : Option ℕ) → (option_eq (λ a b. a == b) x y ≡ true → x ≡ y) × (x ≡ y → option_eq (λ a b. a == b) x y ≡ true)
flags_decide None None = (λ _. refl, λ _. refl)
flags_decide None (Some t) = (λ h. cc, λ h. cc)
flags_decide (Some s) None = (λ h. cc, λ h. cc)
flags_decide (Some s) (Some t) = (λ h. ap Some (eqb-true s t h), λ e. eq-eqb s t (same_Some s t e))

-- contributions are equal exactly where the test passes
pub contributions_decide : (x y : Contribution) → (is_contribution x y ≡ true → x ≡ y) × (x ≡ y → is_contribution x y ≡ true)
contributions_decide x y =
    let known = sets_decide x.known y.known in
    let flag = flags_decide x.flag y.flag in (
      λ h. let parts = and_parts (pointwise beq x.known.members y.known.members) (option_eq (λ a b. a == b) x.flag y.flag) h in λ i. record { known = known.0 parts.0 i; flag = flag.0 parts.1 i },
      λ e. and_from _ _ (known.1 (ap (λ (c : Contribution). c.known) e)) (flag.1 (ap (λ (c : Contribution). c.flag) e)),
    )

options_decide : (x y : Option Contribution) → (option_eq is_contribution x y ≡ true → x ≡ y) × (x ≡ y → option_eq is_contribution x y ≡ true)
options_decide None None = (λ _. refl, λ _. refl)
options_decide None (Some t) = (λ h. cc, λ h. cc)
options_decide (Some s) None = (λ h. cc, λ h. cc)
options_decide (Some s) (Some t) = (λ h. ap Some ((contributions_decide s t).0 h), λ e. (contributions_decide s t).1 cc)

pub entries_decide : (xs ys : List (Option Contribution)) → (pointwise (option_eq is_contribution) xs ys ≡ true → xs ≡ ys) × (xs ≡ ys → pointwise (option_eq is_contribution) xs ys ≡ true)
entries_decide = pointwise_decides options_decide
