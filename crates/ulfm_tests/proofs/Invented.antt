-- Decisions of which one more member is excluded, or listed.
use Rattle.std.proofs.Common.{◌≡◌, ◌≢◌, ◌<◌, ◌⊎◌, ◌||◌, ℕ, zero, suc, true, false, List, [], ◌∷◌, length, set, subst, Option, Some, None, is_some, refl, ap, sym, ◌∙◌, inl, inr, arith}
use Rattle.std.specs.Int.Bits.{and_zero_l, and_zero_r}
use Rattle.std.proofs.lemmas.Bool.{cases_eq, false≢true, or_cases, or_left, or_right}
use Rattle.ulfm_base.specs.declared.decision.Decision.{Decision}
use Rattle.ulfm_base.specs.declared.rank_set.RankSet.{RankSet}
use Rattle.std.proofs.lemmas.Option.{same_Some}
use Rattle.ulfm_base.specs.declared.contribution.Contribution.{Contribution}
use Rattle.ulfm_base.specs.declared.topic.Purpose.TheVariants.{Shrink, Agree}
use Rattle.ulfm_base.specs.Topic.{Fits, is_agreement}
use Rattle.ulfm_base.specs.Decision.{IsLawfulDecision, entry_at, in_entry, is_listed, and_flag, and_entry, and_entries, value_of}
use Rattle.ulfm_base.specs.Group.{is_member, excluding}
use Rattle.ulfm_base.specs.RankSet.{has}

pub also_excluded : (d : Decision) (last : ℕ) (excluded : RankSet) (fresh : _) → is_member d.old last ≡ true → has excluded last ≡ true → ((r : ℕ) → r ≢ last → has excluded r ≡ has d.excluded r) → fresh ≡ excluding d.old (has excluded) → IsLawfulDecision d.topic d.old d.entries excluded fresh d.value
also_excluded d last excluded fresh member out others is = record {
  has_shrink = d.lawful.has_shrink;
  complete = λ r h. elim (or_cases (is_listed d.entries r) (has d.excluded r) (d.lawful.complete r h)) [
    | inl listed ↦ or_left (is_listed d.entries r) (has excluded r) listed
    | inr gone ↦ or_right (is_listed d.entries r) (has excluded r) (still r gone)
  ];
  union = λ r s h k. still s (d.lawful.union r s h k);
  listed_members = d.lawful.listed_members;
  excluded_members = λ r h. elim (cases_eq r last) [
    | inl same ↦ ap (is_member d.old) same ∙ member
    | inr other ↦ d.lawful.excluded_members r (sym (others r other) ∙ h)
  ];
  survivors = is;
  flags = d.lawful.flags;
  and_of_flags = d.lawful.and_of_flags;
}
  where
    still : (r : ℕ) → has d.excluded r ≡ true → has excluded r ≡ true
    still r h = elim (cases_eq r last) [
      | inl same ↦ ap (has excluded) same ∙ out
      | inr other ↦ others r other ∙ h
    ]

-- where a list has one more entry, there is that entry, or what was there
pub entry_set : (entries : List (Option Contribution)) (one r : ℕ) (set_of : Option Contribution) → ((entry_at (set entries one set_of) r ≡ set_of) × (r ≡ one)) ⊎ (entry_at (set entries one set_of) r ≡ entry_at entries r)
entry_set [] one r set_of = inr refl
entry_set (e ∷ entries) zero zero set_of = inl (refl, refl)
entry_set (e ∷ entries) zero (suc r) set_of = inr refl
entry_set (e ∷ entries) (suc one) zero set_of = inr refl
entry_set (e ∷ entries) (suc one) (suc r) set_of = elim (entry_set entries one r set_of) [
  | inl here ↦ inl (here.0, ap suc here.1)
  | inr other ↦ inr other
]

-- a member is listed with no failures, with this value, and all else is as before
listed_too : (d : Decision) (one : ℕ) (brought : Contribution) (value : Option ℕ) → is_member d.old one ≡ true → ((r : ℕ) → has brought.known r ≡ false) → Fits d.topic.purpose brought.flag → value ≡ value_of d.topic.purpose (set d.entries one (Some brought)) → IsLawfulDecision d.topic d.old (set d.entries one (Some brought)) d.excluded d.fresh value
listed_too d one brought value member empty fits is_value = record {
  has_shrink = d.lawful.has_shrink;
  complete = λ r h. elim (entry_set d.entries one r (Some brought)) [
    | inl here ↦ or_left (is_listed entries r) (has d.excluded r) (ap is_some here.0)
    | inr is ↦ ap (λ e. is_some e || has d.excluded r) is ∙ d.lawful.complete r h
  ];
  union = λ r s h k. elim (entry_set d.entries one r (Some brought)) [
    | inl here ↦ absurd (false≢true (sym (empty s) ∙ sym (ap (λ e. in_entry e s) here.0) ∙ h))
    | inr is ↦ d.lawful.union r s (sym (ap (λ e. in_entry e s) is) ∙ h) k
  ];
  listed_members = λ r h. elim (entry_set d.entries one r (Some brought)) [
    | inl here ↦ ap (is_member d.old) here.1 ∙ member
    | inr is ↦ d.lawful.listed_members r (sym (ap is_some is) ∙ h)
  ];
  excluded_members = d.lawful.excluded_members;
  survivors = d.lawful.survivors;
  flags = λ r other h. elim (entry_set d.entries one r (Some brought)) [
    | inl here ↦
        let same : brought ≡ other = same_Some brought other (sym here.0 ∙ h) in
        subst (λ (c : Contribution). Fits d.topic.purpose c.flag) same fits
    | inr is ↦ d.lawful.flags r other (sym is ∙ h)
  ];
  and_of_flags = is_value;
}
  where
    entries : List (Option Contribution)
    entries = set d.entries one (Some brought)

-- a member is listed with no failures in the decision of a shrink, and all else is as before
pub also_listed : (d : Decision) (one round : ℕ) (known : RankSet) → is_member d.old one ≡ true → ((r : ℕ) → has known r ≡ false) → d.topic.purpose ≡ Shrink round → IsLawfulDecision d.topic d.old (set d.entries one (Some (record { known = known; flag = None }))) d.excluded d.fresh d.value
also_listed d one round known member empty shrinks =
    let none : Contribution = record { known = known; flag = None } in
    let entries : List (Option Contribution) = set d.entries one (Some none) in
    listed_too d one none d.value member empty (sym (ap is_agreement shrinks)) (d.lawful.and_of_flags ∙ ap (λ p. value_of p d.entries) shrinks ∙ ap (λ p. value_of p entries) (sym shrinks))

-- nothing is left of no bits
and_flag-zero : (flag : Option ℕ) → and_flag 0 flag ≡ 0
and_flag-zero None = refl
and_flag-zero (Some flag) = and_zero_l flag

and_entries-zero : (entries : List (Option Contribution)) → and_entries 0 entries ≡ 0
and_entries-zero [] = refl
and_entries-zero (None ∷ entries) = and_entries-zero entries
and_entries-zero (Some brought ∷ entries) = ap (λ bits. and_entries bits entries) (and_flag-zero brought.flag) ∙ and_entries-zero entries

-- where one flag is 0, so is the AND
and_entries-with_zero : (bits one : ℕ) (entries : List (Option Contribution)) (known : RankSet) → one < length entries → and_entries bits (set entries one (Some (record { known = known; flag = Some 0 }))) ≡ 0
and_entries-with_zero bits one [] known inside = absurd (omega (arith, inside))
and_entries-with_zero bits zero (e ∷ entries) known inside = ap (λ b. and_entries b entries) (and_zero_r bits) ∙ and_entries-zero entries
and_entries-with_zero bits (suc one) (e ∷ entries) known inside = and_entries-with_zero (and_entry bits e) one entries known (omega (arith, inside))

-- a member is listed with no failures and the flag 0 in the decision of an agreement, whose value is 0 then
pub also_zero : (d : Decision) (one round : ℕ) (known : RankSet) → is_member d.old one ≡ true → ((r : ℕ) → has known r ≡ false) → d.topic.purpose ≡ Agree round → one < length d.entries → IsLawfulDecision d.topic d.old (set d.entries one (Some (record { known = known; flag = Some 0 }))) d.excluded d.fresh (Some 0)
also_zero d one round known member empty agrees inside =
    let zeros : Contribution = record { known = known; flag = Some 0 } in
    let entries : List (Option Contribution) = set d.entries one (Some zeros) in
    listed_too d one zeros (Some 0) member empty (sym (ap is_agreement agrees)) (ap Some (sym (and_entries-with_zero 4294967295 one d.entries known inside)) ∙ ap (λ p. value_of p entries) (sym agrees))
