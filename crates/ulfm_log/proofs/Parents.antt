-- From what the groups of communicators come: the world, a duplicated parent, an adopted decision.
use Rattle.std.proofs.Common.{◌≡◌, ℕ, ◌+◌, ◌*◌, List, [], ◌∷◌, ◌++◌, refl, ap, sym, subst, ◌∙◌, inl, inr, ◌⊎◌, Some, All}
use Rattle.ulfm_log.proofs.Common.{Decision, Shrink, child_not_world, dup_not_shrink, dups_alone, nth_dup, nth_shrink, shrinks_alone, numbers_from, Entry, Adopted, All-pop, find_group, made_by, group_of}
use Rattle.ulfm_log.proofs.Gather.{gathered_all}
use Rattle.ulfm_log.proofs.Grouped.{found_one, found_cases, still_found}
use Rattle.ulfm_log.specs.Log.{by_found}

-- a duplicate has its parent's group
pub parent_group : (n : ℕ) (log : List Entry) (k p : ℕ) (g : List ℕ) → group_of n log (nth_dup k p) ≡ Some g → group_of n log p ≡ Some g
parent_group n log k p =
    let P = λ (before : List Entry) (found : List (ℕ × List ℕ)). (g : List ℕ) → find_group (nth_dup k p) found ≡ Some g → find_group p found ≡ Some g in
    gathered_all {X = ℕ × List ℕ} (by_found made_by) P step ((0, numbers_from 0 n) ∷ []) start log
  where
    start : (g : List ℕ) → find_group (nth_dup k p) ((0, numbers_from 0 n) ∷ []) ≡ Some g → find_group p ((0, numbers_from 0 n) ∷ []) ≡ Some g
    start g h = absurd (child_not_world p (3 * k) (found_one (nth_dup k p) 0 (numbers_from 0 n) g h).0)

    step : (before : List Entry) (found : List (ℕ × List ℕ)) (e : Entry) → ((g : List ℕ) → find_group (nth_dup k p) found ≡ Some g → find_group p found ≡ Some g) → (g : List ℕ) → find_group (nth_dup k p) (found ++ made_by found e) ≡ Some g → find_group p (found ++ made_by found e) ≡ Some g
    step before found e h g now = still_found p found (made_by found e) g (elim (found_cases found e (nth_dup k p) g now) [
      | inl was ↦ h g was
      | inr (inl d) ↦ ap (λ i. find_group i found) (dups_alone k d.count p d.parent.number d.child).1 ∙ d.group
      | inr (inr a) ↦ absurd (dup_not_shrink k a.round p a.decision.topic.context.number a.child)
    ])

-- the group of a shrunk communicator is the new group of a decision that was adopted
pub record HasAdoption (P : Entry → Type 0) (k p : ℕ) (g : List ℕ) : Type 0 where
  pub decision : Decision
  pub shrinks : decision.topic.purpose ≡ Shrink k
  pub context : decision.topic.context.number ≡ p
  pub group : decision.fresh ≡ g
  pub holds : P (Adopted decision)

pub adopted_group : (P : Entry → Type 0) (n : ℕ) (log : List Entry) (k p : ℕ) (g : List ℕ) → All P log → group_of n log (nth_shrink k p) ≡ Some g → HasAdoption P k p g
adopted_group P n log k p g all =
    let Q = λ (before : List Entry) (found : List (ℕ × List ℕ)). All P before → find_group (nth_shrink k p) found ≡ Some g → HasAdoption P k p g in
    gathered_all {X = ℕ × List ℕ} (by_found made_by) Q step ((0, numbers_from 0 n) ∷ []) start log all
  where
    start : All P [] → find_group (nth_shrink k p) ((0, numbers_from 0 n) ∷ []) ≡ Some g → HasAdoption P k p g
    start none h = absurd (child_not_world p (3 * k + 1) (found_one (nth_shrink k p) 0 (numbers_from 0 n) g h).0)

    step : (before : List Entry) (found : List (ℕ × List ℕ)) (e : Entry) → (All P before → find_group (nth_shrink k p) found ≡ Some g → HasAdoption P k p g) → All P (before ++ e ∷ []) → find_group (nth_shrink k p) (found ++ made_by found e) ≡ Some g → HasAdoption P k p g
    step before found e h each now =
        let parts = All-pop P (before ++ e ∷ []) before (Some e) refl each in
        elim (found_cases found e (nth_shrink k p) g now) [
          | inl was ↦ h parts.0 was
          | inr (inl d) ↦ absurd (dup_not_shrink d.count k d.parent.number p (sym d.child))
          | inr (inr a) ↦ let same = shrinks_alone a.round k a.decision.topic.context.number p (sym a.child) in record { decision = a.decision; shrinks = a.shrinks ∙ ap Shrink same.0; context = same.1; group = a.group; holds = subst P a.entry parts.1 }
        ]

-- the group of the world is that of all ranks
pub world_group : (n : ℕ) (log : List Entry) → group_of n log 0 ≡ Some (numbers_from 0 n)
world_group n log =
    gathered_all {X = ℕ × List ℕ} (by_found made_by) (λ before found. find_group 0 found ≡ Some (numbers_from 0 n))
    (λ before found e h. still_found 0 found (made_by found e) (numbers_from 0 n) h)
    ((0, numbers_from 0 n) ∷ []) refl log

-- a context is the world's, a duplicate's or a shrink's
abbrev pub ContextCases : ℕ → Type 0
ContextCases c = (c ≡ 0) ⊎ (((k : ℕ) × (p : ℕ) × (c ≡ nth_dup k p)) ⊎ ((k : ℕ) × (p : ℕ) × (c ≡ nth_shrink k p)))

-- so is each context whose communicator was made
pub context_cases : (n : ℕ) (log : List Entry) (c : ℕ) (g : List ℕ) → group_of n log c ≡ Some g → ContextCases c
context_cases n log c =
    gathered_all {X = ℕ × List ℕ} (by_found made_by) (λ before found. (g : List ℕ) → find_group c found ≡ Some g → ContextCases c)
    (λ before found e h g now. elim (found_cases found e c g now) [
      | inl was ↦ h g was
      | inr (inl d) ↦ inr (inl (d.count, d.parent.number, d.child))
      | inr (inr a) ↦ inr (inr (a.round, a.decision.topic.context.number, a.child))
    ])
    ((0, numbers_from 0 n) ∷ []) (λ g h. inl (found_one c 0 (numbers_from 0 n) g h).0) log
