-- How far logs are walked: each step goes on by one entry, so a walk ends.
use Rattle.std.proofs.Common.{◌≡◌, ◌<◌, ◌≤◌, ◌+◌, ◌⊎◌, ℕ, zero, suc, List, [], ◌∷◌, length, set, slice_index, Option, ap, sym, subst, ◌∙◌, inl, inr, arith, get_or-set_same, get_or-set_other}
use Rattle.ulfm_run.proofs.Common.{at, Report, cases_eq, cases_lt, none-some, same_Some, slice_get_within}
use Rattle.ulfm_run.specs.inside.Walk.{StepsOn, entries_left}

-- a place that is walked after a step is the new one, or was walked before
pub walked_cases : (old : List ℕ) (d r k : ℕ) → d < length old → k < slice_index (set old d (slice_index old d + 1)) r
    → ((r ≡ d) × (k ≡ slice_index old d)) ⊎ (k < slice_index old r)
walked_cases old d r k inside h = elim (cases_eq r d) [
  | inl one ↦
      let more : slice_index (set old d (slice_index old d + 1)) r ≡ slice_index old d + 1 = ap (slice_index (set old d (slice_index old d + 1))) one ∙ get_or-set_same old d (slice_index old d + 1) 0 inside in
      elim (cases_lt k (slice_index old d)) [
        | inl before ↦ inr (subst (λ i. k < slice_index old i) (sym one) before)
        | inr least ↦ inl (one, omega (arith, least, more, h))
      ]
  | inr other ↦ inr (subst (λ n. k < n) (get_or-set_other old d r (slice_index old d + 1) 0 other) h)
]

-- what was walked stays walked
pub walked_still : (old : List ℕ) (d r : ℕ) → d < length old → slice_index old r ≤ slice_index (set old d (slice_index old d + 1)) r
walked_still old d r inside = elim (cases_eq r d) [
  | inl one ↦ omega (arith, ap (slice_index old) one, ap (slice_index (set old d (slice_index old d + 1))) one, get_or-set_same old d (slice_index old d + 1) 0 inside)
  | inr other ↦ omega (arith, get_or-set_other old d r (slice_index old d + 1) 0 other)
]

-- each step leaves fewer entries
left_falls : (reports : List Report) (old : List ℕ) (d : ℕ) (told : Report) → at reports d told → d < length old → slice_index old d < length told.rank.log
    → entries_left reports (set old d (slice_index old d + 1)) < entries_left reports old
left_falls [] old d told here inside lt = absurd (none-some told here)
left_falls (x ∷ reports) [] d told here inside lt = absurd (omega (arith, inside))
left_falls (x ∷ reports) (front ∷ old) zero told here inside lt =
    let same : length x.rank.log ≡ length told.rank.log = ap (λ (r : Report). length r.rank.log) (same_Some x told here) in
    omega (arith, same, lt)
left_falls (x ∷ reports) (front ∷ old) (suc d) told here inside lt = omega (arith, left_falls reports old d told here (omega (arith, inside)) lt)

pub step_falls : {room : Option ℕ} {reports : List Report} {old new : List ℕ} (d : ℕ) → length reports ≤ 8 → length old ≡ 8 → StepsOn room reports old d new → entries_left reports new < entries_left reports old
step_falls {room} {reports} {old} d few sized step =
    let goes = step.goes in
    let inside = slice_get_within reports d goes.told goes.reported in
    let lt = slice_get_within goes.told.rank.log (slice_index old d) goes.entry goes.next in
    subst (λ (fronts : List ℕ). entries_left reports fronts < entries_left reports old) (sym step.moved) (left_falls reports old d goes.told goes.reported (omega (arith, few, inside, sized)) lt)
