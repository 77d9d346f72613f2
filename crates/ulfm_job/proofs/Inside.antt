-- All places of a job are inside it.
use Rattle.std.proofs.Common.{◌≡◌, ℕ, ◌+◌, ◌<◌, ◌≤◌, List, [], ◌∷◌, ◌++◌, get_or, length, map, filter, All, Bool, true, false, ltb, leb, cond, not, Option, Some, None, slice_get, if◌then◌else◌, refl, subst, sym, ◌∙◌, arith}
use Rattle.std.proofs.lemmas.Bool.{false≢true, ltb-true}
use Rattle.std.proofs.lemmas.Option.{slice_get_within}
use Rattle.std.proofs.lemmas.List.Elements.{All-append, All-cons, All-head, All-map, All-nil, All-tail}
use Rattle.std.proofs.lemmas.List.FromFn.{get_or-range_with_len, length-range_with_len}
use Rattle.std.proofs.lemmas.List.Sums.{prefix_len-le-length}
use Rattle.std.specs.List.{flat_map, range_with_len}
use Rattle.ulfm_job.specs.Job.{JobView, is_decided_together, script_at}
use Rattle.ulfm_job.specs.declared.step.Step.{Step}
use Rattle.ulfm_job.specs.Place.{IsPlaceOf, IsStopOf}
use Rattle.ulfm_job.specs.Places.{all_stops, if_allowed, last_place, pairs_of, places_of, stop_at, stop_inside, stops_always, stops_in, stops_near, twos}
use Rattle.ulfm_job.specs.declared.place.Place.{Place}
use Rattle.ulfm_job.specs.declared.place.Place.TheVariants.{Nowhere, One, Two}
use Rattle.ulfm_job.specs.declared.stop.Stop.{Stop}

-- what holds of all parts holds of all of them in one list
All-flat_map : {X Y : Type 0} (P : Y → Type 0) (f : X → List Y) (xs : List X) → All (λ x. All P (f x)) xs → All P (flat_map f xs)
All-flat_map P f [] h = All-nil P
All-flat_map P f (x ∷ xs) h = All-append P (f x) (flat_map f xs) (All-head (λ x. All P (f x)) x xs h) (All-flat_map P f xs (All-tail (λ x. All P (f x)) x xs h))

-- what holds of all numbers below n
All-range : (P : ℕ → Type 0) (n : ℕ) → ((k : ℕ) → k < n → P k) → All P (range_with_len 0 n)
All-range P n h = λ k d lt.
    let inside : k < n = omega (arith, length-range_with_len 0 n, lt) in
    let at : get_or (range_with_len 0 n) k d ≡ k = get_or-range_with_len 0 n k d inside ∙ omega arith in
    subst P (sym at) (h k inside)

last_place-le : (j : JobView) (r : ℕ) → last_place j r ≤ length (script_at j r)
last_place-le j r = omega (arith, length-range_with_len 0 (length (script_at j r)), prefix_len-le-length (λ k. not (stops_always j r k)) (range_with_len 0 (length (script_at j r))))

-- a step that ranks decide together is one of the script
joint_within : (xs : List Step) (k : ℕ) → is_decided_together (slice_get xs k) ≡ true → k < length xs
joint_within xs k is = by (slice_get xs k) refl is
  where
    by : (o : Option Step) → slice_get xs k ≡ o → is_decided_together o ≡ true → k < length xs
    by None here joint = absurd (false≢true joint)
    by (Some step) here joint = slice_get_within xs k step here

near_inside : (j : JobView) (r at : ℕ) → r < j.ranks → at ≤ length (script_at j r) → All (IsStopOf j) (stops_near j r at)
near_inside j r at lt le =
    All-cons (IsStopOf j) (stop_at r at) _ (record { rank = lt; at = le; joint = λ dies. absurd (false≢true dies) }) (by (is_decided_together (slice_get (script_at j r) at)) refl)
  where
    by : (b : Bool) → is_decided_together (slice_get (script_at j r) at) ≡ b → All (IsStopOf j) (if b then stop_inside r at ∷ [] else [])
    by true joint = All-cons (IsStopOf j) (stop_inside r at) [] (record { rank = lt; at = (let low = joint_within (script_at j r) at joint in omega (arith, low)); joint = λ dies. joint }) (All-nil (IsStopOf j))
    by false joint = All-nil (IsStopOf j)

stops_inside : (j : JobView) (r : ℕ) → r < j.ranks → All (IsStopOf j) (stops_in j r)
stops_inside j r lt = All-flat_map (IsStopOf j) (stops_near j r) (range_with_len 0 (last_place j r + 1))
    (All-range (λ at. All (IsStopOf j) (stops_near j r at)) (last_place j r + 1) (λ k below. near_inside j r k lt (omega (arith, below, last_place-le j r))))

all_inside : (j : JobView) → All (IsStopOf j) (all_stops j)
all_inside j = All-flat_map (IsStopOf j) (stops_in j) (range_with_len 0 j.ranks) (All-range (λ r. All (IsStopOf j) (stops_in j r)) j.ranks (λ r lt. stops_inside j r lt))

pairs_inside : (j : JobView) (first : Stop) (stops : List Stop) → IsStopOf j first → All (IsStopOf j) stops → All (IsPlaceOf j) (pairs_of stops first)
pairs_inside j first [] one all = All-nil (IsPlaceOf j)
pairs_inside j first (second ∷ stops) one all = by (pairs_inside j first stops one (All-tail (IsStopOf j) second stops all)) (ltb first.rank second.rank) refl
  where
    by : All (IsPlaceOf j) (pairs_of stops first) → (b : Bool) → ltb first.rank second.rank ≡ b → All (IsPlaceOf j) (map (Two first) (cond b (second ∷ filter (λ (s : Stop). ltb first.rank s.rank) stops) (filter (λ (s : Stop). ltb first.rank s.rank) stops)))
    by rest true rises = All-cons (IsPlaceOf j) (Two first second) _ (ltb-true _ _ rises, one, All-head (IsStopOf j) second stops all) rest
    by rest false falls = rest

twos_inside : (j : JobView) (stops firsts : List Stop) → All (IsStopOf j) stops → All (IsStopOf j) firsts → All (IsPlaceOf j) (flat_map (pairs_of stops) firsts)
twos_inside j stops [] all each = All-nil (IsPlaceOf j)
twos_inside j stops (first ∷ firsts) all each =
    All-append (IsPlaceOf j) (pairs_of stops first) _ (pairs_inside j first stops (All-head (IsStopOf j) first firsts each) all) (twos_inside j stops firsts all (All-tail (IsStopOf j) first firsts each))

allowed_inside : (j : JobView) (least stops : ℕ) (places : List Place) → All (IsPlaceOf j) places → All (IsPlaceOf j) (if_allowed least stops places)
allowed_inside j least stops places all = by (leb least stops)
  where
    by : (b : Bool) → All (IsPlaceOf j) (cond b places [])
    by true = all
    by false = All-nil (IsPlaceOf j)

pub places_inside : (j : JobView) (stops : ℕ) → All (IsPlaceOf j) (places_of stops j)
places_inside j stops =
    let ones = if_allowed 1 stops (map One (all_stops j)) in
    let pairs = if_allowed 2 stops (twos (all_stops j)) in
    let nowhere = All-cons (IsPlaceOf j) Nowhere [] tt (All-nil (IsPlaceOf j)) in
    let each = allowed_inside j 1 stops (map One (all_stops j)) (All-map (IsPlaceOf j) One (all_stops j) (all_inside j)) in
    let all = allowed_inside j 2 stops (twos (all_stops j)) (twos_inside j (all_stops j) (all_stops j) (all_inside j) (all_inside j)) in
    All-append (IsPlaceOf j) (Nowhere ∷ [] ++ ones) pairs (All-append (IsPlaceOf j) (Nowhere ∷ []) ones nowhere each) all
