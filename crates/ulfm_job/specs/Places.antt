-- All places of a job.
use Rattle.std.specs.Prelude.{ℕ, ◌+◌, ◌==◌, ◌&&◌, nat_le, nat_lt, Bool, true, false, not, List, [], ◌∷◌, ◌++◌, filter, length, map, slice_get, if◌then◌else◌}
use Rattle.std.specs.List.{flat_map, list_any, position_or_len, range_with_len}
use Rattle.std.specs.Option.{option_map_or}
use Rattle.ulfm_job.specs.declared.condition.Condition.{Condition}
use Rattle.ulfm_job.specs.Job.{JobView, is_decided_together, is_stop_step, script_at}
use Rattle.ulfm_job.specs.declared.place.Place.{Place}
use Rattle.ulfm_job.specs.declared.place.Place.TheVariants.{Nowhere, One, Two}
use Rattle.ulfm_job.specs.declared.stop.Stop.{Stop}

-- the step k of the rank r is played on a condition of its own
abbrev pub is_asked : JobView → ℕ → ℕ → Bool
is_asked j r k = list_any (λ (c : Condition). c.rank == r && c.at == k) j.conditions

-- the step k of the rank r is a stop
abbrev pub is_stop_at : JobView → ℕ → ℕ → Bool
is_stop_at j r k = option_map_or is_stop_step (slice_get (script_at j r) k) false

-- it is one, and on no condition: if the rank comes to it, it stops
abbrev pub stops_always : JobView → ℕ → ℕ → Bool
stops_always j r k = is_stop_at j r k && not (is_asked j r k)

-- how many steps of the rank r come before the first such stop
abbrev pub last_place : JobView → ℕ → ℕ
last_place j r = position_or_len (stops_always j r) (range_with_len 0 (length (script_at j r)))

-- a stop of the rank r before its step `at`
abbrev pub stop_at : ℕ → ℕ → Stop
stop_at r at = record { rank = r; at = at; dies = false }

-- the stop that the step k of the rank r is, if it is one, as a stop before that step
abbrev pub own_stops_at : JobView → ℕ → ℕ → List Stop
own_stops_at j r k = if is_stop_at j r k then stop_at r k ∷ [] else []

-- the stops that the rank r has of its own
abbrev pub own_stops_in : JobView → ℕ → List Stop
own_stops_in j r = flat_map (own_stops_at j r) (range_with_len 0 (length (script_at j r)))

-- those of all ranks
abbrev pub own_stops : JobView → List Stop
own_stops j = flat_map (own_stops_in j) (range_with_len 0 j.ranks)

-- a stop of the rank r inside its step `at`
abbrev pub stop_inside : ℕ → ℕ → Stop
stop_inside r at = record { rank = r; at = at; dies = true }

-- the stops of the rank r at its step `at`: before it, and inside it where ranks decide it together
abbrev pub stops_near : JobView → ℕ → ℕ → List Stop
stops_near j r at = stop_at r at ∷ (if is_decided_together (slice_get (script_at j r) at) then stop_inside r at ∷ [] else [])

-- the stops of the rank r: at each step up to that stop, or at each step and after the last one
abbrev pub stops_in : JobView → ℕ → List Stop
stops_in j r = flat_map (stops_near j r) (range_with_len 0 (last_place j r + 1))

-- those of all ranks
abbrev pub all_stops : JobView → List Stop
all_stops j = flat_map (stops_in j) (range_with_len 0 j.ranks)

-- this stop with each of those of a higher rank
abbrev pub pairs_of : List Stop → Stop → List Place
pairs_of stops first = map (Two first) (filter (λ (second : Stop). nat_lt first.rank second.rank) stops)

-- the places with two stops
abbrev pub twos : List Stop → List Place
twos stops = flat_map (pairs_of stops) stops

-- these places, where at least so many stops are allowed
abbrev pub if_allowed : ℕ → ℕ → List Place → List Place
if_allowed least stops places = if nat_le least stops then places else []

-- The places of a job with at most so many stops: with none, then with one by rank and step, then with two by those of the first, and
-- then of the second.
abbrev pub places_of : ℕ → JobView → List Place
places_of stops j = Nowhere ∷ [] ++ if_allowed 1 stops (map One (all_stops j)) ++ if_allowed 2 stops (twos (all_stops j))
