use Rattle.std.proofs.Common.{◌≡◌, ◌++◌, string_bytes, take}
use Rattle.ulfm_outcomes_reply.specs.EachPlace.{places_past}
use Rattle.ulfm_outcomes_reply.proofs.each_place.push_places_past.Given as goal

abbrev pub invariant-loop-place : goal.invariant-loop-place
invariant-loop-place g l = string_bytes l.text ≡ string_bytes l.initial.text ++ places_past l.search.form l.search.options.limit (take l.place-index l.places)
