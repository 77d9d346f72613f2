-- What holds at a place of what a job asks only before the steps of a name.
use Rattle.std.specs.Prelude.{ℕ, ◌==◌, ◌&&◌, ◌||◌, nat_le, Bool, false, not, List, [], ◌++◌, filter, length, map, slice_index_or, if◌then◌else◌}
use Rattle.std.specs.List.{list_all, list_any, range_with_len}
use Rattle.std.specs.Option.{option_map_or}
use Rattle.ulfm_answer.specs.Reacting.{is_of}
use Rattle.ulfm_job.specs.declared.clause.Clause.{Clause}
use Rattle.ulfm_job.specs.Job.{JobView}
use Rattle.ulfm_job.specs.Place.{before, expecting, stops_of}
use Rattle.ulfm_job.specs.Places.{own_stops}
use Rattle.ulfm_job.specs.declared.place.Place.{Place}
use Rattle.ulfm_job.specs.declared.stop.Stop.{Stop}
use Rattle.ulfm_reader.specs.Reacting.{named}
use Rattle.ulfm_reader.specs.declared.name.Name.{Name}
use Rattle.ulfm_reader.specs.declared.proviso.Proviso.{Proviso}
use Rattle.ulfm_reader.specs.declared.subject.Subject.{Subject}
use Rattle.ulfm_reader.specs.declared.subject.Subject.TheVariants as of
use Rattle.ulfm_command_line.specs.AskedFor.{Asked}

-- A stop lies before the steps of a name: its rank has one, and no more steps come before the stop than before that step. A rank that dies inside
-- that step doesn't stop before it.
abbrev pub lies_before : List Name → List ℕ → Stop → Bool
lies_before names text stop = option_map_or (λ at. nat_le (before stop) at) (named names stop.rank text) false

-- each of these stops does
abbrev pub lie_before : List Name → List ℕ → List Stop → Bool
lie_before names text stops = list_all (lies_before names text) stops

-- all stops of a job at a place: its own, and those of the place
abbrev pub stops_at : Place → JobView → List Stop
stops_at place j = own_stops j ++ stops_of place

-- the two are the same
abbrev pub are_same : Subject → Subject → Bool
are_same (of.Step rank at) (of.Step own number) = rank == own && at == number
are_same (of.Row row) (of.Row number) = row == number
are_same _ _ = false

-- the proviso is about this
abbrev pub is_about : Subject → Proviso → Bool
is_about subject p = are_same subject p.subject

-- it is about something else, or each of these stops lies before the steps of its name
abbrev pub holds_if_about : List Name → List Stop → Subject → Proviso → Bool
holds_if_about names stops subject p = not (is_about subject p) || lie_before names p.before stops

-- what a job asks holds where these stops are: by each of its provisos
abbrev pub holds : Asked → List Stop → Subject → Bool
holds asked stops subject = list_all (holds_if_about asked.names stops subject) asked.provisos

-- what a proviso is about holds at a place, by this proviso
abbrev pub holds_at : Place → Asked → Proviso → Bool
holds_at place asked p = lie_before asked.names p.before (stops_at place asked.job)

-- all that a job asks holds where these stops are
abbrev pub all_hold : Asked → List Stop → Bool
all_hold asked stops = list_all (λ (p : Proviso). lie_before asked.names p.before stops) asked.provisos

-- the clause is one of what its step expects where these stops are
abbrev pub is_expected : Asked → List Stop → Clause → Bool
is_expected asked stops c = holds asked stops (of.Step c.rank c.at)

-- a step of a rank expects some answers where these stops are
abbrev pub expects : Asked → List Stop → ℕ → ℕ → Bool
expects asked stops rank step = list_any (λ (c : Clause). is_of rank step c && is_expected asked stops c) asked.job.expected

-- the row of this number, without its answers where it doesn't hold
abbrev pub held_row : Asked → List Stop → ℕ → List Clause
held_row asked stops number = if holds asked stops (of.Row number) then slice_index_or asked.rows number [] else []

-- what was read, as far as it holds where these stops are
abbrev pub held : List Stop → Asked → Asked
held stops asked = record asked {
  job = expecting (filter (is_expected asked stops) asked.job.expected) asked.job;
  rows = map (held_row asked stops) (range_with_len 0 (length asked.rows));
}

-- what was read, as far as it holds at a place
abbrev pub held_at : Place → Asked → Asked
held_at place asked = held (stops_at place asked.job) asked
