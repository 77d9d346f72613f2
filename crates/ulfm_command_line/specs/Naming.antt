-- Places by the names of steps.
use Rattle.std.specs.Prelude.{◌==◌, ◌||◌, ℕ, Bool, List, length, ◌++◌, Option, Some, None, codes, nat_lt, option_map, if◌then◌else◌}
use Rattle.std.specs.Char.{is_ascii_alphanumeric}
use Rattle.std.specs.Fmt.{decimal}
use Rattle.std.specs.List.{after_first, before_first, find, list_all, position_or_len}
use Rattle.std.specs.Option.{option_or}
use Rattle.std.specs.Str.{bytes_eq}
use Rattle.ulfm_reader.specs.declared.name.Name.{Name}
use Rattle.ulfm_job.specs.Text.{is_starred, place_of_text, two_by, unstarred}
use Rattle.ulfm_job.specs.declared.place.Place.{Place}
use Rattle.ulfm_job.specs.declared.place.Place.TheVariants.{One}
use Rattle.ulfm_job.specs.declared.stop.Stop.{Stop}

-- a byte of a place: one of a name, a dot, a star or a plus
abbrev pub is_place_byte : ℕ → Bool
is_place_byte c = is_ascii_alphanumeric c || c == 95 || c == 45 || c == 46 || c == 42 || c == 43

-- a text may be a place by the names of steps
abbrev pub may_name : List ℕ → Bool
may_name text = list_all is_place_byte text

-- how a step is named behind its rank
abbrev pub label_of : Name → List ℕ
label_of name = decimal name.rank ++ codes "." ++ name.text

-- this text names the step
abbrev pub is_labelled : List ℕ → Name → Bool
is_labelled text name = bytes_eq (label_of name) text

-- a stop at the step of a name: before it, or inside it
abbrev pub stop_at : Bool → Name → Stop
stop_at dies name = record { rank = name.rank; at = name.at; dies = dies }

-- the stop of a text that names a step, with a star behind the name where the rank dies inside that step
abbrev pub stop_by_name : List Name → List ℕ → Option Stop
stop_by_name names text = option_map (stop_at (is_starred text)) (find (is_labelled (unstarred text)) names)

-- the stop of a place that has one alone
abbrev pub only_stop : Option Place → Option Stop
only_stop (Some (One stop)) = Some stop
only_stop _ = None

-- the stop of a text: by the number of a step, or else by its name
abbrev pub stop_named : List Name → List ℕ → Option Stop
stop_named names text = option_or (only_stop (place_of_text text)) (stop_by_name names text)

-- the place of a text: one stop, or two behind and before a plus, whose ranks rise
abbrev pub place_named : List Name → List ℕ → Option Place
place_named names text =
    if nat_lt (position_or_len (λ c. c == 43) text) (length text)
    then two_by (stop_named names (before_first (λ c. c == 43) text)) (stop_named names (after_first (λ c. c == 43) text))
    else option_map One (stop_named names text)
