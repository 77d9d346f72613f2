-- How places are written.
use Rattle.std.specs.Prelude.{ℕ, ◌==◌, ◌&&◌, nat_le, nat_lt, Bool, List, [], ◌++◌, length, Option, Some, None, option_map, codes, if◌then◌else◌}
use Rattle.std.specs.Fmt.{decimal}
use Rattle.std.specs.List.{after_first, before_first, position_or_len}
use Rattle.std.specs.Str.{bytes_eq}
use Rattle.std.specs.Str.Parse.{digits_value}
use Rattle.ulfm_job.specs.declared.place.Place.{Place}
use Rattle.ulfm_job.specs.declared.place.Place.TheVariants.{Nowhere, One, Two}
use Rattle.ulfm_job.specs.declared.stop.Stop.{Stop}

-- a star, or nothing
abbrev pub star_if : Bool → List ℕ
star_if dies = if dies then codes "*" else []

-- a stop: its rank, a dot, the number of its step, and a star where the rank dies inside that
abbrev pub stop_text : Stop → List ℕ
stop_text stop = decimal stop.rank ++ codes "." ++ decimal stop.at ++ star_if stop.dies

-- a place: a hyphen, or its stops
abbrev pub place_text : Place → List ℕ
place_text Nowhere = codes "-"
place_text (One stop) = stop_text stop
place_text (Two first second) = stop_text first ++ codes "+" ++ stop_text second

-- the number of a text, at most so much, in the digits in which it is written
abbrev pub number_of_text : ℕ → List ℕ → Option ℕ
number_of_text most text = if nat_le (digits_value 10 text) most && bytes_eq text (decimal (digits_value 10 text)) then Some (digits_value 10 text) else None

-- a stop of these numbers, if they are some
abbrev pub stop_by : Option ℕ → Option ℕ → Bool → Option Stop
stop_by (Some rank) (Some at) dies = Some (record { rank = rank; at = at; dies = dies })
stop_by _ _ dies = None

-- a text ends with its first star
abbrev pub is_starred : List ℕ → Bool
is_starred text = bytes_eq text (before_first (λ c. c == 42) text ++ codes "*")

-- what stands before that star
abbrev pub unstarred : List ℕ → List ℕ
unstarred text = if is_starred text then before_first (λ c. c == 42) text else text

-- the stop of a rank's text and a step's: the number of the step, with a star behind it or without one
abbrev pub stop_of_parts : List ℕ → List ℕ → Option Stop
stop_of_parts rank step = stop_by (number_of_text 255 rank) (number_of_text 65535 (unstarred step)) (is_starred step)

-- the stop of a text: what stands before the dot is the rank, and what stands behind it the step
abbrev pub stop_of_text : List ℕ → Option Stop
stop_of_text text = stop_of_parts (before_first (λ c. c == 46) text) (after_first (λ c. c == 46) text)

-- a place of two stops, if they are some, and their ranks rise
abbrev pub two_by : Option Stop → Option Stop → Option Place
two_by (Some first) (Some second) = if nat_lt first.rank second.rank then Some (Two first second) else None
two_by _ _ = None

-- the place of a text that has a plus, or hasn't
abbrev pub stops_of_text : List ℕ → Option Place
stops_of_text text =
    if nat_lt (position_or_len (λ c. c == 43) text) (length text)
    then two_by (stop_of_text (before_first (λ c. c == 43) text)) (stop_of_text (after_first (λ c. c == 43) text))
    else option_map One (stop_of_text text)

-- the place of a text
abbrev pub place_of_text : List ℕ → Option Place
place_of_text text = if bytes_eq text (codes "-") then Some Nowhere else stops_of_text text
