-- What the words of a command line ask for.
use Rattle.std.specs.Prelude.{◌≡◌, ◌<◌, ◌≤◌, ◌⊎◌, ◌&&◌, ◌||◌, ⊤, ℕ, Bool, List, [], ◌∷◌, Option, Some, None, is_some, not, option_map, codes, false, IfSome, unwrap_or, if◌then◌else◌}
use Rattle.std.specs.Option.{option_and_then, option_map_or, option_or}
use Rattle.std.specs.Str.{bytes_eq}
use Rattle.std.specs.Str.Parse.{digits_value, without_leading_plus}
use Rattle.ulfm_command_line.specs.declared.command.Carrier.{Carrier}
use Rattle.ulfm_command_line.specs.declared.command.Carrier.TheVariants.{Lanes, Shared}
use Rattle.ulfm_command_line.specs.declared.command.ListOptions.{ListOptions}
use Rattle.ulfm_command_line.specs.declared.command.RunOptions.{RunOptions}
use Rattle.ulfm_command_line.specs.declared.command.Wanted.{Wanted}
use Rattle.ulfm_command_line.specs.declared.command.Wanted.TheVariants.{Check, Replay, Run, Sweep, Outcomes, Places, Expand, Draw}
use Rattle.ulfm_forms.specs.declared.style.Style.{Style}
use Rattle.ulfm_forms.specs.declared.style.Style.TheVariants as style
use Rattle.ulfm_forms.specs.declared.form.Form.{Form}
use Rattle.ulfm_forms.specs.declared.form.Form.TheVariants.{Words, Json}
use Rattle.ulfm_forms.specs.declared.wording.Wording.{Wording}
use Rattle.ulfm_forms.specs.declared.wording.Wording.TheVariants.{Plain, Mpi}
use Rattle.ulfm_job.specs.Text.{place_of_text}
use Rattle.ulfm_job.specs.declared.place.Place.{Place}
use Rattle.ulfm_job.specs.declared.place.Place.TheVariants.{Nowhere}
use Rattle.clap.specs.ValueTests.{accepts}
use Rattle.clap.specs.declared.builder.value_parser.ValueParser.TheVariants.{Unsigned}
use Rattle.clap.specs.declared.error.kind.ErrorKind.{ErrorKind}
use Rattle.clap.specs.declared.error.kind.ErrorKind.TheVariants.{DisplayHelp, DisplayVersion, InvalidValue}
use Rattle.clap.specs.Kinds.{or_else}
use Rattle.clap.specs.Words.{Row, Text, Kinds, IsAmong, all_of, first_of, subcommand_of, fault_of}
use Rattle.ulfm_command_line.specs.Naming.{may_name}
use Rattle.ulfm_command_line.specs.Rules.{most_turns, most_runs, most_states, usual_states, most_stops, most_threads, tool_app}

-- the subcommand that the words name, and what was met of its options
unfoldable pub asked : List Text → Option (Text × List Row)
asked words = subcommand_of tool_app words

-- the carrier of a name
abbrev pub carrier_named : Option Text → Option Carrier
carrier_named None = None
carrier_named (Some name) = if bytes_eq name (codes "lanes") then Some Lanes else (if bytes_eq name (codes "shared") then Some Shared else None)

-- the flag of this name was given
abbrev pub is_flagged : Text → List Row → Bool
is_flagged name rows = option_map_or (λ text. bytes_eq text (codes "true")) (first_of name rows) false

-- the flag `--strict` was given
abbrev pub is_strict : List Row → Bool
is_strict rows = is_flagged (codes "strict") rows

-- the flag `--progress` was given
abbrev pub wants_progress : List Row → Bool
wants_progress rows = is_flagged (codes "progress") rows

-- the number that an option was given: the rule of the option refuses all others
abbrev pub number_given : ℕ → Option Text → Option ℕ
number_given most None = None
number_given most (Some text) = if accepts false (Unsigned 1 most) text then Some (digits_value 10 (without_leading_plus text)) else None

-- the turns that `--turns` gives the job, where it is given
abbrev pub turns_in : List Row → Option ℕ
turns_in rows = number_given most_turns (first_of (codes "turns") rows)

-- where a text stops ranks by the numbers of steps: nowhere if it may name steps, which the job settles
abbrev pub place_written : Text → Option Place
place_written text = option_or (place_of_text text) (if may_name text then Some Nowhere else None)

-- where `--stop` stops ranks by the numbers of steps: nowhere if it is left out
abbrev pub place_given : Option Text → Option Place
place_given None = Some Nowhere
place_given (Some text) = place_written text

-- the place of stops that the options of a command name
abbrev pub place_in : List Row → Option Place
place_in rows = place_given (first_of (codes "stop") rows)

-- the options of `run` with a place of stops and a carrier
abbrev pub options_by : List Row → Place → Carrier → RunOptions
options_by rows place carrier = record {
  carrier = carrier;
  place = place;
  is_strict = is_strict rows;
  turns = turns_in rows;
  repeat = number_given most_runs (first_of (codes "repeat") rows);
  is_brief = is_flagged (codes "brief") rows;
}

-- what the options of `run` ask for, where there is a carrier of that name
abbrev pub run_options : List Row → Place → Option RunOptions
run_options rows place = option_map (options_by rows place) (carrier_named (first_of (codes "carrier") rows))

-- the most states that are looked at: those of `--limit`, where it is given
abbrev pub limit_in : List Row → ℕ
limit_in rows = unwrap_or (number_given most_states (first_of (codes "limit") rows)) usual_states

-- the form of a picture
abbrev pub style_of : List Row → Style
style_of rows = if is_flagged (codes "mermaid") rows then style.Mermaid else (if is_flagged (codes "text") rows then style.Text else style.Svg)

-- the form of the picture that is drawn of a schedule, if one is to be
abbrev pub drawn_in : List Row → Option Style
drawn_in rows = if is_flagged (codes "draw") rows then Some (style_of rows) else None

-- the number of stops of `--stops`, where it is given
abbrev pub stops_in : List Row → Option ℕ
stops_in rows = number_given most_stops (first_of (codes "stops") rows)

-- those that `places` is asked for
abbrev pub stops_wanted : List Row → ℕ
stops_wanted rows = unwrap_or (stops_in rows) 1

-- the number of threads of `--threads`, where it is given
abbrev pub threads_in : List Row → Option ℕ
threads_in rows = number_given most_threads (first_of (codes "threads") rows)

-- the option of this name was given
abbrev pub is_given : Text → List Row → Bool
is_given name rows = is_some (first_of name rows)

-- a page is asked for of a file alone
abbrev pub is_page_of_file : List Row → Bool
is_page_of_file rows = not (is_given (codes "html") rows) || is_given (codes "file") rows

-- the options of places go together: `--stops` without `--stop`, `--threads` and `--html` with `--stops`, and `--html` with a file
abbrev pub are_together : List Row → Bool
are_together rows =
    if is_given (codes "stops") rows
    then not (is_given (codes "stop") rows) && is_page_of_file rows
    else not (is_given (codes "threads") rows) && not (is_given (codes "html") rows)

-- what the options of `outcomes` ask for, with a place of stops
abbrev pub list_options : List Row → Place → ListOptions
list_options rows place = record {
  place = place;
  stops = stops_in rows;
  threads = threads_in rows;
  limit = limit_in rows;
  is_strict = is_strict rows;
  wants_progress = wants_progress rows;
  is_brief = is_flagged (codes "brief") rows;
  drawn = drawn_in rows;
}

-- what `outcomes` is asked for, where its options go together
abbrev pub listed : List Row → Place → Option Wanted
listed rows place = if are_together rows then Some (Outcomes (list_options rows place)) else None

-- the command of a name, with its options and a place of stops
abbrev pub named_at : Text → List Row → Place → Option Wanted
named_at name rows place =
    if bytes_eq name (codes "check") then Some Check
    else (if bytes_eq name (codes "replay") then Some (Replay (is_strict rows) (turns_in rows) place)
    else (if bytes_eq name (codes "run") then option_map Run (run_options rows place)
    else (if bytes_eq name (codes "sweep") then Some Sweep
    else (if bytes_eq name (codes "outcomes") then listed rows place
    else (if bytes_eq name (codes "places") then Some (Places (stops_wanted rows))
    else (if bytes_eq name (codes "expand") then Some Expand
    else (if bytes_eq name (codes "draw") then Some (Draw (style_of rows) (turns_in rows) place)
    else None)))))))

-- the command of a name with these options, if `--stop` has a text that may be a place
abbrev pub named : Text → List Row → Option Wanted
named name rows = option_and_then (named_at name rows) (place_in rows)

-- what a subcommand and its options mean
abbrev pub meant : Option (Text × List Row) → Option Wanted
meant None = None
meant (Some p) = named p.0 p.1

-- the files that the words name, in their order
abbrev pub files_in : Option (Text × List Row) → List Text
files_in None = []
files_in (Some p) = unwrap_or (all_of (codes "file") p.1) []

-- the words that a command's options ask for
abbrev pub wording_of : List Row → Wording
wording_of rows = if is_flagged (codes "mpi") rows then Mpi else Plain

-- the form that a command's options ask for
abbrev pub form_of : List Row → Form
form_of rows = if is_flagged (codes "json") rows then Json else Words (wording_of rows)

-- the form that the subcommand's options ask for
abbrev pub form_in : Option (Text × List Row) → Form
form_in None = Words Plain
form_in (Some p) = form_of p.1

-- the form in which the words want what came of a job
abbrev pub form_asked : List Text → Form
form_asked words = form_in (asked words)

-- the fault of words that mean no command, as where there is no carrier of that name, or a text that can't be a place
abbrev pub unmeant : Option Wanted → Kinds
unmeant None = InvalidValue ∷ []
unmeant (Some wanted) = []

-- What is at fault with the words, by clap's rules and then by the names of carriers and the texts of places: nothing where they can be
-- followed, and a wish for help is one.
unfoldable pub faults : List Text → Kinds
faults words = or_else (fault_of tool_app words) (unmeant (meant (asked words)))

-- the words are a command line that is to be followed, and no wish for help
abbrev pub AsksFor : Wanted → List Text → Type 0
AsksFor wanted words = (faults words ≡ []) × (meant (asked words) ≡ Some wanted)

-- the turns that `--turns` gives are those that a job can have
abbrev pub AreTurns : Option ℕ → Type 0
AreTurns turns = IfSome turns (λ n. (0 < n) × (n ≤ most_turns))

-- the numbers of the options of `run` are in their ranges
abbrev pub AreInRange : RunOptions → Type 0
AreInRange options = AreTurns options.turns × IfSome options.repeat (λ n. (0 < n) × (n ≤ most_runs))

-- the limit of `outcomes` is in its range
abbrev pub IsLimit : ℕ → Type 0
IsLimit limit = (0 < limit) × (limit ≤ most_states)

-- the number of stops is one that a place can have
abbrev pub AreStops : Option ℕ → Type 0
AreStops stops = IfSome stops (λ n. (0 < n) × (n ≤ most_stops))

-- the number of threads is in its range
abbrev pub AreThreads : Option ℕ → Type 0
AreThreads threads = IfSome threads (λ n. (0 < n) × (n ≤ most_threads))

-- the numbers of the options of `outcomes` are in their ranges
abbrev pub AreListed : ListOptions → Type 0
AreListed options = IsLimit options.limit × AreStops options.stops × AreThreads options.threads

-- the numbers of what the words ask for are in their ranges
abbrev pub HasRanges : Wanted → Type 0
HasRanges (Replay is_strict turns place) = AreTurns turns
HasRanges (Run options) = AreInRange options
HasRanges (Outcomes options) = AreListed options
HasRanges (Places stops) = (0 < stops) × (stops ≤ most_stops)
HasRanges (Draw style turns place) = AreTurns turns
HasRanges _ = ⊤

-- the status of a kind of fault: help is no failure
abbrev pub status_of : ErrorKind → ℕ
status_of DisplayHelp = 0
status_of DisplayVersion = 0
status_of _ = 2

-- a status of words with these faults: that of one of them, 3 where memory ran out, 4 where the output failed
abbrev pub IsWordsStatus : Kinds → ℕ → Type 0
IsWordsStatus kinds status = ((kind : ErrorKind) × IsAmong kind kinds × (status ≡ status_of kind)) ⊎ (status ≡ 3) ⊎ (status ≡ 4)
