-- The commands with their options, by clap's rules.
use Rattle.std.specs.Prelude.{ℕ, Some, codes, true}
use Rattle.clap.specs.declared.builder.action.ArgAction.TheVariants.{Append, SetTrue}
use Rattle.clap.specs.declared.builder.value_parser.ValueParser.TheVariants.{Unsigned}
use Rattle.clap.specs.Words.{App, Rule, Text, new_app, new_rule, with_rule, with_subcommand}

-- the words that name files, as many as there are
abbrev pub file_rule : Rule
file_rule = record (new_rule (codes "file")) { value_names = 1; action = Some Append }

-- the flag `--json`
abbrev pub json_rule : Rule
json_rule = record (new_rule (codes "json")) { long = Some (codes "json"); action = Some SetTrue }

-- a command with what each of them has: the flag `--json`, and files
abbrev pub of_jobs : App → App
of_jobs app = with_rule (with_rule app json_rule) file_rule

-- the command `check`
abbrev pub check_app : App
check_app = of_jobs (new_app (codes "check"))

-- the flag `--strict`
abbrev pub strict_rule : Rule
strict_rule = record (new_rule (codes "strict")) { long = Some (codes "strict"); action = Some SetTrue }

-- the command `ulfm`, to which its subcommands come
abbrev pub plain_app : App
plain_app = new_app (codes "ulfm")

-- the command `ulfm`, which tells its version, and wants a subcommand
abbrev pub demanding_app : App
demanding_app = record plain_app { top = record (plain_app.top) { has_version = true; subcommand_required = true } }

-- the option `--carrier` with one value, which has to be there
abbrev pub carrier_rule : Rule
carrier_rule = record (new_rule (codes "carrier")) { long = Some (codes "carrier"); value_names = 1; required = true }

-- the most turns that `--turns` can give a job, as its own key
abbrev pub most_turns : ℕ
most_turns = 10000000

-- the most runs that `--repeat` can ask for
abbrev pub most_runs : ℕ
most_runs = 10000

-- an option whose value is a number, at least 1
abbrev pub number_rule : Text → ℕ → Rule
number_rule name most = record (new_rule name) { long = Some name; value_names = 1; parser = Some (Unsigned 1 most) }

-- the option `--turns`
abbrev pub turns_rule : Rule
turns_rule = number_rule (codes "turns") most_turns

-- the option `--stop` with one value
abbrev pub stop_rule : Rule
stop_rule = record (new_rule (codes "stop")) { long = Some (codes "stop"); value_names = 1 }

-- a flag of this name
abbrev pub flag_rule : Text → Rule
flag_rule name = record (new_rule name) { long = Some name; action = Some SetTrue }

-- a command with the option `--stop`, with the flag `--mpi`, and with what each of them has
abbrev pub of_stopped : App → App
of_stopped app = of_jobs (with_rule (with_rule app stop_rule) (flag_rule (codes "mpi")))

-- the command `replay` with its options
abbrev pub replay_app : App
replay_app = of_stopped (with_rule (with_rule (new_app (codes "replay")) strict_rule) turns_rule)

-- the flag `--brief`
abbrev pub brief_rule : Rule
brief_rule = record (new_rule (codes "brief")) { long = Some (codes "brief"); action = Some SetTrue }

-- the command `run` with its options
abbrev pub run_app : App
run_app = of_stopped (with_rule (with_rule (with_rule (with_rule (with_rule (new_app (codes "run")) carrier_rule) strict_rule) turns_rule) (number_rule (codes "repeat") most_runs)) brief_rule)

-- the command `sweep`
abbrev pub sweep_app : App
sweep_app = of_jobs (new_app (codes "sweep"))

-- the most states that `--limit` can allow
abbrev pub most_states : ℕ
most_states = 100000000

-- the most states that are looked at where there is no `--limit`
abbrev pub usual_states : ℕ
usual_states = 1000000

-- the flag `--progress`
abbrev pub progress_rule : Rule
progress_rule = record (new_rule (codes "progress")) { long = Some (codes "progress"); action = Some SetTrue }

-- the option `--show` with one value
abbrev pub show_rule : Rule
show_rule = record (new_rule (codes "show")) { long = Some (codes "show"); value_names = 1 }

-- the option `--html` with one value
abbrev pub html_rule : Rule
html_rule = record (new_rule (codes "html")) { long = Some (codes "html"); value_names = 1 }

-- the option `--only` with one value
abbrev pub only_rule : Rule
only_rule = record (new_rule (codes "only")) { long = Some (codes "only"); value_names = 1 }

-- a command with the forms of a picture: the flags `--mermaid` and `--text`
abbrev pub of_pictures : App → App
of_pictures app = with_rule (with_rule app (flag_rule (codes "mermaid"))) (flag_rule (codes "text"))

-- a command with the flag `--draw`, and with the forms of a picture
abbrev pub of_schedules : App → App
of_schedules app = of_pictures (with_rule app (flag_rule (codes "draw")))

-- the command `draw` with its options
abbrev pub draw_app : App
draw_app = of_stopped (of_pictures (with_rule (new_app (codes "draw")) turns_rule))

-- the most stops of a place
abbrev pub most_stops : ℕ
most_stops = 2

-- the most threads that `--threads` can ask for
abbrev pub most_threads : ℕ
most_threads = 64

-- the option `--stops`
abbrev pub stops_rule : Rule
stops_rule = number_rule (codes "stops") most_stops

-- a command with what chooses lines of a list: the option `--only` and the flag `--notes`
abbrev pub of_chosen : App → App
of_chosen app = with_rule (with_rule app only_rule) (flag_rule (codes "notes"))

-- a command with what tells people of lists, the flag `--color` and the option `--html`, and with those
abbrev pub of_told : App → App
of_told app = of_chosen (with_rule (with_rule app (flag_rule (codes "color"))) html_rule)

-- a command with the options of places, `--stops` and `--threads`, and with these
abbrev pub of_places : App → App
of_places app = of_told (with_rule (with_rule app stops_rule) (number_rule (codes "threads") most_threads))

-- the command `places` with its option
abbrev pub places_app : App
places_app = of_jobs (with_rule (new_app (codes "places")) stops_rule)

-- the command `expand`
abbrev pub expand_app : App
expand_app = of_jobs (new_app (codes "expand"))

-- the command `outcomes` with its options
abbrev pub outcomes_app : App
outcomes_app = of_stopped (of_places (of_schedules (with_rule (with_rule (with_rule (with_rule (with_rule (new_app (codes "outcomes")) show_rule) brief_rule) strict_rule) (number_rule (codes "limit") most_states)) progress_rule)))

-- the whole command line
abbrev pub tool_app : App
tool_app = with_subcommand (with_subcommand (with_subcommand (with_subcommand (with_subcommand (with_subcommand (with_subcommand (with_subcommand demanding_app check_app.top) replay_app.top) run_app.top) sweep_app.top) outcomes_app.top) places_app.top) expand_app.top) draw_app.top
