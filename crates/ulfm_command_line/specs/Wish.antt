-- What the words of a command line say in names of a job's steps: what of its outcomes is told, and where ranks stop.
use Rattle.std.specs.Prelude.{Bool, false, List, Option, Some, None, codes, is_some, option_map, if◌then◌else◌}
use Rattle.clap.specs.Words.{Row, Text, first_of}
use Rattle.ulfm_command_line.specs.CommandLine.{asked, is_flagged}
use Rattle.ulfm_job.specs.Text.{place_of_text}
use Rattle.ulfm_command_line.specs.declared.wish.Choice.{Choice}
use Rattle.ulfm_command_line.specs.declared.wish.Wish.{Wish}

-- the steps whose lines a list has, where some are asked for: those that a text names, and notes
pub record ChoiceView : Type 0 where
  pub only : Option Text
  pub has_notes : Bool

-- the answers that a schedule is to show, where one is asked for, the lines of a list, and where ranks stop, if that isn't said by numbers
pub record WishView : Type 0 where
  pub show : Option Text
  pub choice : ChoiceView
  pub stop : Option Text

-- what contracts see of them
abbrev pub choice_view : Choice → ChoiceView
choice_view choice = record { only = option_map (λ s. s.now) choice.only; has_notes = choice.has_notes }

-- of all
abbrev pub wish_view : Wish → WishView
wish_view wish = record { show = option_map (λ s. s.now) wish.show; choice = choice_view wish.choice; stop = option_map (λ s. s.now) wish.stop }

-- the lines that the options of a command ask for
abbrev pub choice_of : List Row → ChoiceView
choice_of rows = record { only = first_of (codes "only") rows; has_notes = is_flagged (codes "notes") rows }

-- a text, where it is no place by the numbers of steps
abbrev pub unnumbered : Option Text → Option Text
unnumbered None = None
unnumbered (Some text) = if is_some (place_of_text text) then None else Some text

-- what they ask for
abbrev pub wish_of : List Row → WishView
wish_of rows = record { show = first_of (codes "show") rows; choice = choice_of rows; stop = unnumbered (first_of (codes "stop") rows) }

-- what a subcommand and its options ask for: without a subcommand, all lines of a list
abbrev pub wish_in : Option (Text × List Row) → WishView
wish_in None = record { show = None; choice = record { only = None; has_notes = false }; stop = None }
wish_in (Some p) = wish_of p.1

-- what the words of a command line ask for
abbrev pub wish_asked : List Text → WishView
wish_asked words = wish_in (asked words)
