-- Which replies threads work on.
use Rattle.std.specs.Prelude.{Bool, true, false}
use Rattle.ulfm_command_line.specs.declared.command.Wanted.{Wanted}
use Rattle.ulfm_command_line.specs.declared.command.Wanted.TheVariants.{Run, Outcomes}

-- threads work on the reply to what the words ask for
abbrev pub needs_threads : Wanted → Bool
needs_threads (Run options) = true
needs_threads (Outcomes options) = true
needs_threads _ = false
