-- What is said in place of a reply.
use Rattle.std.specs.Prelude.{◌≡◌, ⊤}
use Rattle.clap.specs.declared.error.kind.ErrorKind.{ErrorKind}
use Rattle.clap.specs.Words.{Kinds, IsAmong}
use Rattle.ulfm_command_line.specs.CommandLine.{status_of}
use Rattle.ulfm_command_line.specs.declared.unfollowed.Unfollowed.{Unfollowed}
use Rattle.ulfm_command_line.specs.declared.unfollowed.Unfollowed.TheVariants.{OutOfMemory, Help, Usage}

-- what is said of a kind of fault: help is no failure
abbrev pub IsToldAs : ErrorKind → Unfollowed → Type 0
IsToldAs kind OutOfMemory = ⊤
IsToldAs kind (Help text) = status_of kind ≡ 0
IsToldAs kind (Usage text) = status_of kind ≡ 2

-- what is said is of a kind that is among the faults, where memory doesn't run out
abbrev pub IsTold : Kinds → Unfollowed → Type 0
IsTold kinds OutOfMemory = ⊤
IsTold kinds (Help text) = (kind : ErrorKind) × IsAmong kind kinds × (status_of kind ≡ 0)
IsTold kinds (Usage text) = (kind : ErrorKind) × IsAmong kind kinds × (status_of kind ≡ 2)
