-- How contracts see the communicators of a rank.
use Rattle.std.specs.Prelude.{ℕ, List}
use Rattle.ulfm_base.specs.declared.context.Context.{Context}

-- a context by its number, with its group
abbrev pub by_number : Context × List ℕ → ℕ × List ℕ
by_number comm = (comm.0.number, comm.1)
