-- What becomes of a receive when it is posted, when a rank fails, and when a context is revoked.
use Rattle.std.specs.Prelude.{ℕ, Bool, true, false, Option, Some, None, if◌then◌else◌, ◌==◌, ◌&&◌}
use Rattle.ulfm_base.specs.Pattern.{names}
use Rattle.ulfm_base.specs.declared.envelope.Letter.{Letter}
use Rattle.ulfm_rank.specs.declared.request.Fate.{Fate}
use Rattle.ulfm_rank.specs.declared.request.Fate.TheVariants.{Waiting, Paired, Failed, Cleared}
use Rattle.ulfm_rank.specs.declared.request.Request.{Request}

-- what becomes of a receive at its post
abbrev pub fate_of : Option Letter → Bool → Fate
fate_of (Some letter) gone = Paired letter
fate_of None gone = if gone then Failed else Waiting

-- the receive still waits
abbrev pub is_waiting : Fate → Bool
is_waiting Waiting = true
is_waiting _ = false

-- a receive that waits for a rank that failed is over
abbrev pub over_named : ℕ → Request → Request
over_named s request = if is_waiting request.fate && names request.pattern.source s then record { pattern = request.pattern; fate = Failed } else request

-- a receive that waits on a revoked context is over
abbrev pub over_context : ℕ → Request → Request
over_context c request = if is_waiting request.fate && (request.pattern.context.number == c) then record { pattern = request.pattern; fate = Cleared } else request
