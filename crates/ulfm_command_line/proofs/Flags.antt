-- Two flags.
use Rattle.std.proofs.Common.{Bool, ◌||◌}

-- one of two flags is set
abbrev pub either : Bool → Bool → Bool
either a b = a || b
