-- What an arrival answers.
use Rattle.std.specs.Prelude.{◌≡◌, ℕ, ⊤, Option, Some, None}
use Rattle.ulfm_base.specs.declared.envelope.Letter.{Letter}
use Rattle.ulfm_match.specs.declared.arrived.Arrived.{Arrived}
use Rattle.ulfm_match.specs.declared.arrived.Arrived.TheVariants.{Paired, Kept}

-- the number of the receive that gets the letter
abbrev pub answered : Arrived → Option ℕ
answered (Paired id letter) = Some id.number
answered Kept = None

-- a letter that is handed on is this one
abbrev pub HandsOn : Arrived → Letter → Type 0
HandsOn (Paired id handed) letter = handed ≡ letter
HandsOn Kept letter = ⊤
