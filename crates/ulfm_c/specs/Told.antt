-- What C is told.
use Rattle.std.specs.Prelude.{◌≡◌, ℕ, List, [], ◌∷◌, ◌++◌, length, min, take, drop, get_or}
use Rattle.ulfm_c.specs.Calls.{number_of}
use Rattle.ulfm_c.specs.declared.c_status.CGroup.{CGroup}
use Rattle.ulfm_c.specs.declared.c_status.CStatus.{CStatus}
use Rattle.ulfm_log.specs.declared.entry.Cancel.{Cancel}
use Rattle.ulfm_log.specs.declared.entry.Cancel.TheVariants.{Cancelled, Completed}
use Rattle.ulfm_log.specs.declared.entry.Status.{Status}
use Rattle.ulfm_log.specs.declared.entry.TestAnswer.{TestAnswer}
use Rattle.ulfm_log.specs.declared.entry.TestAnswer.TheVariants.{Done, Over, Pending, NotYet}

-- the world rank of the member at a position, or 255
abbrev pub member_at : List ℕ → ℕ → ℕ
member_at group k = get_or group k 255

-- a group: its size, and its members by their positions
abbrev pub listed : List ℕ → CGroup
listed group = record {
  size = length group;
  members = member_at group 0 ∷ member_at group 1 ∷ member_at group 2 ∷ member_at group 3 ∷ member_at group 4 ∷ member_at group 5 ∷ member_at group 6 ∷ member_at group 7 ∷ [];
}

-- what is told of a letter that came (MPI 4.0, 3.2.5)
abbrev pub status_of : Status → CStatus
status_of s = record { source = s.source; tag = s.tag.number; length = s.length; error = 0; cancelled = 0 }

-- what is told where none came
abbrev pub ended : ℕ → ℕ → CStatus
ended error cancelled = record { source = 0; tag = 0; length = 0; error = error; cancelled = cancelled }

-- the room after bytes were written into it, as many as it has places for
abbrev pub written : List ℕ → List ℕ → List ℕ
written bytes room = let count = min (length bytes) (length room) in take count bytes ++ drop count room

-- the code, the status and the body tell this answer of a receive
abbrev pub Tells : TestAnswer → ℕ → CStatus → CStatus → List ℕ → List ℕ → Type 0
Tells (Done told bytes) code before status room body = (code ≡ 0) × (status ≡ status_of told) × (body ≡ written bytes room)
Tells (Over e) code before status room body = (code ≡ 0) × (status ≡ ended (number_of e) 0) × (body ≡ room)
Tells NotYet code before status room body = (code ≡ 17) × (status ≡ before) × (body ≡ room)
Tells Pending code before status room body = (code ≡ 18) × (status ≡ before) × (body ≡ room)

-- they tell this answer of a cancel
abbrev pub TellsCancel : Cancel → ℕ → CStatus → CStatus → List ℕ → List ℕ → Type 0
TellsCancel Cancelled code before status room body = (code ≡ 0) × (status ≡ ended 0 1) × (body ≡ room)
TellsCancel (Completed answer) code before status room body = Tells answer code before status room body
