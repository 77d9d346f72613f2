-- What a rank knows of failures and revocations (ULFM, `MPI_Comm_get_failed`, `MPI_Comm_ack_failed`, `MPI_Comm_revoke`).
use Rattle.std.specs.Prelude.{◌≡◌, ℕ, Bool, List, length, min, max, nat_lt, ⊤}
use Rattle.ulfm_base.specs.Group.{intersection}
use Rattle.ulfm_base.specs.Table.{count_at, is_marked}

-- the ranks known to have failed, in the order of their first notices; by the number of a context, how many failures
-- were acknowledged there, and which are revoked; and whether there is room for one acknowledgement and one revocation
pub record FaultState : Type 0 where
  pub known : List ℕ
  pub acknowledged : List (ℕ × ℕ)
  pub revoked : List (ℕ × ⊤)
  pub room : Bool

-- as much is known, whatever room there is
pub record KnowsSame (old new : FaultState) : Type 0 where
  pub known : new.known ≡ old.known
  pub acknowledged : new.acknowledged ≡ old.acknowledged
  pub revoked : new.revoked ≡ old.revoked

-- the known failures among the members of a group, in the order of the notices
abbrev pub known_in : FaultState → List ℕ → List ℕ
known_in facts group = intersection facts.known group

-- the total acknowledged of the context c
abbrev pub acknowledged_in : FaultState → ℕ → ℕ
acknowledged_in facts c = count_at facts.acknowledged c

-- the context c is revoked
abbrev pub is_revoked_in : FaultState → ℕ → Bool
is_revoked_in facts c = is_marked facts.revoked c

-- what an acknowledgement of the first n known failures of a group answers: never fewer than before
abbrev pub ack_answer : FaultState → List ℕ → ℕ → ℕ → ℕ
ack_answer facts group c n = max (acknowledged_in facts c) (min n (length (known_in facts group)))

-- more failures are known in a group than were acknowledged of its context c
abbrev pub has_unacked : FaultState → List ℕ → ℕ → Bool
has_unacked facts group c = nat_lt (acknowledged_in facts c) (length (known_in facts group))
