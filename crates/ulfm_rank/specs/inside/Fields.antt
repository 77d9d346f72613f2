-- What holds of the parts of a rank, each beside the log.
use Rattle.std.specs.Prelude.{◌≡◌, ℕ, Bool, false, List, not, ◌&&◌}
use Rattle.ulfm_base.specs.declared.item.Item.{Item}
use Rattle.ulfm_base.specs.declared.item.Item.TheVariants.{Letter as Mail, Revoke}
use Rattle.ulfm_base.specs.declared.pattern.Pattern.{Pattern}
use Rattle.ulfm_base.specs.declared.pattern.Source.{Source}
use Rattle.ulfm_base.specs.declared.pattern.Source.TheVariants.{One, Any}
use Rattle.ulfm_base.specs.Group.{is_member}
use Rattle.ulfm_base.specs.Pattern.{is_any}
use Rattle.ulfm_fault.specs.Facts.{FaultState, acknowledged_in, is_revoked_in, has_unacked}
use Rattle.ulfm_log.specs.declared.entry.Entry.{Entry}
use Rattle.ulfm_log.specs.Facts.{known_of, acknowledged_of, is_revoked}

-- the failures known, the totals acknowledged and the contexts marked as revoked are those that the log tells
pub record HasFaults (log : List Entry) (facts : FaultState) : Type 0 where
  pub knows : facts.known ≡ known_of log
  pub acknowledges : (c : ℕ) → acknowledged_in facts c ≡ acknowledged_of log c
  pub marks : (c : ℕ) → is_revoked_in facts c ≡ is_revoked log c

-- the source names a rank that is known to have failed
abbrev pub names_known : FaultState → Source → Bool
names_known facts (One rank) = is_member facts.known rank.number
names_known facts (Any members) = false

-- an unpaired receive of this pattern pends, on a communicator of this group
abbrev pub pends_by : FaultState → List ℕ → Pattern → Bool
pends_by facts group pattern = is_any pattern.source && (not (is_revoked_in facts pattern.context.number) && has_unacked facts group pattern.context.number)

-- the context of a letter or of a revocation is revoked
abbrev pub was_revoked_in : FaultState → Item → Bool
was_revoked_in facts (Mail letter) = is_revoked_in facts letter.envelope.context.number
was_revoked_in facts (Revoke context) = is_revoked_in facts context.number
was_revoked_in facts _ = false
