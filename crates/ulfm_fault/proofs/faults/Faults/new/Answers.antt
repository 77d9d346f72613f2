use Rattle.std.proofs.Common.{ℕ, List, ap}
use Rattle.ulfm_base.specs.Table.{Marks, count_at, is_marked}
use Rattle.ulfm_fault.proofs.faults.Faults.new.Goals as goal

pub returns-clause-none_acknowledged : goal.returns-clause-none_acknowledged
returns-clause-none_acknowledged c k = ap (λ (counts : List (ℕ × ℕ)). count_at counts k) c.new.ensures

pub returns-clause-none_revoked : goal.returns-clause-none_revoked
returns-clause-none_revoked c k = ap (λ (marks : Marks). is_marked marks k) c.new-2.ensures
