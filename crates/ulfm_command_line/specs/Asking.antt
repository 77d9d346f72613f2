-- Which rows of `never` are looked at.
use Rattle.std.specs.Prelude.{◌&&◌, nat_lt, Bool, not, List, length}
use Rattle.std.specs.List.{list_all}
use Rattle.ulfm_job.specs.Job.{JobView, may_leave}
use Rattle.ulfm_job.specs.declared.clause.Clause.{Clause}

-- a row is looked at: it has answers, and none of them is that of a step inside which its rank may die
abbrev pub is_looked_at : JobView → List Clause → Bool
is_looked_at job row = nat_lt 0 (length row) && list_all (λ (c : Clause). not (may_leave job c.rank c.step)) row
