-- What a text asks for, as it is read.
use Rattle.std.specs.Prelude.{List}
use Rattle.ulfm_job.specs.declared.clause.Clause.{Clause}
use Rattle.ulfm_job.specs.Job.{JobView}
use Rattle.ulfm_reader.specs.JobText.{Reading, rows_of}
use Rattle.ulfm_reader.specs.Plan.{plan_of}
use Rattle.ulfm_reader.specs.declared.filed.Filed.{Filed}
use Rattle.ulfm_reader.specs.declared.name.Name.{Name}
use Rattle.ulfm_reader.specs.declared.proviso.Proviso.{Proviso}
use Rattle.ulfm_reader.specs.declared.reading.Reading.{Reading as Kept}

-- what was read of a text: its job, the rows of answers of which no run may have all, the names of steps, the place in the file from which each
-- comes, and what of this is asked only before the steps of a name
pub record Asked : Type 0 where
  pub job : JobView
  pub rows : List (List Clause)
  pub names : List Name
  pub filed : List Filed
  pub provisos : List Proviso

-- what was read of a text, with its plan
abbrev pub reading_as : Asked → Reading
reading_as asked = record { plan = plan_of asked.job; never = asked.rows; names = asked.names; filed = asked.filed; provisos = asked.provisos }

-- what was read, as it is kept
abbrev pub asked_view : Kept → Asked
asked_view kept = record { job = kept.job; rows = rows_of kept.never.items; names = kept.names.items; filed = kept.filed.items; provisos = kept.provisos.items }
