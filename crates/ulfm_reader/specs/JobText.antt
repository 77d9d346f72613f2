-- The job of a text, by cases in the order of the checks.
use Rattle.std.specs.Prelude.{◌≡◌, ◌≢◌, ◌≤◌, ◌⊎◌, ℕ, List, [], ◌∷◌, ◌++◌, length, replicate, slice_index_or, slice_set, Bool, true, ◌&&◌, Option, Some, None, Result, Ok, Err, is_some, map, Vec, if◌then◌else◌, nat_lt, codes}
use Rattle.std.specs.Str.{is_utf8, IsUtf8}
use Rattle.toml.specs.Data.{Data, Items, no_items, item, Members, get_member, as_array, as_table}
use Rattle.toml.specs.Parse.{parse_document}
use Rattle.ulfm_job.specs.declared.fault.Fault.{Fault}
use Rattle.ulfm_job.specs.declared.fault.Fault.TheVariants.{BadKey}
use Rattle.ulfm_job.specs.declared.fault.JobFault.{JobFault}
use Rattle.ulfm_job.specs.declared.fault.JobFault.TheVariants as refused
use Rattle.ulfm_reader.specs.Lines.{Line, written_out}
use Rattle.ulfm_reader.specs.Members.{listed}
use Rattle.ulfm_reader.specs.Keys.{◌>>=◌, required_number, only_keys, in_range}
use Rattle.ulfm_job.specs.declared.clause.Clause.{Clause}
use Rattle.ulfm_job.specs.declared.condition.Condition.{Condition}
use Rattle.ulfm_job.specs.declared.naming.Naming.{Naming}
use Rattle.ulfm_reader.specs.declared.filed.Filed.{Filed}
use Rattle.ulfm_reader.specs.declared.name.Name.{Name}
use Rattle.ulfm_reader.specs.declared.proviso.Proviso.{Proviso}
use Rattle.ulfm_reader.specs.declared.reading.Reading.{Reading as Kept}
use Rattle.std.specs.declared.alloc.Global.{Global}
use Rattle.ulfm_reader.specs.Never.{never_items, never_out, rows_in}
use Rattle.ulfm_reader.specs.Plan.{Order, PlannedStep, Plan, plan_of}
use Rattle.ulfm_reader.specs.Provisos.{provisos_in, step_provisos}
use Rattle.ulfm_reader.specs.Reacting.{names_in, namings_in, conditions_in, expected_in}
use Rattle.ulfm_reader.specs.StepText.{step_of}

-- a fault of the job's own keys
abbrev pub in_job : {A : Type 0} → Result A Fault → Result A JobFault
in_job (Ok x) = Ok x
in_job (Err f) = Err (refused.InJob f)

-- a fault of the step at place k of the file
abbrev pub in_step : {A : Type 0} → ℕ → Result A Fault → Result A JobFault
in_step k (Ok x) = Ok x
in_step k (Err f) = Err (refused.InStep f k)

-- what was read of the steps: those of each rank, their names, their numbers in the file, the communicators that they name, their conditions, what
-- they expect, and of which that holds only before the steps of a name
pub record Draft : Type 0 where
  pub scripts : List (List Order)
  pub names : List Name
  pub filed : List Filed
  pub namings : List Naming
  pub conditions : List Condition
  pub expected : List Clause
  pub provisos : List Proviso

-- nothing was read of so many ranks
abbrev pub blank : ℕ → Draft
blank ranks = record { scripts = replicate ranks []; names = []; filed = []; namings = []; conditions = []; expected = []; provisos = [] }

-- one more step comes last in the script of its rank
abbrev pub placed_in : List (List Order) → PlannedStep → List (List Order)
placed_in scripts s = slice_set scripts s.rank (slice_index_or scripts s.rank [] ++ s.order ∷ [])

-- the step `at` of a rank comes from the place k of the file
abbrev pub filed_at : ℕ → ℕ → ℕ → Filed
filed_at k rank at = record { rank = rank; at = at; place = k }

-- a draft with one more step, that of a place of the file: its name, then its conditions, then what it expects, and where, and then its communicator,
-- where it names one
unfoldable pub drafted : ℕ → Draft → Members → PlannedStep → Result Draft Fault
drafted k draft ms s = do
  names ← names_in draft.names s.rank (length (slice_index_or draft.scripts s.rank [])) (get_member (codes "name") ms)
  conditions ← conditions_in (record { rank = s.rank; at = length (slice_index_or draft.scripts s.rank []); script = slice_index_or draft.scripts s.rank []; names = draft.names }) draft.conditions (get_member (codes "if") ms)
  provisos ← step_provisos s.rank (length (slice_index_or draft.scripts s.rank [])) draft.provisos (get_member (codes "expect") ms)
  expected ← expected_in s.rank (length (slice_index_or draft.scripts s.rank [])) s.order draft.expected (get_member (codes "expect") ms)
  namings ← namings_in (record { rank = s.rank; at = length (slice_index_or draft.scripts s.rank []); script = slice_index_or draft.scripts s.rank []; names = draft.names }) draft.namings (get_member (codes "comm") ms)
  Ok (record { scripts = placed_in draft.scripts s; names = names; filed = draft.filed ++ filed_at k s.rank (length (slice_index_or draft.scripts s.rank [])) ∷ []; namings = namings; conditions = conditions; expected = expected; provisos = provisos })

-- a draft with the step of a table, at a place of the file
abbrev pub draft_of : ℕ → ℕ → Draft → Members → Result Draft Fault
draft_of ranks k draft ms = step_of ranks draft.names ms >>= drafted k draft ms

-- a step that may be no table
abbrev pub step_in : ℕ → ℕ → Draft → Option Members → Result Draft JobFault
step_in ranks k draft None = Err (refused.InStep BadKey k)
step_in ranks k draft (Some ms) = in_step k (draft_of ranks k draft ms)

-- a draft with the step of a place of the file, or its fault with the place
abbrev pub step_at : ℕ → ℕ → Draft → Data → Result Draft JobFault
step_at ranks k draft d = step_in ranks k draft (as_table d)

-- a draft with the steps of these lines, each by the place that its step has in the file
unfoldable pub steps_of : ℕ → Draft → List Line → Result Draft JobFault
steps_of ranks draft [] = Ok draft
steps_of ranks draft (line ∷ lines) = step_at ranks line.place draft line.step >>= (λ more. steps_of ranks more lines)

-- tables alone
abbrev pub are_tables : Items → Bool
are_tables no_items = true
are_tables (item d ds) = is_some (as_table d) && are_tables ds

-- the array of tables at the key `step`, or no steps
abbrev pub tables_in : Option Items → Result Items Fault
tables_in None = Err BadKey
tables_in (Some ds) = if are_tables ds then Ok ds else Err BadKey

-- the items of the key `step`, where it is there
abbrev pub step_items_in : Option Data → Result Items Fault
step_items_in None = Ok no_items
step_items_in (Some d) = tables_in (as_array d)

-- the items of the steps of a table
abbrev pub step_items : Members → Result Items Fault
step_items ms = step_items_in (get_member (codes "step") ms)

-- the job's own keys
pub record Head : Type 0 where
  pub ranks : ℕ
  pub capacity : ℕ
  pub turns : ℕ
  pub steps : Items
  pub never : Option Items

-- the numbers of the top keys, in range
unfoldable pub head_of : Members → Result Head Fault
head_of ms = do
  ranks_key ← required_number (codes "ranks") ms
  capacity_key ← required_number (codes "capacity") ms
  turns_key ← required_number (codes "turns") ms
  steps ← step_items ms
  never ← never_items ms
  keys ← only_keys (codes "ranks" ∷ codes "capacity" ∷ codes "turns" ∷ codes "step" ∷ codes "never" ∷ []) ms
  ranks ← in_range 1 8 ranks_key
  capacity ← in_range 1 64 capacity_key
  turns ← in_range 1 10000000 turns_key
  Ok (record { ranks = ranks; capacity = capacity; turns = turns; steps = steps; never = never })

-- the plan of the job's own keys, and of what was read of its steps, none of which may be given up early
abbrev pub planned_as : Head → Draft → Plan
planned_as h draft = record {
  ranks = h.ranks;
  capacity = h.capacity;
  turns = h.turns;
  scripts = draft.scripts;
  conditions = draft.conditions;
  expected = draft.expected;
  left = [];
  namings = draft.namings;
}

-- what a text asks for: the plan of its job, the rows of answers of which no run may have all, the names of steps, the place in the file
-- from which each comes, and what of this is asked only before the steps of a name
pub record Reading : Type 0 where
  pub plan : Plan
  pub never : List (List Clause)
  pub names : List Name
  pub filed : List Filed
  pub provisos : List Proviso

-- the rows that the lists in memory hold
abbrev pub rows_of : List (Vec Clause Global) → List (List Clause)
rows_of rows = map (λ row. row.items) rows

-- what a text asks for, as it is kept
abbrev pub reading_view : Kept → Reading
reading_view r = record { plan = plan_of r.job; never = rows_of r.never.items; names = r.names.items; filed = r.filed.items; provisos = r.provisos.items }

-- what was read of the job's own keys and of its steps, its rows, and the provisos of both
abbrev pub read_as : Head → Draft → List Proviso → List (List Clause) → Reading
read_as h draft provisos never = record { plan = planned_as h draft; never = never; names = draft.names; filed = draft.filed; provisos = provisos }

-- the rows of a job, as they are written out, by its steps and their names
abbrev pub never_of : Head → Option Items → Draft → Result Reading JobFault
never_of h never draft =
    in_job (provisos_in draft.names draft.provisos never) >>= (λ provisos. in_job (rows_in draft.scripts draft.names never) >>= (λ rows. Ok (read_as h draft provisos rows)))

-- the steps of a job, written out
abbrev pub lines_of : Head → List Line
lines_of h = written_out h.ranks (listed h.steps)

-- what was read of the job's own keys and of its steps, where the rows are still to be written out
abbrev pub rest_of : Head → Draft → Result Reading JobFault
rest_of h draft = in_job (never_out (lines_of h) h.ranks h.never) >>= (λ never. never_of h never draft)

-- what a table asks for: its own keys, how many steps there are, written out, then these steps, and then the rows
unfoldable pub reading_of : Members → Result Reading JobFault
reading_of ms = in_job (head_of ms) >>= (λ h.
    if nat_lt 256 (length (lines_of h)) then Err refused.TooLarge
    else steps_of h.ranks (blank h.ranks) (lines_of h) >>= rest_of h)

-- what a text asks for that may be no document
abbrev pub reading_of_document : Option Members → Result Reading JobFault
reading_of_document None = Err refused.NotToml
reading_of_document (Some ms) = reading_of ms

-- what any bytes ask for
unfoldable pub reading_of_bytes : List ℕ → Result Reading JobFault
reading_of_bytes bytes =
    if nat_lt 1048576 (length bytes) then Err refused.TooLarge
    else if is_utf8 bytes then reading_of_document (parse_document bytes)
    else Err refused.NotToml

-- the job alone
abbrev pub job_in : Result Reading JobFault → Result Plan JobFault
job_in (Ok reading) = Ok reading.plan
job_in (Err fault) = Err fault

-- the job of any bytes
abbrev pub job_of_bytes : List ℕ → Result Plan JobFault
job_of_bytes bytes = job_in (reading_of_bytes bytes)

-- the rows alone: none of what is refused
abbrev pub rows_alone : Result Reading JobFault → List (List Clause)
rows_alone (Ok reading) = reading.never
rows_alone (Err fault) = []

-- the rows of answers of which no run may have all, of any bytes
abbrev pub never_of_bytes : List ℕ → List (List Clause)
never_of_bytes bytes = rows_alone (reading_of_bytes bytes)

-- what a function answered is the stated answer, unless memory ran out
abbrev pub Gives : {X Y : Type 0} → (X → Y) → Result X JobFault → Result Y JobFault → Type 0
Gives view (Ok x) stated = stated ≡ Ok (view x)
Gives view (Err e) stated = e ≢ refused.OutOfMemory → stated ≡ Err e

-- the bytes are no more than may be read, and no text or no document
abbrev pub IsNoDocument : List ℕ → Type 0
IsNoDocument bytes = (length bytes ≤ 1048576) × (¬ IsUtf8 bytes ⊎ (parse_document bytes ≡ None))
