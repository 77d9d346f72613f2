-- The same steps from other places of the file.
use Rattle.std.proofs.lemmas.List.Elements.{All-cons, All-nil}
use Rattle.std.proofs.Common.{◌≡◌, ℕ, ◌+◌, List, [], ◌∷◌, ◌++◌, All, length, slice_index_or, Option, Some, None, Result, Ok, Err, refl, ap, ◌∙◌}
use Rattle.std.specs.Prelude.{codes}
use Rattle.toml.specs.Data.{Data, Members, string, integer, float, boolean, datetime, array, table, as_table, get_member}
use Rattle.ulfm_job.specs.declared.fault.JobFault.{JobFault}
use Rattle.ulfm_reader.proofs.Asking.{in_step-ok}
use Rattle.ulfm_reader.specs.Keys.{◌>>=◌}
use Rattle.ulfm_reader.specs.Line.{Line, line, steps_of as steps_in}
use Rattle.ulfm_reader.specs.Plan.{PlannedStep}
use Rattle.ulfm_reader.specs.Provisos.{step_provisos}
use Rattle.ulfm_reader.specs.Reacting.{conditions_in, expected_in, names_in, namings_in}
use Rattle.ulfm_reader.specs.StepText.{step_of}
use Rattle.ulfm_reader.specs.JobText.{Draft, draft_of, drafted, filed_at, in_step, placed_in, step_at, step_in, steps_of}
use Rattle.ulfm_reader.specs.declared.filed.Filed.{Filed}
use Rattle.ulfm_reader.specs.declared.name.Name.{Name}
use Rattle.ulfm_reader.specs.declared.proviso.Proviso.{Proviso}
use Rattle.ulfm_job.specs.declared.clause.Clause.{Clause}
use Rattle.ulfm_job.specs.declared.condition.Condition.{Condition}
use Rattle.ulfm_job.specs.declared.naming.Naming.{Naming}
use Rattle.ulfm_program.proofs.Plain.{IsPlain, ok_first, ok_is}
use Rattle.ulfm_program.proofs.PlainSteps.{step_plain}

-- a draft whose steps come from these places of the file
abbrev pub filed_as : List Filed → Draft → Draft
filed_as filed draft = record draft { filed = filed }

-- steps as lines, the first of which has this number
abbrev pub numbered : ℕ → List Data → List Line
numbered k [] = []
numbered k (d ∷ ds) = line k d ∷ numbered (k + 1) ds

-- a step that is read names one rank
abbrev pub IsPlainStep : Data → Type 0
IsPlainStep (table ms) = IsPlain ms
IsPlainStep d = ⊥

-- the step of a table, from another place of the file
drafted_by : (k l : ℕ) (f : List Filed) (ms : Members) (draft : Draft) (s : PlannedStep) (more : Draft) (names : List Name) (conditions : List Condition) (provisos : List Proviso) (expected : List Clause) (namings : List Naming)
    → names_in draft.names s.rank (length (slice_index_or draft.scripts s.rank [])) (get_member (codes "name") ms) ≡ Ok names
    → conditions_in (record { rank = s.rank; at = length (slice_index_or draft.scripts s.rank []); script = slice_index_or draft.scripts s.rank []; names = draft.names }) draft.conditions (get_member (codes "if") ms) ≡ Ok conditions
    → step_provisos s.rank (length (slice_index_or draft.scripts s.rank [])) draft.provisos (get_member (codes "expect") ms) ≡ Ok provisos
    → expected_in s.rank (length (slice_index_or draft.scripts s.rank [])) s.order draft.expected (get_member (codes "expect") ms) ≡ Ok expected
    → namings_in (record { rank = s.rank; at = length (slice_index_or draft.scripts s.rank []); script = slice_index_or draft.scripts s.rank []; names = draft.names }) draft.namings (get_member (codes "comm") ms) ≡ Ok namings
    → record { scripts = placed_in draft.scripts s; names = names; filed = draft.filed ++ filed_at k s.rank (length (slice_index_or draft.scripts s.rank [])) ∷ []; namings = namings; conditions = conditions; expected = expected; provisos = provisos } ≡ more
    → drafted l (filed_as f draft) ms s ≡ Ok (filed_as (f ++ filed_at l s.rank (length (slice_index_or draft.scripts s.rank [])) ∷ []) more)
unfolding drafted
drafted_by k l f ms draft s more names conditions provisos expected namings n c p e m is =
    rw (n, c, p, e, m) (ap (λ (d : Draft). Ok (filed_as (f ++ filed_at l s.rank (length (slice_index_or draft.scripts s.rank [])) ∷ []) d)) is)

drafted_alike : (k l : ℕ) (f : List Filed) (ms : Members) (draft : Draft) (s : PlannedStep) (more : Draft) → drafted k draft ms s ≡ Ok more
    → drafted l (filed_as f draft) ms s ≡ Ok (filed_as (f ++ filed_at l s.rank (length (slice_index_or draft.scripts s.rank [])) ∷ []) more)
unfolding drafted
drafted_alike k l f ms draft s more is =
    let n = ok_first (names_in draft.names s.rank (length (slice_index_or draft.scripts s.rank [])) (get_member (codes "name") ms)) _ more is in
    let c = ok_first (conditions_in (record { rank = s.rank; at = length (slice_index_or draft.scripts s.rank []); script = slice_index_or draft.scripts s.rank []; names = draft.names }) draft.conditions (get_member (codes "if") ms)) _ more n.2 in
    let p = ok_first (step_provisos s.rank (length (slice_index_or draft.scripts s.rank [])) draft.provisos (get_member (codes "expect") ms)) _ more c.2 in
    let e = ok_first (expected_in s.rank (length (slice_index_or draft.scripts s.rank [])) s.order draft.expected (get_member (codes "expect") ms)) _ more p.2 in
    let m = ok_first (namings_in (record { rank = s.rank; at = length (slice_index_or draft.scripts s.rank []); script = slice_index_or draft.scripts s.rank []; names = draft.names }) draft.namings (get_member (codes "comm") ms)) _ more e.2 in
    drafted_by k l f ms draft s more n.0 c.0 p.0 e.0 m.0 n.1 c.1 p.1 e.1 m.1 (ok_is _ more m.2)

module _ (ranks k l : ℕ) (f : List Filed) (draft more : Draft) where
  table_alike : (ms : Members) (s : PlannedStep) → step_of ranks draft.names ms ≡ Ok s → drafted k draft ms s ≡ Ok more → (g : List Filed) × (in_step l (draft_of ranks l (filed_as f draft) ms) ≡ Ok (filed_as g more))
  table_alike ms s read is = (f ++ filed_at l s.rank (length (slice_index_or draft.scripts s.rank [])) ∷ [], rw (read, drafted_alike k l f ms draft s more is) refl)

  -- what is read of a step, by whether it is a table
  found_alike : (found : Option Members) → step_in ranks k draft found ≡ Ok more → (g : List Filed) × (step_in ranks l (filed_as f draft) found ≡ Ok (filed_as g more))
  found_alike None is = absurd cc
  found_alike (Some ms) is =
      let read = ok_first (step_of ranks draft.names ms) (drafted k draft ms) more (in_step-ok k (draft_of ranks k draft ms) more is) in
      table_alike ms read.0 read.1 read.2

  step_alike : (d : Data) → step_at ranks k draft d ≡ Ok more → (g : List Filed) × (step_at ranks l (filed_as f draft) d ≡ Ok (filed_as g more))
  step_alike d is = found_alike (as_table d) is

  found_plain : (d : Data) → step_at ranks k draft d ≡ Ok more → IsPlainStep d
  found_plain (table ms) is =
      let read = ok_first (step_of ranks draft.names ms) (drafted k draft ms) more (in_step-ok k (draft_of ranks k draft ms) more is) in
      step_plain ranks draft.names ms read.0 read.1
  found_plain (string s) is = cc
  found_plain (integer z) is = cc
  found_plain (float x) is = cc
  found_plain (boolean b) is = cc
  found_plain (datetime t) is = cc
  found_plain (array ds) is = cc

-- steps that are read, from other places of the file
pub lines_alike : (ranks k : ℕ) (f : List Filed) (draft more : Draft) (lines : List Line) → steps_of ranks draft lines ≡ Ok more
    → (g : List Filed) × (steps_of ranks (filed_as f draft) (numbered k (steps_in lines)) ≡ Ok (filed_as g more))
unfolding steps_of
lines_alike ranks k f draft more [] is = (f, ap refiled is)
  where
    refiled : Result Draft JobFault → Result Draft JobFault
    refiled (Ok d) = Ok (filed_as f d)
    refiled (Err e) = Err e
lines_alike ranks k f draft more (l ∷ ls) is =
    let first = ok_first (step_at ranks l.place draft l.step) _ more is in
    let again = step_alike ranks l.place k f draft first.0 l.step first.1 in
    let rest = lines_alike ranks (k + 1) again.0 first.0 more ls first.2 in
    (rest.0, ap (λ (r : Result Draft JobFault). r >>= (λ d. steps_of ranks d (numbered (k + 1) (steps_in ls)))) again.1 ∙ rest.1)

-- and each of them names one rank
pub lines_plain : (ranks : ℕ) (draft more : Draft) (lines : List Line) → steps_of ranks draft lines ≡ Ok more → All IsPlainStep (steps_in lines)
unfolding steps_of
lines_plain ranks draft more [] is = All-nil IsPlainStep
lines_plain ranks draft more (l ∷ ls) is =
    let first = ok_first (step_at ranks l.place draft l.step) _ more is in
    All-cons IsPlainStep l.step (steps_in ls) (found_plain ranks l.place 0 [] draft first.0 l.step first.1) (lines_plain ranks first.0 more ls first.2)
