-- Texts that are counted: those of no run yet, how many there may be, and what is told of them.
use Rattle.std.specs.Prelude.{ℕ, ◌≤◌, Bool, List, [], All, if◌then◌else◌}
use Rattle.ulfm_job.specs.Job.{JobView}
use Rattle.ulfm_run_reply.specs.declared.lines_at.LinesAt.{LinesAt}
use Rattle.ulfm_run_reply.specs.declared.tally.Counted.{Counted}
use Rattle.ulfm_forms.specs.declared.form.Form.{Form}
use Rattle.ulfm_reader.specs.declared.name.Name.{Name}
use Rattle.ulfm_run_reply.specs.Brief.{Lines, Spot, parted_in, spots}
use Rattle.ulfm_run_reply.specs.Tally.{Row, tally_in}

-- a place without lines
abbrev pub unseen : Spot → Lines
unseen spot = (spot, [])

-- the places whose lines are counted: all where that is asked for, else none
abbrev pub spots_told : Bool → JobView → List Spot
spots_told is_brief job = if is_brief then spots job else []

-- no text is of more than so many runs
abbrev pub AreFew : ℕ → List Counted → Type 0
AreFew done rows = All (λ (row : Counted). row.count ≤ done) rows

-- at each place no text is of more than so many runs
abbrev pub AreFewAt : ℕ → List LinesAt → Type 0
AreFewAt done places = All (λ (lines : LinesAt). AreFew done lines.rows.items) places

-- what is told of so many runs whose traces and lines are these
abbrev pub told_in : Form → Bool → List Name → JobView → ℕ → List Row → List Lines → List ℕ
told_in form is_brief names job times rows places = if is_brief then parted_in form names job times places else tally_in form times rows
