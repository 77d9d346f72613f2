-- Answers that a line of text names, for a job, as those of the key `never` are named.
use Rattle.std.specs.Prelude.{ℕ, ◌==◌, List, [], ◌∷◌, ◌++◌, map, Result, Ok, Err, Vec, if◌then◌else◌, codes}
use Rattle.std.specs.Borrow.{Bor}
use Rattle.std.specs.List.{slice_split}
use Rattle.std.specs.Str.{bytes_eq, trim}
use Rattle.std.specs.declared.alloc.Global.{Global}
use Rattle.ulfm_job.specs.declared.clause.Clause.{Clause}
use Rattle.ulfm_job.specs.declared.fault.Fault.{Fault}
use Rattle.ulfm_job.specs.declared.fault.JobFault.{JobFault}
use Rattle.ulfm_reader.specs.declared.name.Name.{Name}
use Rattle.ulfm_reader.specs.JobText.{Reading, reading_of_bytes}
use Rattle.ulfm_reader.specs.Keys.{◌>>=◌}
use Rattle.ulfm_reader.specs.Never.{claim_of, parted}
use Rattle.ulfm_reader.specs.Plan.{Order}
use Rattle.ulfm_reader.specs.Reacting.{clause}

-- the parts of a text between semicolons, without white space around
abbrev pub parts_of : List ℕ → List (List ℕ)
parts_of text = map trim (slice_split (λ b. b == 59) text)

-- the words of a trace for a step: one that never ends is unfinished
abbrev pub trace_words : List ℕ → List ℕ
trace_words words = if bytes_eq words (codes "never ends") then codes "unfinished" else words

-- the clause in these words
abbrev pub in_words : List ℕ → Clause → Clause
in_words words c = clause c.rank c.at c.step words

-- the clause of a text, as of one in a row; the step may also never end, where it may be unfinished
unfoldable pub goal_in : List (List Order) → List Name → List ℕ → Result Clause Fault
goal_in scripts names text = parted 32 text >>= (λ parts. claim_of scripts names parts.0 (trace_words parts.1) >>= (λ claim. Ok (in_words parts.1 claim)))

-- the clause of a text, or the text that names no answer
abbrev pub goal_or : List ℕ → Result Clause Fault → Result Clause (List ℕ)
goal_or text (Ok goal) = Ok goal
goal_or text (Err fault) = Err text

-- clauses, and behind them those of these texts, or the first text that names no answer
unfoldable pub goals_onto : List (List Order) → List Name → List Clause → List (List ℕ) → Result (List Clause) (List ℕ)
goals_onto scripts names before [] = Ok before
goals_onto scripts names before (text ∷ texts) = goal_or text (goal_in scripts names text) >>= (λ goal. goals_onto scripts names (before ++ goal ∷ []) texts)

-- the answers that a text names, by what was read of a job
abbrev pub goals_of : Reading → List ℕ → Result (List Clause) (List ℕ)
goals_of reading text = goals_onto reading.plan.scripts reading.names [] (parts_of text)

-- the answers that a text names, where a job was read
abbrev pub goals_in : Result Reading JobFault → List ℕ → Result (List Clause) (List ℕ)
goals_in (Ok reading) text = goals_of reading text
goals_in (Err fault) text = Err text

-- the answers that a text names, for the job of any bytes
abbrev pub goals_of_bytes : List ℕ → List ℕ → Result (List Clause) (List ℕ)
goals_of_bytes bytes text = goals_in (reading_of_bytes bytes) text

-- answers, or the text that names none, as they are kept
abbrev pub goals_view : Result (Vec Clause Global) (Bor (List ℕ)) → Result (List Clause) (List ℕ)
goals_view (Ok goals) = Ok goals.items
goals_view (Err text) = Err text.now
