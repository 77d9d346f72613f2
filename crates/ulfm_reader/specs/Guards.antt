-- Conditions by which an error in a block leads to the step that it names.
use Rattle.std.specs.Prelude.{ℕ, zero, suc, ◌+◌, ℤ, pos, Bool, false, not, List, [], ◌∷◌, ◌++◌, map, filter, Option, Some, None, is_some, unwrap_or, if◌then◌else◌, codes}
use Rattle.std.specs.List.{slice_get}
use Rattle.std.specs.Option.{option_and_then}
use Rattle.toml.specs.Data.{Data, string, integer, array, table, Members, no_members, get, get_member, as_table}
use Rattle.toml.specs.View.{items_of}
use Rattle.ulfm_job.specs.Ops.{good_answers, op_named}
use Rattle.ulfm_job.specs.declared.op.Op.TheVariants.{Stop}
use Rattle.ulfm_reader.specs.Blocks.{goal_in, name_in}
use Rattle.ulfm_reader.specs.Iterations.{is_rank, is_text}
use Rattle.ulfm_reader.specs.Line.{Line, line}
use Rattle.ulfm_reader.specs.Members.{in_table, put, text_at, text_in}
use Rattle.ulfm_reader.specs.Ranks.{rank_of}
use Rattle.ulfm_reader.specs.Together.{asks_with}
use Rattle.ulfm_reader.specs.declared.guard.Guard.{Guard}

-- the rank of a step
abbrev pub rank_in : Data → Option ℤ
rank_in d = option_and_then rank_of (as_table d)

-- the op of a step
abbrev pub op_in : Data → Option (List ℕ)
op_in d = text_in (codes "op") d

-- the good answers of a step, if it has an op; a text that is no op is taken for a stop
abbrev pub answers_of : Option (List ℕ) → List (List ℕ)
answers_of None = []
answers_of (Some name) = good_answers (unwrap_or (op_named name) Stop)

-- the name to which an error in a line leads, by the item that it comes from
abbrev pub goal_of : List Data → Line → Option (List ℕ)
goal_of items l = option_and_then goal_in (slice_get items l.place)

-- the name to which an error in the line with this number leads
abbrev pub goal_at : List Data → List Line → ℕ → Option (List ℕ)
goal_at items lines k = option_and_then (goal_of items) (slice_get lines k)

-- a goal is this name
abbrev pub is_reached : Option (List ℕ) → Option (List ℕ) → Bool
is_reached None name = false
is_reached (Some goal) name = is_text goal name

-- a step has a condition of its own
abbrev pub has_own : Data → Bool
has_own d = is_some (get (codes "if") d)

-- the guards, where a step of this name comes: an error in those that lead to it leads no further
abbrev pub open_guards : List Data → List Line → Option (List ℕ) → List Guard → List Guard
open_guards items lines name guards = filter (λ (g : Guard). not (is_reached (goal_at items lines g.at) name)) guards

-- those that are asked beside a line that leads to this goal. A line without a condition of its own is answered well only where all that
-- lead to its goal are, so it stands for them. Another one may be skipped for its own sake
abbrev pub guards_beside : List Data → List Line → Line → List Guard → List Guard
guards_beside items lines l guards = if has_own l.step then guards else open_guards items lines (goal_of items l) guards

-- what guards a rank's steps behind this one, the line of this number, of whose rank so many came before, where these guard it
abbrev pub guards_behind : List Data → List Line → Line → ℕ → ℕ → List Guard → List Guard
guards_behind items lines l k count guards =
    if is_some (goal_of items l) then guards_beside items lines l guards ++ record { number = count; «at» = k } ∷ [] else guards

-- so many lines of a rank, with one more that may be its
abbrev pub number_with : ℤ → ℕ → Option Line → ℕ
number_with rank n None = n
number_with rank n (Some l) = if is_rank rank (rank_in l.step) then n + 1 else n

-- how many of the first so many lines are a rank's
abbrev pub number_in : List Line → ℤ → ℕ → ℕ
number_in lines rank zero = 0
number_in lines rank (suc k) = number_with rank (number_in lines rank k) (slice_get lines k)

-- what guards a rank's steps, with one line more, of this number, where so many before are the rank's
abbrev pub guards_with : List Data → List Line → ℤ → ℕ → ℕ → List Guard → Option Line → List Guard
guards_with items lines rank k count guards None = guards
guards_with items lines rank k count guards (Some l) =
    if is_rank rank (rank_in l.step) then guards_behind items lines l k count (open_guards items lines (name_in l.step) guards) else guards

-- what guards a rank's steps behind the first so many lines
abbrev pub guards_in : List Data → List Line → ℤ → ℕ → List Guard
guards_in items lines rank zero = []
guards_in items lines rank (suc k) = guards_with items lines rank k (number_in lines rank k) (guards_in items lines rank k) (slice_get lines k)

-- the condition that the step of this number was answered so
abbrev pub condition : ℕ → List (List ℕ) → Data
condition number words = table (put (codes "step") (integer (pos number)) (put (codes "is") (array (items_of (map string words))) no_members))

-- the answers with which a line leads nowhere: its good ones, and where it has a condition of its own, that it was skipped
abbrev pub fine_answers : Option Line → List (List ℕ)
fine_answers None = []
fine_answers (Some l) = answers_of (op_in l.step) ++ (if has_own l.step then codes "skipped" ∷ [] else [])

-- what is asked of the line of a guard
abbrev pub asked : List Line → Guard → Data
asked lines g = condition g.number (fine_answers (slice_get lines g.at))

-- a step's members, with the conditions of these guards beside its own
abbrev pub guarded_by : List Line → Members → List Guard → Members
guarded_by lines ms [] = ms
guarded_by lines ms (g ∷ gs) = put (codes "if") (asks_with (map (asked lines) (g ∷ gs)) (get_member (codes "if") ms)) ms

-- a step's members, with the conditions of its guards behind so many lines, where the step has a rank
abbrev pub guarded_for : List Data → List Line → ℕ → Members → Option ℤ → Members
guarded_for items lines k ms None = ms
guarded_for items lines k ms (Some rank) = guarded_by lines ms (open_guards items lines (text_at (codes "name") ms) (guards_in items lines rank k))

-- a step behind so many lines, with the conditions of its guards
abbrev pub guarded : List Data → List Line → ℕ → Data → Data
guarded items lines k d = in_table (λ ms. guarded_for items lines k ms (rank_of ms)) d

-- these lines, the first of which has this number, each with the conditions of its guards
abbrev pub guarded_from : List Data → List Line → ℕ → List Line → List Line
guarded_from items lines k [] = []
guarded_from items lines k (l ∷ ls) = line l.place (guarded items lines k l.step) ∷ guarded_from items lines (k + 1) ls
