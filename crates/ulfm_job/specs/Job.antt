-- What contracts see of a job.
use Rattle.std.specs.Prelude.{◌≡◌, ◌==◌, ◌<◌, ◌≤◌, ◌+◌, ◌&&◌, ◌∷◌, ◌++◌, ℕ, Bool, true, false, not, is_some, List, [], Option, Some, None, length, map, sum_by, filter, slice_get, slice_index_or, slice_set, nat_le, nat_lt, Vec, if◌then◌else◌}
use Rattle.std.specs.List.{insert, list_any}
use Rattle.std.specs.declared.alloc.Global.{Global}
use Rattle.ulfm_job.specs.declared.clause.Clause.{Clause}
use Rattle.ulfm_job.specs.declared.condition.Condition.{Condition}
use Rattle.ulfm_job.specs.declared.left_step.LeftStep.{LeftStep}
use Rattle.ulfm_job.specs.declared.naming.Naming.{Naming}
use Rattle.ulfm_job.specs.declared.step.Step.{Step}
use Rattle.ulfm_base.specs.declared.context.Context.{Context}
use Rattle.ulfm_job.specs.declared.step.Step.TheVariants.{Send, Wait, Mrecv, Cancel, Revoke, Shrink, Agree, Stop}

-- how many ranks there are, the room of an inbox, the most polls of one step, the steps of each rank, on what conditions some are
-- played, what some expect of their answers, which may be given up though polls are left, and which are on communicators that earlier ones make
pub record JobView : Type 0 where
  pub ranks : ℕ
  pub capacity : ℕ
  pub turns : ℕ
  pub scripts : List (List Step)
  pub conditions : List Condition
  pub expected : List Clause
  pub left : List LeftStep
  pub namings : List Naming

-- how many steps there are in all
abbrev pub step_count : List (List Step) → ℕ
step_count scripts = sum_by length scripts

-- the steps that the lists in memory hold
abbrev pub lists_of : List (Vec Step Global) → List (List Step)
lists_of scripts = map (λ script. script.items) scripts

-- a job by its parts, of which no step may be given up early, nor names a communicator
abbrev pub job_view : ℕ → ℕ → List (Vec Step Global) → List Condition → List Clause → JobView
job_view capacity turns scripts conditions expected = record {
  ranks = length scripts;
  capacity = capacity;
  turns = turns;
  scripts = lists_of scripts;
  conditions = conditions;
  expected = expected;
  left = [];
  namings = [];
}

-- a job of which these steps may be given up though polls are left, and no others
abbrev pub leaving : List LeftStep → JobView → JobView
leaving left j = record j { left = left }

-- a job whose steps name these communicators, and no others
abbrev pub naming : List Naming → JobView → JobView
naming namings j = record j { namings = namings }

-- a job with another number of turns
abbrev pub with_turns : ℕ → JobView → JobView
with_turns turns j = record j { turns = turns }

-- the steps of the rank r
abbrev pub script_at : JobView → ℕ → List Step
script_at j r = slice_index_or j.scripts r []

-- the number of a step of a script of n steps, once there is one more before the step `at`
abbrev pub moved_number : ℕ → ℕ → ℕ → ℕ
moved_number at n req = if nat_le at req && nat_lt req n then req + 1 else req

-- a step of a script of n steps, once there is one more before the step `at`: where it names a later one, it names it by its new number
abbrev pub moved_on : ℕ → ℕ → Step → Step
moved_on at n (Wait req) = Wait (moved_number at n req)
moved_on at n (Mrecv req room) = Mrecv (moved_number at n req) room
moved_on at n (Cancel req) = Cancel (moved_number at n req)
moved_on at n step = step

-- a script with a stop before its step `at`, or after its last one
abbrev pub stopped_at : ℕ → List Step → List Step
stopped_at at script = insert (map (moved_on at (length script)) script) at Stop

-- a clause, once a rank whose script has n steps has one more before its step `at`
abbrev pub moved_clause : ℕ → ℕ → ℕ → Clause → Clause
moved_clause r at n c =
    if c.rank == r then record c { at = moved_number at n c.at; step = moved_number at n c.step } else c

-- a condition, once a rank whose script has n steps has one more before its step `at`
abbrev pub moved_condition : ℕ → ℕ → ℕ → Condition → Condition
moved_condition r at n c =
    if c.rank == r then record c { at = moved_number at n c.at; step = moved_number at n c.step } else c

-- a step that may be given up, once a rank whose script has n steps has one more before its step `at`
abbrev pub moved_left : ℕ → ℕ → ℕ → LeftStep → LeftStep
moved_left r at n l = if l.rank == r then record l { at = moved_number at n l.at } else l

-- a naming, once a rank whose script has n steps has one more before its step `at`
abbrev pub moved_naming : ℕ → ℕ → ℕ → Naming → Naming
moved_naming r at n c =
    if c.rank == r then record c { at = moved_number at n c.at; step = moved_number at n c.step } else c

-- a job with one more step, a stop before the step `at` of the rank r
abbrev pub with_stop : ℕ → ℕ → JobView → JobView
with_stop r at j = record j {
  scripts = slice_set j.scripts r (stopped_at at (script_at j r));
  conditions = map (moved_condition r at (length (script_at j r))) j.conditions;
  expected = map (moved_clause r at (length (script_at j r))) j.expected;
  left = map (moved_left r at (length (script_at j r))) j.left;
  namings = map (moved_naming r at (length (script_at j r))) j.namings;
}

-- the clause is of another step than the step `at` of the rank r
abbrev pub is_of_other : ℕ → ℕ → Clause → Bool
is_of_other r at c = not (c.rank == r && c.at == at)

-- a job of which the step `at` of the rank r may be given up though polls are left: then nothing is expected of its answer
abbrev pub with_left : ℕ → ℕ → JobView → JobView
with_left r at j = record j {
  expected = filter (is_of_other r at) j.expected;
  left = j.left ++ record { rank = r; at = at } ∷ [];
}

-- the ranges of a job
pub record IsJob (j : JobView) : Type 0 where
  pub script_each : length j.scripts ≡ j.ranks
  pub some_rank : 0 < j.ranks
  pub few_ranks : j.ranks ≤ 8
  pub some_room : 0 < j.capacity
  pub most_room : j.capacity ≤ 64
  pub some_turn : 0 < j.turns
  pub most_turns : j.turns ≤ 10000000
  pub most_steps : step_count j.scripts ≤ 256

-- the step is a stop
abbrev pub is_stop_step : Step → Bool
is_stop_step Stop = true
is_stop_step _ = false

-- the step is a revoke
abbrev pub is_revoke_step : Step → Bool
is_revoke_step (Revoke comm) = true
is_revoke_step _ = false

-- a step that has no body to carry
abbrev pub bodiless : Step → Option Step
bodiless (Send to tag body comm) = None
bodiless step = Some step

-- the communicator about which ranks decide together by a step: they shrink it, or agree on it
abbrev pub decides_on : Step → Option Context
decides_on (Shrink comm again) = Some comm
decides_on (Agree flag comm) = Some comm
decides_on _ = None

-- the step is an agreement
abbrev pub is_agreement_step : Step → Bool
is_agreement_step (Agree flag comm) = true
is_agreement_step _ = false

-- ranks decide the step together, if there is one
abbrev pub is_decided_together : Option Step → Bool
is_decided_together None = false
is_decided_together (Some step) = is_some (decides_on step)

-- this is the step k of the rank r
abbrev pub is_left : ℕ → ℕ → LeftStep → Bool
is_left r k l = l.rank == r && l.at == k

-- The step k of the rank r may be given up though polls are left, once it stands open: it is one of those that may, and ranks decide it
-- together.
abbrev pub may_leave : JobView → ℕ → ℕ → Bool
may_leave j r k = is_decided_together (slice_get (script_at j r) k) && list_any (is_left r k) j.left

-- the polls after which a step that stands open is given up by `replay` and `run`: the first, where it may be given up then
abbrev pub turns_at : JobView → ℕ → ℕ → ℕ
turns_at j r k = if may_leave j r k then 1 else j.turns
