-- A job with one more stop.
use Rattle.std.proofs.Common.{◌≡◌, ◌≢◌, ℕ, ◌+◌, ◌<◌, ◌≤◌, List, length, map, set, Vec, Global, sym, ap, ap₂, ◌∙◌, arith}
use Rattle.ulfm_job.proofs.Common.{Clause, Condition, LeftStep, Naming, Step, JobView, IsJob, job_view, leaving, lists_of, naming, step_count, script_at, moved_on, stopped_at, with_stop}
use Rattle.std.proofs.lemmas.List.{length-map, length-set, map-set}
use Rattle.std.proofs.lemmas.List.Edits.{length-insert}
use Rattle.ulfm_job.specs.Job.{moved_clause, moved_condition, moved_left, moved_naming}
use Rattle.ulfm_job.specs.declared.step.Step.TheVariants.{Stop}
use Rattle.ulfm_job.proofs.Scripts.{step_count-set}

-- a copy in which one script has the stop
pub seen-stopped : (j : JobView) (capacity turns r at : ℕ) (vs ws : List (Vec Step Global)) (v : Vec Step Global) (conditions asked : List Condition) (expected wanted : List Clause) (given moved_given : List LeftStep) (names moved_names : List Naming)
    → j ≡ naming names (leaving given (job_view capacity turns vs conditions expected))
    → lists_of ws ≡ lists_of vs → v.items ≡ stopped_at at (script_at j r)
    → asked ≡ map (moved_condition r at (length (script_at j r))) conditions → wanted ≡ map (moved_clause r at (length (script_at j r))) expected
    → moved_given ≡ map (moved_left r at (length (script_at j r))) given → moved_names ≡ map (moved_naming r at (length (script_at j r))) names
    → naming moved_names (leaving moved_given (job_view capacity turns (set ws r v) asked wanted)) ≡ with_stop r at j
seen-stopped j capacity turns r at vs ws v conditions asked expected wanted given moved_given names moved_names is copies stopped moved kept lefts named =
    let items = λ (u : Vec Step Global). u.items in
    let scripts : lists_of (set ws r v) ≡ set (lists_of vs) r (stopped_at at (script_at j r)) = map-set items ws r v ∙ cc (copies, stopped) in
    let long : length (set ws r v) ≡ length vs = sym (length-map (set ws r v) items) ∙ ap length scripts ∙ length-set (lists_of vs) r _ ∙ length-map vs items in
    cc (scripts, long, is, moved, kept, lefts, named)

pub length-stopped_at : (at : ℕ) (xs : List Step) → at ≤ length xs → length (stopped_at at xs) ≡ length xs + 1
length-stopped_at at xs le = let l = length-map xs (moved_on at (length xs)) in length-insert _ at Stop (omega (arith, l, le)) ∙ ap (λ n. n + 1) l

pub is_job-stopped : (j : JobView) (r at : ℕ) → IsJob j → r < j.ranks → at ≤ length (script_at j r) → step_count j.scripts ≢ 256 → IsJob (with_stop r at j)
is_job-stopped j r at h lt le room =
    let one = step_count-set j.scripts r (stopped_at at (script_at j r)) (omega (arith, h.script_each, lt)) (length-stopped_at at (script_at j r) le) in
    record {
      script_each = length-set j.scripts r _ ∙ h.script_each;
      some_rank = h.some_rank;
      few_ranks = h.few_ranks;
      some_room = h.some_room;
      most_room = h.most_room;
      some_turn = h.some_turn;
      most_turns = h.most_turns;
      most_steps = let most = h.most_steps in omega (arith, one, most, room);
    }

-- what a copy has, by the numbers that steps have in it
pub moved-as : {A : Type 0} (moving : ℕ → A → A) (j : JobView) (r : ℕ) (script : List Step) (all kept moved : List A) → script ≡ script_at j r → all ≡ kept → moved ≡ map (moving (length script)) all
    → moved ≡ map (moving (length (script_at j r))) kept
moved-as {A} moving j r script all kept moved is same h = h ∙ ap₂ (λ (steps : List Step) (xs : List A). map (moving (length steps)) xs) is same

-- the limits of a job don't tell which steps may be given up, nor what steps name
pub is_job-leaving : (j : JobView) (left : List LeftStep) (names : List Naming) → IsJob (naming names (leaving left j)) → IsJob j
is_job-leaving j left names h = record {
  script_each = h.script_each;
  some_rank = h.some_rank;
  few_ranks = h.few_ranks;
  some_room = h.some_room;
  most_room = h.most_room;
  some_turn = h.some_turn;
  most_turns = h.most_turns;
  most_steps = h.most_steps;
}
