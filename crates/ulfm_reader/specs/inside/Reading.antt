-- What is read of a job's text, without the form that it has in memory.
use Rattle.std.specs.Prelude.{ℕ, Bool, List, [], ◌∷◌, ◌++◌, Option, Some, None, Result, Ok, Err, ◌<◌, ◌≤◌, map, option_map, if◌then◌else◌}
use Rattle.toml.specs.View.{items_view}
use Rattle.ulfm_reader.specs.declared.head.Head.{Head as Coded}
use Rattle.ulfm_reader.specs.JobText.{Head, Draft}
use Rattle.ulfm_reader.specs.Beginnings.{may_ask, may_expect}
use Rattle.ulfm_job.specs.Job.{lists_of}
use Rattle.ulfm_reader.specs.Reacting.{Asker, Reference, by_number, by_name, clause}
use Rattle.ulfm_job.specs.declared.clause.Clause.{Clause}
use Rattle.ulfm_reader.specs.declared.claim.Claim.{Claim as CodedClaim}
use Rattle.ulfm_reader.specs.declared.asker.Asker.{Asker as CodedAsker}
use Rattle.ulfm_reader.specs.declared.draft.Draft.{Draft as CodedDraft}
use Rattle.ulfm_reader.specs.declared.name.Name.{Name}
use Rattle.ulfm_job.specs.declared.step.Step.{Step}
use Rattle.ulfm_reader.specs.declared.placed.Placed.{Placed}
use Rattle.ulfm_reader.specs.declared.placed.ReadStep.{ReadStep}
use Rattle.ulfm_reader.specs.declared.placed.ReadStep.TheVariants.{Send, Other}
use Rattle.ulfm_reader.specs.declared.reference.Reference.{Reference as CodedReference}
use Rattle.ulfm_reader.specs.declared.reference.Reference.TheVariants as by
use Rattle.ulfm_reader.specs.Plan.{Order, PlannedStep, order_of, send}

-- a result, its value seen by view
abbrev pub map_ok : {X Y E : Type 0} → (X → Y) → Result X E → Result Y E
map_ok view (Ok x) = Ok (view x)
map_ok view (Err e) = Err e

-- the numbers of the top keys, as they are kept
abbrev pub head_view : Coded → Head
head_view h = record { ranks = h.ranks; capacity = h.capacity; turns = h.turns; steps = items_view h.steps.now; never = option_map (λ s. items_view s.now) h.never }

-- the ranges of the job's own numbers
pub record IsHead (h : Head) : Type 0 where
  pub some_rank : 0 < h.ranks
  pub few_ranks : h.ranks ≤ 8
  pub some_room : 0 < h.capacity
  pub most_room : h.capacity ≤ 64
  pub some_turn : 0 < h.turns
  pub most_turns : h.turns ≤ 10000000

-- what a step asks for, as it is read
abbrev pub order_read : ReadStep → Order
order_read (Send to tag body comm) = send to tag.number body.now comm.number
order_read (Other step) = order_of step

-- a step as it was planned
abbrev pub planned : Placed → PlannedStep
planned p = record { rank = p.rank; order = order_read p.step }

-- what names a step, as it is read
abbrev pub reference_view : CodedReference → Reference
reference_view (by.Number number) = by_number number
reference_view (by.Name text) = by_name text.now

-- what the clauses of a step are read with, as it is kept
abbrev pub asker_view : CodedAsker → Asker
asker_view a = record { rank = a.rank; at = a.at; script = map order_of a.script.now; names = a.names.now }

-- words fit an answer of a step, of a condition or of what is expected
abbrev pub may_begin : Bool → Step → List ℕ → Bool
may_begin is_condition asked = if is_condition then may_ask (order_of asked) else may_expect (order_of asked)

-- what was read of the steps, as it is kept
abbrev pub draft_view : CodedDraft → Draft
draft_view d = record {
  scripts = map (map order_of) (lists_of d.scripts.items);
  names = d.names.items;
  filed = d.filed.items;
  namings = d.namings.items;
  conditions = d.conditions.items;
  expected = d.expected.items;
  provisos = d.provisos.items;
}

-- names, and behind them one more where there is one
abbrev pub name_behind : List Name → ℕ → ℕ → Option (List ℕ) → List Name
name_behind names rank at None = names
name_behind names rank at (Some text) = names ++ record { rank = rank; at = at; text = text } ∷ []

-- the clause of an answer, as it is read
abbrev pub claim_view : CodedClaim → Clause
claim_view c = clause c.rank c.step c.step c.words.now
