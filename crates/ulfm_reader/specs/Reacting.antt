-- The names of steps, their conditions, and what they expect, by cases in the order of the checks.
use Rattle.std.specs.Prelude.{ℕ, ℤ, ◌==◌, nat_lt, nat_le, ◌+◌, Bool, true, false, ◌&&◌, ◌||◌, List, [], ◌∷◌, ◌++◌, length, Option, Some, None, option_map, is_none, is_some, find, map, Result, Ok, Err, slice_get, if◌then◌else◌, codes}
use Rattle.std.specs.List.{list_all}
use Rattle.std.specs.Option.{ok_or}
use Rattle.std.specs.Str.{bytes_eq}
use Rattle.toml.specs.Data.{Data, Items, no_items, item, Members, get_member, as_array, as_integer, as_str, as_table}
use Rattle.ulfm_job.specs.declared.clause.Clause.{Clause}
use Rattle.ulfm_job.specs.declared.condition.Condition.{Condition}
use Rattle.ulfm_job.specs.declared.fault.Fault.{Fault}
use Rattle.ulfm_job.specs.declared.fault.Fault.TheVariants.{BadKey, OutOfRange}
use Rattle.ulfm_job.specs.declared.naming.Naming.{Naming}
use Rattle.ulfm_reader.specs.declared.name.Name.{Name}
use Rattle.ulfm_reader.specs.Beginnings.{may_ask, may_expect}
use Rattle.ulfm_reader.specs.Keys.{◌>>=◌, items_len, label_in, required, only_keys, in_range}
use Rattle.ulfm_reader.specs.Plan.{Order, dup, shrink}
use Rattle.ulfm_reader.specs.Provisos.{items_by}

-- a letter, a digit, `_` or `-`
abbrev pub is_name_byte : ℕ → Bool
is_name_byte b = (nat_le 97 b && nat_le b 122) || (nat_le 65 b && nat_le b 90) || (nat_le 48 b && nat_le b 57) || b == 95 || b == 45

-- a name: 1 to 32 of them
abbrev pub is_name : List ℕ → Bool
is_name text = nat_lt 0 (length text) && nat_le (length text) 32 && list_all is_name_byte text

-- a step of this rank has this name
abbrev pub is_called : ℕ → List ℕ → Name → Bool
is_called rank text name = (name.rank == rank) && bytes_eq name.text text

-- the number of the step of a rank with this name
abbrev pub named : List Name → ℕ → List ℕ → Option ℕ
named names rank text = option_map (λ (name : Name). name.at) (find (is_called rank text) names)

-- the name is that of the step k of this rank
abbrev pub is_name_of : ℕ → ℕ → Name → Bool
is_name_of rank k name = (name.rank == rank) && (name.at == k)

-- the name of the step k of a rank, where it has one
abbrev pub name_at : List Name → ℕ → ℕ → Option (List ℕ)
name_at names rank k = option_map (λ (name : Name). name.text) (find (is_name_of rank k) names)

-- a name that no earlier step of the rank has
abbrev pub is_new_name : List Name → ℕ → List ℕ → Bool
is_new_name names rank text = is_name text && is_none (named names rank text)

-- the name of the step `at` of a rank, which no earlier one of that rank has
abbrev pub name_in : List Name → ℕ → ℕ → List ℕ → Result Name Fault
name_in names rank at text = if is_new_name names rank text then Ok (record { rank = rank; at = at; text = text }) else Err OutOfRange

-- what names a step: its number, or its name
pub data Reference : Type 0 where
  by_number : ℤ → Reference
  by_name : List ℕ → Reference

-- a number or a text, as what names a step
abbrev pub reference_or : Option ℤ → Option (List ℕ) → Result Reference Fault
reference_or (Some number) text = Ok (by_number number)
reference_or None (Some text) = Ok (by_name text)
reference_or None None = Err BadKey

-- what names a step, where it is there
abbrev pub reference_in : Option Data → Result Reference Fault
reference_in None = Err BadKey
reference_in (Some d) = reference_or (as_integer d) (as_str d)

-- what names a step by a key that has to be there
abbrev pub required_reference : List ℕ → Members → Result Reference Fault
required_reference key ms = reference_in (get_member key ms)

-- the number of a step that is named: any number of a step, or that of an earlier one by its name
abbrev pub req_in : List Name → ℕ → Reference → Result ℕ Fault
req_in names rank (by_number number) = in_range 0 255 number
req_in names rank (by_name text) = ok_or (named names rank text) OutOfRange

-- 1 to 16 items
abbrev pub are_few : Items → Bool
are_few ds = nat_lt 0 (items_len ds) && nat_le (items_len ds) 16

-- words that pass a test
abbrev pub words_in : (List ℕ → Bool) → Option (List ℕ) → Result (List ℕ) Fault
words_in is_good None = Err BadKey
words_in is_good (Some words) = if is_good words then Ok words else Err OutOfRange

-- a clause by its parts
abbrev pub clause : ℕ → ℕ → ℕ → List ℕ → Clause
clause rank at step words = record { rank = rank; at = at; step = step; words = words }

-- words that pass a test, behind others
unfoldable pub words_onto : (List ℕ → Bool) → List (List ℕ) → Items → Result (List (List ℕ)) Fault
words_onto is_good before no_items = Ok before
words_onto is_good before (item d ds) = words_in is_good (as_str d) >>= (λ words. words_onto is_good (before ++ words ∷ []) ds)

-- 1 to 16 of them
abbrev pub few_words : (List ℕ → Bool) → Items → Result (List (List ℕ)) Fault
few_words is_good ds = if are_few ds then words_onto is_good [] ds else Err OutOfRange

-- what a step is, with what it is asked by: the rank, its number there, and the steps and names that were read before it
pub record Asker : Type 0 where
  pub rank : ℕ
  pub at : ℕ
  pub script : List Order
  pub names : List Name

-- an earlier step of the script, with its number
abbrev pub earlier : ℕ → Option Order → Result (ℕ × Order) Fault
earlier step None = Err OutOfRange
earlier step (Some order) = Ok (step, order)

-- the earlier step that a condition names
abbrev pub earlier_in : Asker → Reference → Result (ℕ × Order) Fault
earlier_in asker reference = req_in asker.names asker.rank reference >>= (λ step. earlier step (slice_get asker.script step))

-- the key of a condition's words: `is`, or where that isn't there `not`
abbrev pub words_key : Members → List ℕ
words_key ms = if is_some (get_member (codes "is") ms) then codes "is" else codes "not"

-- what one table asks for: an earlier step, with its number, and words
unfoldable pub asked_in : Asker → Members → Result ((ℕ × Order) × Items) Fault
asked_in asker ms = do
  step_key ← required_reference (codes "step") ms
  words ← required as_array (get_member (words_key ms) ms)
  keys ← only_keys (codes "step" ∷ words_key ms ∷ []) ms
  found ← earlier_in asker step_key
  Ok (found, words)

-- the condition that a step's answer begins with one of these words, or where there is no `is`, with none of them
abbrev pub condition : Asker → ℕ → Members → ℕ → List (List ℕ) → Condition
condition asker a ms step words =
    record { rank = asker.rank; at = asker.at; alternative = a; step = step; is_not = is_none (get_member (codes "is") ms); words = words }

-- the condition of one table, of the alternative a
abbrev pub condition_in : Asker → ℕ → Members → Result Condition Fault
condition_in asker a ms = asked_in asker ms >>= (λ asked. few_words (may_ask asked.0.1) asked.1 >>= (λ words. Ok (condition asker a ms asked.0.0 words)))

-- conditions, and behind them what one item after another of a list gives, the first of which has this number
unfoldable pub tables_onto : (ℕ → List Condition → Option Members → Result (List Condition) Fault) → ℕ → List Condition → Items → Result (List Condition) Fault
tables_onto read k before no_items = Ok before
tables_onto read k before (item d ds) = read k before (as_table d) >>= (λ more. tables_onto read (k + 1) more ds)

-- what one item after another of a list of 1 to 16 gives, behind these conditions
abbrev pub few_tables : (ℕ → List Condition → Option Members → Result (List Condition) Fault) → List Condition → Items → Result (List Condition) Fault
few_tables read before ds = if are_few ds then tables_onto read 0 before ds else Err OutOfRange

-- behind others the condition of what may be no table
abbrev pub condition_onto : Asker → ℕ → List Condition → Option Members → Result (List Condition) Fault
condition_onto asker a before None = Err BadKey
condition_onto asker a before (Some ms) = condition_in asker a ms >>= (λ c. Ok (before ++ c ∷ []))

-- the items of the key `all`, beside which no other stands
abbrev pub all_in : Members → Result Items Fault
all_in ms = do
  ds ← required as_array (get_member (codes "all") ms)
  keys ← only_keys (codes "all" ∷ []) ms
  Ok ds

-- the conditions of an alternative: of one table, or by its key `all` of tables that have to hold together
abbrev pub alternative_of : Asker → ℕ → List Condition → Members → Result (List Condition) Fault
alternative_of asker a before ms =
    if is_none (get_member (codes "all") ms) then condition_onto asker a before (Some ms)
    else all_in ms >>= few_tables (λ k. condition_onto asker a) before

-- the alternative of what may be no table
abbrev pub alternative_onto : Asker → ℕ → List Condition → Option Members → Result (List Condition) Fault
alternative_onto asker a before None = Err BadKey
alternative_onto asker a before (Some ms) = alternative_of asker a before ms

-- those of a list of 1 to 16
abbrev pub listed_conditions : Asker → List Condition → Option Items → Result (List Condition) Fault
listed_conditions asker before None = Err BadKey
listed_conditions asker before (Some ds) = few_tables (alternative_onto asker) before ds

-- those of one alternative, or of a list
abbrev pub any_conditions : Asker → List Condition → Option Members → Option Items → Result (List Condition) Fault
any_conditions asker before (Some ms) list = alternative_of asker 0 before ms
any_conditions asker before None list = listed_conditions asker before list

-- those of the key `if`, where it is there
abbrev pub conditions_in : Asker → List Condition → Option Data → Result (List Condition) Fault
conditions_in asker before None = Ok before
conditions_in asker before (Some d) = any_conditions asker before (as_table d) (as_array d)

-- the step makes a communicator
abbrev pub makes_comm : Order → Bool
makes_comm (dup comm again) = true
makes_comm (shrink comm again) = true
makes_comm _ = false

-- that a step is on the communicator that an earlier one makes
abbrev pub naming_of : Asker → List ℕ → ℕ × Order → Result Naming Fault
naming_of asker name found =
    if makes_comm found.1 then Ok (record { rank = asker.rank; at = asker.at; step = found.0; name = name }) else Err OutOfRange

-- so by its name
abbrev pub naming_in : Asker → List ℕ → Result Naming Fault
naming_in asker text = label_in text >>= (λ name. earlier_in asker (by_name text) >>= naming_of asker name)

-- namings, and behind them that of a text, where there is one
abbrev pub namings_by : Asker → List Naming → Option (List ℕ) → Result (List Naming) Fault
namings_by asker before None = Ok before
namings_by asker before (Some text) = naming_in asker text >>= (λ n. Ok (before ++ n ∷ []))

-- by the key `comm`, where it is there
abbrev pub namings_in : Asker → List Naming → Option Data → Result (List Naming) Fault
namings_in asker before None = Ok before
namings_in asker before (Some d) = namings_by asker before (as_str d)

-- clauses, and behind them one for each of these words, of a step's own answer
abbrev pub clauses_with : ℕ → ℕ → List Clause → List (List ℕ) → List Clause
clauses_with rank at before words = before ++ map (clause rank at at) words

-- what a step expects of its own answer, by a list of words
abbrev pub listed_expected : ℕ → ℕ → Order → List Clause → Option Items → Result (List Clause) Fault
listed_expected rank at order before None = Err BadKey
listed_expected rank at order before (Some ds) = few_words (may_expect order) ds >>= (λ words. Ok (clauses_with rank at before words))

-- by the key `expect`, where it is there: a list, or a table with one
abbrev pub expected_in : ℕ → ℕ → Order → List Clause → Option Data → Result (List Clause) Fault
expected_in rank at order before None = Ok before
expected_in rank at order before (Some d) = listed_expected rank at order before (items_by (codes "is") d)

-- names, and behind them that of a text
abbrev pub name_onto : List Name → ℕ → ℕ → Option (List ℕ) → Result (List Name) Fault
name_onto names rank at None = Err BadKey
name_onto names rank at (Some text) = name_in names rank at text >>= (λ name. Ok (names ++ name ∷ []))

-- by the key `name`, where it is there
abbrev pub names_in : List Name → ℕ → ℕ → Option Data → Result (List Name) Fault
names_in names rank at None = Ok names
names_in names rank at (Some d) = name_onto names rank at (as_str d)
