-- What a job asks only where every stop lies before the steps of a name, by cases in the order of the checks.
use Rattle.std.specs.Prelude.{ℕ, ◌+◌, Bool, List, [], ◌∷◌, ◌++◌, Option, Some, None, Result, Ok, Err, unwrap_or, if◌then◌else◌, codes}
use Rattle.std.specs.List.{list_all, list_any}
use Rattle.std.specs.Option.{option_and_then}
use Rattle.std.specs.Str.{bytes_eq}
use Rattle.toml.specs.Data.{Data, Items, no_items, item, Members, get_member, as_array, as_table}
use Rattle.ulfm_job.specs.declared.fault.Fault.{Fault}
use Rattle.ulfm_job.specs.declared.fault.Fault.TheVariants.{OutOfRange}
use Rattle.ulfm_reader.specs.declared.name.Name.{Name}
use Rattle.ulfm_reader.specs.declared.proviso.Proviso.{Proviso}
use Rattle.ulfm_reader.specs.declared.subject.Subject.{Subject}
use Rattle.ulfm_reader.specs.declared.subject.Subject.TheVariants as of
use Rattle.ulfm_reader.specs.Keys.{◌>>=◌, label_in, only_keys, required, required_text}

-- a list, or that at a key of a table
abbrev pub list_or_at : List ℕ → Option Members → Option Items → Option Items
list_or_at key None list = list
list_or_at key (Some ms) list = option_and_then as_array (get_member key ms)

-- the list that a value is, or that at a key of the table that it is
abbrev pub items_by : List ℕ → Data → Option Items
items_by key d = list_or_at key (as_table d) (as_array d)

-- the name in a table of a list at this key, and of `before`
unfoldable pub before_in : List ℕ → Members → Result (List ℕ) Fault
before_in key ms = do
  ds ← required as_array (get_member key ms)
  name ← required_text (codes "before") ms
  keys ← only_keys (key ∷ codes "before" ∷ []) ms
  label_in name

-- what is asked only before the steps of this name
abbrev pub proviso : Subject → List ℕ → Proviso
proviso subject name = record { subject = subject; before = name }

-- provisos, and behind them that of a table, where it is one
abbrev pub proviso_onto : Subject → List ℕ → List Proviso → Option Members → Result (List Proviso) Fault
proviso_onto subject key before None = Ok before
proviso_onto subject key before (Some ms) = before_in key ms >>= (λ name. Ok (before ++ proviso subject name ∷ []))

-- that of what a step expects, by the key `expect`, where it is there
abbrev pub step_provisos : ℕ → ℕ → List Proviso → Option Data → Result (List Proviso) Fault
step_provisos rank at before None = Ok before
step_provisos rank at before (Some d) = proviso_onto (of.Step rank at) (codes "is") before (as_table d)

-- that of the row of this number
abbrev pub row_proviso_onto : ℕ → List Proviso → Option Members → Result (List Proviso) Fault
row_proviso_onto number before ms = proviso_onto (of.Row number) (codes "row") before ms

-- those of rows, of which the first has this number
unfoldable pub row_provisos_onto : ℕ → List Proviso → Items → Result (List Proviso) Fault
row_provisos_onto number before no_items = Ok before
row_provisos_onto number before (item d ds) = row_proviso_onto number before (as_table d) >>= (λ more. row_provisos_onto (number + 1) more ds)

-- a step has the name of a proviso
abbrev pub is_named : List Name → Proviso → Bool
is_named names p = list_any (λ (name : Name). bytes_eq name.text p.before) names

-- provisos, where steps have their names
abbrev pub if_named : List Name → List Proviso → Result (List Proviso) Fault
if_named names provisos = if list_all (is_named names) provisos then Ok provisos else Err OutOfRange

-- the provisos of steps, and behind them those of the rows of the key `never`, where steps have their names
abbrev pub provisos_in : List Name → List Proviso → Option Items → Result (List Proviso) Fault
provisos_in names before never = row_provisos_onto 0 before (unwrap_or never no_items) >>= if_named names
