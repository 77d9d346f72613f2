-- Answers that must not go together, by the key `never`, by cases in the order of the checks.
use Rattle.std.specs.Prelude.{ℕ, ◌==◌, nat_lt, nat_le, Bool, true, false, ◌&&◌, List, [], ◌∷◌, ◌++◌, length, Option, Some, None, is_some, Result, Ok, Err, slice_get, slice_index_or, if◌then◌else◌, codes}
use Rattle.std.specs.List.{before_first, after_first, position_or_len}
use Rattle.std.specs.Option.{ok_or}
use Rattle.toml.specs.Data.{Data, Items, no_items, item, Members, get_member, as_array, as_str, as_table}
use Rattle.toml.specs.View.{items_of}
use Rattle.ulfm_reader.specs.Lines.{Line}
use Rattle.ulfm_reader.specs.Members.{listed, text_at}
use Rattle.ulfm_reader.specs.Rows.{rows_out}
use Rattle.ulfm_job.specs.Digits.{is_number, number_in}
use Rattle.ulfm_job.specs.declared.clause.Clause.{Clause}
use Rattle.ulfm_job.specs.declared.fault.Fault.{Fault}
use Rattle.ulfm_job.specs.declared.fault.Fault.TheVariants.{BadKey, OutOfRange}
use Rattle.ulfm_reader.specs.declared.name.Name.{Name}
use Rattle.ulfm_reader.specs.Beginnings.{may_answer}
use Rattle.ulfm_reader.specs.Keys.{◌>>=◌, items_len}
use Rattle.ulfm_reader.specs.Plan.{Order}
use Rattle.ulfm_reader.specs.Provisos.{items_by}
use Rattle.ulfm_reader.specs.Reacting.{clause, named, words_in}

-- what stands before the first c of a text, and what behind it
abbrev pub parted : ℕ → List ℕ → Result (List ℕ × List ℕ) Fault
parted c text = if nat_lt (position_or_len (λ b. b == c) text) (length text) then Ok (before_first (λ b. b == c) text, after_first (λ b. b == c) text) else Err OutOfRange

-- the number of a text of digits alone, 0 to 255
abbrev pub byte_in : List ℕ → Result ℕ Fault
byte_in text = ok_or (number_in 255 text) OutOfRange

-- the number of a step of a rank, by its number or its name: digits alone are a number
abbrev pub step_in : List Name → ℕ → List ℕ → Result ℕ Fault
step_in names rank text = if is_number text then byte_in text else ok_or (named names rank text) OutOfRange

-- a step of a rank, where there is one
abbrev pub order_at : List (List Order) → ℕ → ℕ → Option Order
order_at scripts rank step = slice_get (slice_index_or scripts rank []) step

-- a rank and the number of one of its steps: a rank, a dot, and the step by its number or its name
unfoldable pub place_in : List Name → List ℕ → Result (ℕ × ℕ) Fault
place_in names text = do
  parts ← parted 46 text
  rank ← byte_in parts.0
  step ← step_in names rank parts.1
  Ok (rank, step)

-- the clause of a step that may not be there, with words with which its answer may begin
unfoldable pub claimed : Option Order → ℕ → ℕ → List ℕ → Result Clause Fault
claimed found rank step text = do
  order ← ok_or found OutOfRange
  words ← words_in (may_answer order) (Some text)
  Ok (clause rank step step words)

-- the clause of a place and of words
abbrev pub claim_of : List (List Order) → List Name → List ℕ → List ℕ → Result Clause Fault
claim_of scripts names place words = place_in names place >>= (λ at. claimed (order_at scripts at.0 at.1) at.0 at.1 words)

-- the clause of a text: a rank, a dot, a step by its number or its name, a space, and how an answer of that step may begin
unfoldable pub claim_in : List (List Order) → List Name → List ℕ → Result Clause Fault
claim_in scripts names text = parted 32 text >>= (λ parts. claim_of scripts names parts.0 parts.1)

-- the clause of what may be no text
abbrev pub claim_at : List (List Order) → List Name → Option (List ℕ) → Result Clause Fault
claim_at scripts names None = Err BadKey
claim_at scripts names (Some text) = claim_in scripts names text

-- clauses, and behind them those of these texts
unfoldable pub claims_onto : List (List Order) → List Name → List Clause → Items → Result (List Clause) Fault
claims_onto scripts names before no_items = Ok before
claims_onto scripts names before (item d ds) = claim_at scripts names (as_str d) >>= (λ claim. claims_onto scripts names (before ++ claim ∷ []) ds)

-- from least to most items
abbrev pub is_within : ℕ → ℕ → Items → Bool
is_within least most ds = nat_le least (items_len ds) && nat_le (items_len ds) most

-- the row of what may be no array: 2 to 8 texts
abbrev pub row_in : List (List Order) → List Name → Option Items → Result (List Clause) Fault
row_in scripts names None = Err BadKey
row_in scripts names (Some ds) = if is_within 2 8 ds then claims_onto scripts names [] ds else Err OutOfRange

-- rows, and behind them those of these items
unfoldable pub rows_onto : List (List Order) → List Name → List (List Clause) → Items → Result (List (List Clause)) Fault
rows_onto scripts names before no_items = Ok before
rows_onto scripts names before (item d ds) = row_in scripts names (items_by (codes "row") d) >>= (λ row. rows_onto scripts names (before ++ row ∷ []) ds)

-- the rows of the key `never`, written out, where it is there: 1 to 1024
abbrev pub rows_in : List (List Order) → List Name → Option Items → Result (List (List Clause)) Fault
rows_in scripts names None = Ok []
rows_in scripts names (Some ds) = if is_within 1 1024 ds then rows_onto scripts names [] ds else Err OutOfRange

-- rows that were written out, where they aren't more than 1024
abbrev pub rows_or_many : Option (List Data) → Result (Option Items) Fault
rows_or_many None = Err OutOfRange
rows_or_many (Some rows) = Ok (Some (items_of rows))

-- the items of the key `never`, where it is there, with rows over ranks written out, for a job of so many ranks and of these lines
abbrev pub never_out : List Line → ℕ → Option Items → Result (Option Items) Fault
never_out lines ranks None = Ok None
never_out lines ranks (Some ds) = rows_or_many (rows_out lines ranks (listed ds))

-- each item passes a test
abbrev pub all_items : (Data → Bool) → Items → Bool
all_items is_good no_items = true
all_items is_good (item d ds) = is_good d && all_items is_good ds

-- a text
abbrev pub is_text : Data → Bool
is_text d = is_some (as_str d)

-- an array of texts alone, or none
abbrev pub are_texts : Option Items → Bool
are_texts None = false
are_texts (Some ds) = all_items is_text ds

-- a text at the key `before`, where it is a table
abbrev pub has_before : Option Members → Bool
has_before None = true
has_before (Some ms) = is_some (text_at (codes "before") ms)

-- an array of texts alone, or a table of one and of a name
abbrev pub is_row : Data → Bool
is_row d = are_texts (items_by (codes "row") d) && has_before (as_table d)

-- the array of rows at the key `never`
abbrev pub arrays_in : Option Items → Result (Option Items) Fault
arrays_in None = Err BadKey
arrays_in (Some ds) = if all_items is_row ds then Ok (Some ds) else Err BadKey

-- the items of the key `never`, where it is there
abbrev pub never_items_in : Option Data → Result (Option Items) Fault
never_items_in None = Ok None
never_items_in (Some d) = arrays_in (as_array d)

-- those of a table
abbrev pub never_items : Members → Result (Option Items) Fault
never_items ms = never_items_in (get_member (codes "never") ms)
