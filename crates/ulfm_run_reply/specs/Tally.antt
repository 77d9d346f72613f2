-- The traces of repeated runs, counted.
use Rattle.std.specs.Prelude.{ℕ, ◌+◌, List, [], ◌∷◌, ◌++◌, codes, fold, map, string_bytes, if◌then◌else◌}
use Rattle.std.specs.Fmt.{decimal}
use Rattle.std.specs.List.{flat_map}
use Rattle.std.specs.Str.{bytes_eq}
use Rattle.ulfm_forms.specs.declared.form.Form.{Form}
use Rattle.ulfm_forms.specs.declared.form.Form.TheVariants.{Words, Json}
use Rattle.ulfm_run_reply.specs.declared.tally.Counted.{Counted}

-- a text, as a trace, and how many runs gave it
abbrev pub Row : Type 0
Row = List ℕ × ℕ

-- a counted text in memory, as its bytes and its count
abbrev pub row_of : Counted → Row
row_of row = (string_bytes row.text, row.count)

-- all of them
abbrev pub rows_of : List Counted → List Row
rows_of rows = map row_of rows

-- a text of so many more runs: where it came before, its count rises by theirs, else it stands last
abbrev pub counted : List Row → Row → List Row
counted [] more = more ∷ []
counted (row ∷ rows) more = if bytes_eq row.0 more.0 then (row.0, row.1 + more.1) ∷ rows else row ∷ counted rows more

-- the trace of one more run
abbrev pub counted_once : List Row → List ℕ → List Row
counted_once rows trace = counted rows (trace, 1)

-- each distinct trace once, in the order in which they first came, with its count
abbrev pub tally : List (List ℕ) → List Row
tally traces = fold counted_once [] traces

-- a count and its trace, of so many runs
abbrev pub row_text : ℕ → Row → List ℕ
row_text times row = decimal row.1 ++ codes " of " ++ decimal times ++ codes " runs:\n" ++ row.0

-- a count, as an object, and its trace, of so many runs
abbrev pub row_json : ℕ → Row → List ℕ
row_json times row = codes "{\"count\":" ++ decimal row.1 ++ codes ",\"runs\":" ++ decimal times ++ codes "}\n" ++ row.0

-- either, in this form
abbrev pub row_in : Form → ℕ → Row → List ℕ
row_in (Words wording) times row = row_text times row
row_in Json times row = row_json times row

-- all counts with their traces
abbrev pub tally_in : Form → ℕ → List Row → List ℕ
tally_in form times rows = flat_map (row_in form times) rows
