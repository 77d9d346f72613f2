-- Rows of `never` over ranks: in one row `all` is one rank, and `any` is another; the row stands for one of each such two.
use Rattle.std.specs.Prelude.{ℕ, ℤ, pos, ◌==◌, nat_le, nat_lt, Bool, true, false, not, ◌&&◌, ◌||◌, List, [], ◌∷◌, ◌++◌, length, map, Option, Some, None, option_map, unwrap_or, if◌then◌else◌, codes, decimal}
use Rattle.std.specs.List.{after_first, before_first, flat_map, list_all, list_any, position_or_len, range_with_len}
use Rattle.std.specs.Option.{option_and_then}
use Rattle.std.specs.Str.{bytes_eq}
use Rattle.toml.specs.Data.{Data, string, array, table, Members, as_str, as_table}
use Rattle.toml.specs.View.{items_of}
use Rattle.ulfm_reader.specs.Iterations.{is_named, is_text}
use Rattle.ulfm_reader.specs.Line.{Line}
use Rattle.ulfm_reader.specs.Members.{list_at, list_in, put}

-- what stands before the first c of a text, and what behind it
abbrev pub parted : ℕ → List ℕ → Option (List ℕ × List ℕ)
parted c text = if nat_lt (position_or_len (λ b. b == c) text) (length text) then Some (before_first (λ b. b == c) text, after_first (λ b. b == c) text) else None

-- what a text of a row says before its dot, and behind it
abbrev pub answer_parts : Data → Option (List ℕ × List ℕ)
answer_parts d = option_and_then (parted 46) (as_str d)

-- a text of a row says this word in place of a rank
abbrev pub says : List ℕ → Data → Bool
says word d = is_text word (option_map (λ parts. parts.0) (answer_parts d))

-- one of a row does
abbrev pub names : List ℕ → List Data → Bool
names word row = list_any (says word) row

-- the rank for which a word stands: `all` for the first, `any` for the second
abbrev pub rank_by : ℕ → ℕ → List ℕ → Option ℕ
rank_by r s word = if bytes_eq word (codes "all") then Some r else if bytes_eq word (codes "any") then Some s else None

-- the rank of parts whose word stands for one, with what is said behind the dot
abbrev pub opened_by : ℕ → ℕ → Option (List ℕ × List ℕ) → Option (ℕ × List ℕ)
opened_by r s None = None
opened_by r s (Some parts) = option_map (λ rank. (rank, parts.1)) (rank_by r s parts.0)

-- the rank of a text of a row whose word stands for one, with what is said behind the dot
abbrev pub opened : ℕ → ℕ → Data → Option (ℕ × List ℕ)
opened r s d = opened_by r s (answer_parts d)

-- a rank has a step of this name
abbrev pub has_step : List Line → ℤ → List ℕ → Bool
has_step lines rank name = list_any (λ (line : Line). is_named rank name (as_table line.step)) lines

-- a rank has a step of the name that stands before the dot
abbrev pub has_first : List Line → ℤ → Option (List ℕ × List ℕ) → Bool
has_first lines rank None = false
has_first lines rank (Some parts) = has_step lines rank parts.0

-- the step that is named for a rank, if one is, is there
abbrev pub is_step_there : List Line → Option (ℕ × List ℕ) → Bool
is_step_there lines None = true
is_step_there lines (Some answer) = has_first lines (pos answer.0) (parted 32 answer.1)

-- a rank, a dot, and what is said behind it
abbrev pub said_of : ℕ → List ℕ → Data
said_of rank said = string (decimal rank ++ codes "." ++ said)

-- a text with the rank for which its word stands
abbrev pub said_by : Data → Option (ℕ × List ℕ) → Data
said_by d None = d
said_by d (Some answer) = said_of answer.0 answer.1

-- the texts of a row with the ranks for which their words stand
abbrev pub said_at : ℕ → ℕ → List Data → Data
said_at r s row = array (items_of (map (λ d. said_by d (opened r s d)) row))

-- an item with these texts: they are the row, or that of its key `row`
abbrev pub with_texts : Data → Data → Data
with_texts (table ms) row = table (put (codes "row") row ms)
with_texts d row = row

-- the words of a row stand for these ranks: for two, if it has both words
abbrev pub is_pair : List Data → ℕ → ℕ → Bool
is_pair row r s = if names (codes "all") row && names (codes "any") row then not (r == s) else r == s

-- the row stands for one of these ranks: they have steps of the names that it says
abbrev pub is_for : List Line → List Data → ℕ → ℕ → Bool
is_for lines row r s = is_pair row r s && list_all (λ d. is_step_there lines (opened r s d)) row

-- the item for that one, where it does
abbrev pub row_for : List Line → List Data → Data → ℕ → ℕ → List Data
row_for lines row d r s = if is_for lines row r s then with_texts d (said_at r s row) ∷ [] else []

-- those of the rank r with each of so many
abbrev pub rows_with : List Line → List Data → Data → ℕ → ℕ → List Data
rows_with lines row d ranks r = flat_map (row_for lines row d r) (range_with_len 0 ranks)

-- those of each of so many ranks with each
abbrev pub rows_over : List Line → List Data → Data → ℕ → List Data
rows_over lines row d ranks = flat_map (rows_with lines row d ranks) (range_with_len 0 ranks)

-- the row itself, where it stands for no others
abbrev pub or_itself : Data → List Data → List Data
or_itself d [] = d ∷ []
or_itself d (row ∷ rows) = row ∷ rows

-- the texts of a row: of an array, or of that at the key `row` of a table
abbrev pub texts_by : Option Members → Option (List Data) → Option (List Data)
texts_by (Some ms) list = list_at (codes "row") ms
texts_by None list = list

abbrev pub texts_in : Data → Option (List Data)
texts_in d = texts_by (as_table d) (list_in d)

-- those texts, or none
abbrev pub texts_of : Data → List Data
texts_of d = unwrap_or (texts_in d) []

-- those of a row that has a word for a rank
abbrev pub rows_if_over : List Line → List Data → Data → ℕ → List Data
rows_if_over lines row d ranks = if names (codes "all") row || names (codes "any") row then rows_over lines row d ranks else []

-- the rows for which an item stands
abbrev pub rows_of : List Line → ℕ → Data → List Data
rows_of lines ranks d = or_itself d (rows_if_over lines (texts_of d) d ranks)

-- rows, where they aren't more than 1024
abbrev pub few_rows : List Data → Option (List Data)
few_rows rows = if nat_le (length rows) 1024 then Some rows else None

-- rows, and behind them those for which these stand
unfoldable pub rows_behind : List Line → ℕ → List Data → List Data → Option (List Data)
rows_behind lines ranks rows [] = Some rows
rows_behind lines ranks rows (d ∷ ds) = option_and_then (λ more. rows_behind lines ranks more ds) (few_rows (rows ++ rows_of lines ranks d))

-- the rows of a job of so many ranks and of these lines, written out, where they aren't more than 1024
abbrev pub rows_out : List Line → ℕ → List Data → Option (List Data)
rows_out lines ranks ds = rows_behind lines ranks [] ds
