-- The texts of rows, taken apart, and rows one after the other.
use Rattle.std.proofs.Common.{◌≡◌, ℕ, ◌+◌, ◌<◌, ◌≤◌, ◌==◌, List, [], ◌∷◌, ◌++◌, length, map, get_or, drop, ltb, leb, cond, Bool, true, false, ◌&&◌, Option, Some, None, option_map, slice_get, slice_index_or, zero, suc, Bor, Result, Ok, Err, Vec, Global, refl, sym, ap, ◌∙◌, arith}
use Rattle.std.proofs.lemmas.List.{drop_all, map_push}
use Rattle.std.specs.Prelude.{codes}
use Rattle.std.specs.List.{before_first, after_first, position_or_len}
use Rattle.toml.specs.Data.{Data, as_array, as_str}
use Rattle.toml.proofs.Views.{items_view-drop}
use Rattle.ulfm_reader.proofs.Blocks.{items_of-view}
use Rattle.ulfm_reader.proofs.Values.{listed-view}
use Rattle.ulfm_reader.specs.Lines.{Line}
use Rattle.ulfm_reader.specs.Rows.{rows_out}
use Rattle.ulfm_job.specs.declared.fault.Fault.{Fault}
use Rattle.ulfm_job.specs.declared.fault.JobFault.TheVariants.{InJob}
use Rattle.ulfm_job.specs.declared.fault.Fault.TheVariants.{BadKey, OutOfRange}
use Rattle.ulfm_reader.proofs.Common.{Clause, JobFault, Name, Order, Step, Value, view, order_of, items_view, list_all, nat_tests, ◌>>=◌}
use Rattle.ulfm_reader.specs.JobText.{in_job, rows_of}
use Rattle.ulfm_reader.specs.Provisos.{items_by}
use Rattle.ulfm_reader.specs.Never.{all_items, are_texts, claim_at, claims_onto, is_row, is_text, never_items_in, never_out, order_at, parted, row_in, rows_onto}

-- a text in two parts
pub two_parts : (c : ℕ) (text front rest : List ℕ) → position_or_len (λ b. b == c) text < length text → front ≡ before_first (λ b. b == c) text → rest ≡ after_first (λ b. b == c) text → Ok (front, rest) ≡ parted c text
two_parts c text front rest lt f r = let test : ltb (position_or_len (λ b. b == c) text) (length text) ≡ true = grind (arith, nat_tests) in rw (f, r, test) refl

pub one_part : (c : ℕ) (text : List ℕ) → position_or_len (λ b. b == c) text ≡ length text → Err OutOfRange ≡ parted c text
one_part c text e = let test : ltb (position_or_len (λ b. b == c) text) (length text) ≡ false = grind (arith, nat_tests) in rw test refl

-- the fault of a first part is that of the whole
pub in_job-err : {A B : Type 0} (r : Result A Fault) (f : A → Result B Fault) (e : JobFault) → in_job r ≡ Err e → in_job (r >>= f) ≡ Err e
in_job-err (Ok x) f e h = absurd cc
in_job-err (Err g) f e h = cc

pub in_job-ok : {A : Type 0} (r : Result A Fault) (x : A) → in_job r ≡ Ok x → r ≡ Ok x
in_job-ok (Ok y) x e = cc
in_job-ok (Err f) x e = absurd cc

module _ (scripts : List (List Order)) (names : List Name) where
  pub claims-on : (before : List Clause) (vs : List Value) (v : Value) (claim : Clause) (i : ℕ) → i < length vs → v ≡ get_or vs i v → Ok claim ≡ claim_at scripts names (as_str (view v))
      → claims_onto scripts names before (items_view (drop i vs)) ≡ claims_onto scripts names (before ++ claim ∷ []) (items_view (drop (i + 1) vs))
  unfolding claims_onto
  claims-on before vs v claim i lt here read = rw (items_view-drop vs i v lt, ← here, ← read) refl

  pub claims-end : (before : List Clause) (vs : List Value) (v : Value) (fault : Fault) (i : ℕ) → i < length vs → v ≡ get_or vs i v → Err fault ≡ claim_at scripts names (as_str (view v))
      → claims_onto scripts names before (items_view (drop i vs)) ≡ Err fault
  unfolding claims_onto
  claims-end before vs v fault i lt here read = rw (items_view-drop vs i v lt, ← here, ← read) refl

  pub claims-done : (before : List Clause) (vs : List Value) (i : ℕ) → length vs ≤ i → claims_onto scripts names before (items_view (drop i vs)) ≡ Ok before
  unfolding claims_onto
  claims-done before vs i le = rw (drop_all i vs le) refl

  -- the rows that follow one give what they give after it
  rows-one : (before : List (List Clause)) (vs : List Value) (v : Value) (i : ℕ) → i < length vs → v ≡ get_or vs i v
      → rows_onto scripts names before (items_view (drop i vs)) ≡ (row_in scripts names (items_by (codes "row") (view v)) >>= (λ row. rows_onto scripts names (before ++ row ∷ []) (items_view (drop (i + 1) vs))))
  unfolding rows_onto
  rows-one before vs v i lt here = rw (items_view-drop vs i v lt, ← here) refl

  pub rows-on : (before : List (List Clause)) (vs : List Value) (v : Value) (row : List Clause) (i : ℕ) → i < length vs → v ≡ get_or vs i v → in_job (row_in scripts names (items_by (codes "row") (view v))) ≡ Ok row
      → rows_onto scripts names before (items_view (drop i vs)) ≡ rows_onto scripts names (before ++ row ∷ []) (items_view (drop (i + 1) vs))
  rows-on before vs v row i lt here read = rows-one before vs v i lt here ∙ ap (λ (r : Result (List Clause) Fault). r >>= (λ row. rows_onto scripts names (before ++ row ∷ []) (items_view (drop (i + 1) vs)))) (in_job-ok _ row read)

  pub rows-end : (before : List (List Clause)) (vs : List Value) (v : Value) (e : JobFault) (i : ℕ) → i < length vs → v ≡ get_or vs i v → in_job (row_in scripts names (items_by (codes "row") (view v))) ≡ Err e
      → in_job (rows_onto scripts names before (items_view (drop i vs))) ≡ Err e
  rows-end before vs v e i lt here read = ap in_job (rows-one before vs v i lt here) ∙ in_job-err _ _ e read

  pub rows-done : (before : List (List Clause)) (vs : List Value) (i : ℕ) → length vs ≤ i → rows_onto scripts names before (items_view (drop i vs)) ≡ Ok before
  unfolding rows_onto
  rows-done before vs i le = rw (drop_all i vs le) refl

-- the test of the code and of the definition
pub all-items : (is_good : Data → Bool) (vs : List Value) → list_all (λ v. is_good (view v)) vs ≡ all_items is_good (items_view vs)
all-items is_good [] = refl
all-items is_good (v ∷ vs) = ap (λ b. is_good (view v) && b) (all-items is_good vs)

pub arrays_found : (d : Data) (vs : List Value) (found : Option Data) (good : Bool) → Some d ≡ found → Some (items_view vs) ≡ as_array d → good ≡ list_all (λ v. is_row (view v)) vs
    → never_items_in found ≡ cond good (Ok (Some (items_view vs))) (Err BadKey)
arrays_found d vs found good a b c = rw (← a, ← b, ← all-items is_row vs, ← c) refl

script-at : (xs : List (List Step)) (r : ℕ) → slice_index_or (map (map order_of) xs) r [] ≡ map order_of (slice_index_or xs r [])
script-at [] r = refl
script-at (x ∷ xs) zero = refl
script-at (x ∷ xs) (suc r) = script-at xs r

order_in : (xs : List Step) (k : ℕ) → slice_get (map order_of xs) k ≡ option_map order_of (slice_get xs k)
order_in [] k = refl
order_in (x ∷ xs) zero = refl
order_in (x ∷ xs) (suc k) = order_in xs k

seen : (o : Option (Bor Step)) → option_map (λ (s : Bor Step). order_of s.now) o ≡ option_map order_of (option_map (λ (s : Bor Step). s.now) o)
seen None = refl
seen (Some x) = refl

-- a step, and what it asks for
pub step-at : (scripts : List (List Step)) (r k : ℕ) (o : Option (Bor Step)) → option_map (λ (s : Bor Step). s.now) o ≡ slice_get (slice_index_or scripts r []) k
    → option_map (λ (s : Bor Step). order_of s.now) o ≡ order_at (map (map order_of) scripts) r k
step-at scripts r k o found = seen o ∙ ap (option_map order_of) found ∙ sym (order_in (slice_index_or scripts r []) k) ∙ sym (ap (λ xs. slice_get xs k) (script-at scripts r))

-- texts alone
pub texts_found : (vs : List Value) (good : Bool) → good ≡ list_all (λ v. is_text (view v)) vs → good ≡ are_texts (Some (items_view vs))
texts_found vs good b = b ∙ all-items is_text vs

-- a number within its bounds, and one below them
pub within : (least most n m : ℕ) → m ≡ n → least ≤ n → leb n most ≡ (leb least m && leb m most)
within least most n m e le = let above : leb least m ≡ true = grind (arith, nat_tests) in rw (above, e) refl

pub not_within : (least most n m : ℕ) → m ≡ n → n < least → leb least n ≡ (leb least m && leb m most)
not_within least most n m e lt = let below : leb least n ≡ false = grind (arith, nat_tests) in rw (e, below) refl

-- one more row
pub rows_of-push : (rows : List (Vec Clause Global)) (row : Vec Clause Global) → rows_of (rows ++ row ∷ []) ≡ rows_of rows ++ row.items ∷ []
rows_of-push rows row = map_push (λ (w : Vec Clause Global). w.items) rows row

module _ (lines : List Line) (ranks : ℕ) (vs : List Value) where
  -- rows that are written out
  pub rows_found : (rows : List Value) → Some (map view rows) ≡ rows_out lines ranks (map view vs) → in_job (never_out lines ranks (Some (items_view vs))) ≡ Ok (Some (items_view rows))
  rows_found rows is = rw (listed-view vs, ← is, items_of-view rows) refl

  -- rows that are too many
  pub rows_many : None ≡ rows_out lines ranks (map view vs) → in_job (never_out lines ranks (Some (items_view vs))) ≡ Err (InJob OutOfRange)
  rows_many is = rw (listed-view vs, ← is) refl
