-- Rows that are read stay as they are when they are written out once more.
use Rattle.std.proofs.Common.{◌≡◌, ◌≤◌, ◌+◌, ℕ, List, [], ◌∷◌, ◌++◌, All, append-nil, append_assoc, length, length-append, subst, Bool, true, false, leb, Option, Some, None, is_some, Ok, Err, refl, sym, ap, ◌∙◌, arith}
use Rattle.std.proofs.lemmas.Bool.Decides.{nat_tests}
use Rattle.std.proofs.lemmas.List.Elements.{All-cons, All-head, All-nil, All-tail}
use Rattle.std.specs.Option.{option_and_then}
use Rattle.std.specs.Prelude.{codes, option_map, unwrap_or, if◌then◌else◌}
use Rattle.toml.specs.Data.{Data, Items, no_items, item, Members, string, integer, float, boolean, datetime, array, table, as_array, as_str, as_table, get_member}
use Rattle.ulfm_job.specs.declared.clause.Clause.{Clause}
use Rattle.ulfm_job.specs.declared.fault.Fault.TheVariants.{OutOfRange}
use Rattle.ulfm_reader.specs.Keys.{required, required_text}
use Rattle.ulfm_reader.specs.Line.{Line}
use Rattle.ulfm_reader.specs.Members.{listed}
use Rattle.ulfm_reader.specs.Never.{all_items, are_texts, claim_at, claims_onto, has_before, is_row, is_text, is_within, row_in, rows_onto}
use Rattle.ulfm_reader.specs.Plan.{Order}
use Rattle.ulfm_reader.specs.Provisos.{before_in, items_by, proviso_onto, row_proviso_onto, row_provisos_onto}
use Rattle.ulfm_reader.specs.Rows.{rows_behind, rows_of, texts_in, texts_of}
use Rattle.ulfm_reader.specs.declared.name.Name.{Name}
use Rattle.ulfm_reader.specs.declared.proviso.Proviso.{Proviso}
use Rattle.ulfm_reader.specs.declared.subject.Subject.{Subject}
use Rattle.ulfm_reader.specs.declared.subject.Subject.TheVariants as of
use Rattle.ulfm_program.proofs.Plain.{ok_first}
use Rattle.ulfm_program.proofs.RowTexts.{row_alone}

-- the texts of a row, by its items
texts_by_items : (d : Data) → texts_in d ≡ option_map listed (items_by (codes "row") d)
texts_by_items (table ms) = refl
texts_by_items (array ds) = refl
texts_by_items (string s) = refl
texts_by_items (integer z) = refl
texts_by_items (float x) = refl
texts_by_items (boolean b) = refl
texts_by_items (datetime t) = refl

module _ (scripts : List (List Order)) (known : List Name) where
  -- the clauses of the items of a row
  within : (ds : Items) (row : List Clause) → row_in scripts known (Some ds) ≡ Ok row → claims_onto scripts known [] ds ≡ Ok row
  within ds row is = by (is_within 2 8 ds) is
    where
      by : (b : Bool) → (if b then claims_onto scripts known [] ds else Err OutOfRange) ≡ Ok row → claims_onto scripts known [] ds ≡ Ok row
      by true found = found
      by false none = absurd cc

  row_itself : (lines : List Line) (ranks : ℕ) (d : Data) (row : List Clause) → row_in scripts known (items_by (codes "row") d) ≡ Ok row → rows_of lines ranks d ≡ d ∷ []
  row_itself lines ranks d row is = by (items_by (codes "row") d) refl is
    where
      by : (found : Option Items) → items_by (codes "row") d ≡ found → row_in scripts known found ≡ Ok row → rows_of lines ranks d ≡ d ∷ []
      by None none read = absurd cc
      by (Some ds) some read =
          let texts : texts_of d ≡ listed ds = ap (λ (t : Option (List Data)). unwrap_or t []) (texts_by_items d ∙ ap (option_map listed) some) in
          let alone = row_alone scripts known [] ds row (within ds row read) in
          rw (texts, alone.0, alone.1) refl

  -- such rows stay
  pub rows_itself : (lines : List Line) (ranks : ℕ) (before : List (List Clause)) (ds : Items) (rows : List (List Clause)) → rows_onto scripts known before ds ≡ Ok rows → All (λ (d : Data). rows_of lines ranks d ≡ d ∷ []) (listed ds)
  unfolding rows_onto
  rows_itself lines ranks before no_items rows is = All-nil (λ (d : Data). rows_of lines ranks d ≡ d ∷ [])
  rows_itself lines ranks before (item d ds) rows is =
      let row = ok_first (row_in scripts known (items_by (codes "row") d)) _ rows is in
      All-cons (λ (e : Data). rows_of lines ranks e ≡ e ∷ []) d (listed ds) (row_itself lines ranks d row.0 row.1) (rows_itself lines ranks (before ++ row.0 ∷ []) ds rows row.2)

  -- their texts are texts
  claims_texts : (before : List Clause) (ds : Items) (row : List Clause) → claims_onto scripts known before ds ≡ Ok row → all_items is_text ds ≡ true
  unfolding claims_onto
  claims_texts before no_items row is = refl
  claims_texts before (item d ds) row is =
      let claim = ok_first (claim_at scripts known (as_str d)) _ row is in
      rw (by claim.0 (as_str d) claim.1) (claims_texts (before ++ claim.0 ∷ []) ds row claim.2)
    where
      by : (c : Clause) (found : Option (List ℕ)) → claim_at scripts known found ≡ Ok c → is_some found ≡ true
      by c None none = absurd cc
      by c (Some t) some = refl

  row_texts : (found : Option Items) (row : List Clause) → row_in scripts known found ≡ Ok row → are_texts found ≡ true
  row_texts None row is = absurd cc
  row_texts (Some ds) row is = claims_texts [] ds row (within ds row is)

-- rows that stay, behind others
pub rows_again : (lines : List Line) (ranks : ℕ) (rows ds : List Data) → All (λ (d : Data). rows_of lines ranks d ≡ d ∷ []) ds → length (rows ++ ds) ≤ 1024 → rows_behind lines ranks rows ds ≡ Some (rows ++ ds)
unfolding rows_behind
rows_again lines ranks rows [] all few = ap Some (sym (append-nil rows))
rows_again lines ranks rows (d ∷ ds) all few =
    let one : rows_of lines ranks d ≡ d ∷ [] = All-head (λ (e : Data). rows_of lines ranks e ≡ e ∷ []) d ds all in
    let same : (rows ++ d ∷ []) ++ ds ≡ rows ++ d ∷ ds = append_assoc rows (d ∷ []) ds in
    let fits : length ((rows ++ d ∷ []) ++ ds) ≤ 1024 = subst (λ (s : List Data). length s ≤ 1024) (sym same) few in
    let short : length (rows ++ d ∷ []) ≤ 1024 = omega (arith, fits, length-append (rows ++ d ∷ []) ds) in
    let test : leb (length (rows ++ d ∷ [])) 1024 ≡ true = grind (arith, nat_tests, short) in
    rw (one, test) (rows_again lines ranks (rows ++ d ∷ []) ds (All-tail (λ (e : Data). rows_of lines ranks e ≡ e ∷ []) d ds all) fits ∙ ap Some same)

-- rows that are read are such as the job's own key may have
has_before-read : (subject : Subject) (provisos more : List Proviso) (found : Option Members) → proviso_onto subject (codes "row") provisos found ≡ Ok more → has_before found ≡ true
unfolding before_in
has_before-read subject provisos more None is = refl
has_before-read subject provisos more (Some ms) is =
    let name = ok_first (before_in (codes "row") ms) _ more is in
    let ds = ok_first (required as_array (get_member (codes "row") ms)) _ name.0 name.1 in
    let text = ok_first (required_text (codes "before") ms) _ name.0 ds.2 in
    by (get_member (codes "before") ms) text.1
  where
    by : {t : List ℕ} (found : Option Data) → required as_str found ≡ Ok t → is_some (option_and_then as_str found) ≡ true
    by None none = absurd cc
    by (Some (string s)) some = refl
    by (Some (integer z)) some = absurd cc
    by (Some (float x)) some = absurd cc
    by (Some (boolean b)) some = absurd cc
    by (Some (datetime t)) some = absurd cc
    by (Some (array es)) some = absurd cc
    by (Some (table ns)) some = absurd cc

pub are_rows : (scripts : List (List Order)) (known : List Name) (number : ℕ) (before : List (List Clause)) (provisos more : List Proviso) (ds : Items) (rows : List (List Clause)) → rows_onto scripts known before ds ≡ Ok rows
    → row_provisos_onto number provisos ds ≡ Ok more → all_items is_row ds ≡ true
unfolding rows_onto row_provisos_onto
are_rows scripts known number before provisos more no_items rows is has = refl
are_rows scripts known number before provisos more (item d ds) rows is has =
    let row = ok_first (row_in scripts known (items_by (codes "row") d)) _ rows is in
    let one = ok_first (row_proviso_onto number provisos (as_table d)) _ more has in
    rw (row_texts scripts known (items_by (codes "row") d) row.0 row.1, has_before-read (of.Row number) provisos one.0 (as_table d) one.1)
    (are_rows scripts known (number + 1) (before ++ row.0 ∷ []) one.0 more ds rows row.2 one.2)
