-- Rows of `never` of a job that is written out.
use Rattle.std.proofs.Common.{◌≡◌, ◌≤◌, ◌+◌, ℕ, List, [], ◌∷◌, All, length, Bool, true, false, Option, Some, None, Ok, Err, refl, sym, subst, ap, ◌∙◌, arith}
use Rattle.std.proofs.lemmas.Bool.Decides.{nat_tests}
use Rattle.std.specs.Prelude.{codes, if◌then◌else◌}
use Rattle.toml.specs.Data.{Data, Items, Members, string, integer, float, boolean, datetime, array, table, get_member}
use Rattle.toml.specs.View.{items_of}
use Rattle.ulfm_job.specs.declared.clause.Clause.{Clause}
use Rattle.ulfm_job.specs.declared.fault.Fault.TheVariants.{BadKey, OutOfRange}
use Rattle.ulfm_reader.specs.Documents.{rows_in as rows_of_job, with_lines, with_rows}
use Rattle.ulfm_reader.specs.JobText.{Head}
use Rattle.ulfm_reader.specs.Keys.{items_len}
use Rattle.ulfm_reader.specs.Line.{Line}
use Rattle.ulfm_reader.specs.Members.{list_at, listed}
use Rattle.ulfm_reader.specs.Never.{all_items, is_row, is_within, never_items, never_items_in, never_out, rows_in, rows_onto, rows_or_many}
use Rattle.ulfm_reader.specs.Plan.{Order}
use Rattle.ulfm_reader.specs.Provisos.{if_named, provisos_in, row_provisos_onto}
use Rattle.ulfm_reader.specs.Rows.{rows_of as rows_of_item, rows_out}
use Rattle.ulfm_reader.specs.declared.name.Name.{Name}
use Rattle.ulfm_reader.specs.declared.proviso.Proviso.{Proviso}
use Rattle.ulfm_program.proofs.OwnKeys.{HeadParts, lines_kept, listed_of, ranks_same}
use Rattle.ulfm_program.proofs.Keyed.{get-put}
use Rattle.ulfm_program.proofs.Plain.{ok_first, ok_is}
use Rattle.ulfm_program.proofs.SameRows.{are_rows, rows_again, rows_itself}

-- what the rows of a job come to, as they are read
module _ (scripts : List (List Order)) (known : List Name) (before provisos : List Proviso) (rows : List (List Clause)) where
  -- rows that are read are within their limit, and stay as they are
  stay : (lines : List Line) (ranks : ℕ) (ds : List Data) → rows_in scripts known (Some (items_of ds)) ≡ Ok rows → never_out lines ranks (Some (items_of ds)) ≡ Ok (Some (items_of ds))
  stay lines ranks ds is =
      let parts = within (is_within 1 1024 (items_of ds)) refl is in
      let all = subst (All (λ (d : Data). rows_of_item lines ranks d ≡ d ∷ [])) (listed_of ds) (rows_itself scripts known lines ranks [] (items_of ds) rows parts.1) in
      let out : rows_out lines ranks (listed (items_of ds)) ≡ Some ds = ap (rows_out lines ranks) (listed_of ds) ∙ rows_again lines ranks [] ds all (subst (λ (n : ℕ). n ≤ 1024) (len ds) parts.0) in
      ap rows_or_many out
    where
      len : (es : List Data) → items_len (items_of es) ≡ length es
      len [] = refl
      len (e ∷ es) = ap (λ (n : ℕ). n + 1) (len es) ∙ (omega arith)

      within : (b : Bool) → is_within 1 1024 (items_of ds) ≡ b → (if b then rows_onto scripts known [] (items_of ds) else Err OutOfRange) ≡ Ok rows → (items_len (items_of ds) ≤ 1024) × (rows_onto scripts known [] (items_of ds) ≡ Ok rows)
      within true inside found = (grind (arith, nat_tests, inside), found)
      within false outside none = absurd cc

  -- and are such as the key may have
  are : (ds : Items) → rows_in scripts known (Some ds) ≡ Ok rows → provisos_in known before (Some ds) ≡ Ok provisos → all_items is_row ds ≡ true
  are ds is has =
      let onto = ok_first (row_provisos_onto 0 before ds) (if_named known) provisos has in
      are_rows scripts known 0 [] before onto.0 ds rows (within (is_within 1 1024 ds) is) onto.1
    where
      within : (b : Bool) → (if b then rows_onto scripts known [] ds else Err OutOfRange) ≡ Ok rows → rows_onto scripts known [] ds ≡ Ok rows
      within true found = found
      within false none = absurd cc

-- the rows of a job that is written out, and that they stay as they are
pub record RowsAgain (ms : Members) (h : Head) (lines : List Line) (never : Option Items) : Type 0 where
  pub there : never_items (with_rows (with_lines ms (Some lines)) (rows_of_job ms (Some lines))) ≡ Ok never
  pub stays : (more : List Line) → never_out more h.ranks never ≡ Ok never

module _ (ms : Members) (h : Head) (parts : HeadParts ms h) (lines : List Line) (never : Option Items) (scripts : List (List Order)) (known : List Name) (before provisos : List Proviso) (rows : List (List Clause))
    (out : never_out lines h.ranks h.never ≡ Ok never) (has : provisos_in known before never ≡ Ok provisos) (are_read : rows_in scripts known never ≡ Ok rows) where
  -- there are none
  no_rows : get_member (codes "never") ms ≡ None → RowsAgain ms h lines never
  no_rows none =
      let none_read : h.never ≡ None = sym (ok_is None h.never (sym (ap never_items_in none) ∙ parts.never)) in
      let none_out : never ≡ None = sym (ok_is None never (sym (ap (never_out lines h.ranks) none_read) ∙ out)) in
      let no_list : list_at (codes "never") ms ≡ None = rw none refl in
      let not_put : rows_of_job ms (Some lines) ≡ None = rw no_list refl in
      let left : get_member (codes "never") (with_rows (with_lines ms (Some lines)) (rows_of_job ms (Some lines))) ≡ None =
      ap (λ (r : Option (List Data)). get_member (codes "never") (with_rows (with_lines ms (Some lines)) r)) not_put ∙ lines_kept (codes "never") ms (Some lines) refl ∙ none in
      record {
        there = ap never_items_in left ∙ ap Ok (sym none_out);
        stays = λ more. rw none_out refl;
      }

  -- these rows come of a list
  some_rows : (ds : Items) → get_member (codes "never") ms ≡ Some (array ds) → h.never ≡ Some ds → (found : Option (List Data)) → rows_out lines h.ranks (listed ds) ≡ found → RowsAgain ms h lines never
  some_rows ds here read None many = let bad : never_out lines h.ranks h.never ≡ Err OutOfRange = rw (read, many) refl in absurd cc
  some_rows ds here read (Some found) outs =
      let written : never ≡ Some (items_of found) = sym (ok_is (Some (items_of found)) never (sym (rw (read, outs) refl) ∙ out)) in
      let list : list_at (codes "never") ms ≡ Some (listed ds) = rw here refl in
      let put_in : rows_of_job ms (Some lines) ≡ Some found = rw (list, ranks_same ms h parts) outs in
      let left : get_member (codes "never") (with_rows (with_lines ms (Some lines)) (rows_of_job ms (Some lines))) ≡ Some (array (items_of found)) =
      ap (λ (r : Option (List Data)). get_member (codes "never") (with_rows (with_lines ms (Some lines)) r)) put_in ∙ get-put (codes "never") (array (items_of found)) (with_lines ms (Some lines)) in
      let read_again : rows_in scripts known (Some (items_of found)) ≡ Ok rows = ap (rows_in scripts known) (sym written) ∙ are_read in
      let has_again : provisos_in known before (Some (items_of found)) ≡ Ok provisos = ap (provisos_in known before) (sym written) ∙ has in
      let good : all_items is_row (items_of found) ≡ true = are scripts known before provisos rows (items_of found) read_again has_again in
      record {
        there = ap never_items_in left ∙ rw good refl ∙ ap Ok (sym written);
        stays = λ more. ap (never_out more h.ranks) written ∙ stay scripts known before provisos rows more h.ranks found read_again ∙ ap Ok (sym written);
      }

  by_data : (d : Data) → get_member (codes "never") ms ≡ Some d → never_items_in (Some d) ≡ Ok h.never → RowsAgain ms h lines never
  by_data (array ds) here read = of_list (all_items is_row ds) read
    where
      of_list : (b : Bool) → (if b then Ok (Some ds) else Err BadKey) ≡ Ok h.never → RowsAgain ms h lines never
      of_list true good = some_rows ds here (sym (ok_is (Some ds) h.never good)) (rows_out lines h.ranks (listed ds)) refl
      of_list false not = absurd cc
  by_data (string s) here read = absurd cc
  by_data (integer z) here read = absurd cc
  by_data (float x) here read = absurd cc
  by_data (boolean b) here read = absurd cc
  by_data (datetime t) here read = absurd cc
  by_data (table ns) here read = absurd cc

  pub rows_are_again : RowsAgain ms h lines never
  rows_are_again = by (get_member (codes "never") ms) refl parts.never
    where
      by : (found : Option Data) → get_member (codes "never") ms ≡ found → never_items_in found ≡ Ok h.never → RowsAgain ms h lines never
      by None none read = no_rows none
      by (Some d) here read = by_data d here read
