-- A job written out is read as the same job.
use Rattle.std.proofs.Common.{◌≡◌, ◌≤◌, ◌+◌, ℕ, suc, List, [], ◌∷◌, All, length, Bool, true, false, ltb, leb, Option, Some, None, Result, Ok, Err, refl, sym, ap, ◌∙◌, arith}
use Rattle.std.proofs.lemmas.Bool.Decides.{nat_tests}
use Rattle.std.specs.Prelude.{codes, if◌then◌else◌}
use Rattle.toml.specs.Data.{Data, Items, Members, string, integer, float, boolean, datetime, array, table, get_member}
use Rattle.toml.specs.Parse.{parse_document}
use Rattle.toml.specs.View.{items_of}
use Rattle.std.specs.Str.{is_utf8}
use Rattle.ulfm_command_line.specs.Expanded as reply
use Rattle.ulfm_command_line.specs.Expanded.{IsExpandReply, IsWritten, document_in}
use Rattle.ulfm_job.specs.declared.clause.Clause.{Clause}
use Rattle.ulfm_job.specs.declared.fault.Fault.{Fault}
use Rattle.ulfm_job.specs.declared.fault.Fault.TheVariants.{BadKey}
use Rattle.ulfm_job.specs.declared.fault.JobFault.TheVariants as refused
use Rattle.ulfm_reader.proofs.Claims.{in_job-ok}
use Rattle.ulfm_reader.specs.Documents.{lines_in, rows_in as rows_of_job, with_lines, with_rows, written_job}
use Rattle.ulfm_reader.specs.JobText.{Draft, Head, Reading, are_tables, blank, head_of, in_job, lines_of, never_of, read_as, reading_of, reading_of_bytes, reading_of_document, rest_of, step_items_in, steps_of}
use Rattle.ulfm_reader.specs.Keys.{◌>>=◌}
use Rattle.ulfm_reader.specs.Line.{Line, steps_of as steps_in}
use Rattle.ulfm_reader.specs.Lines.{written_out}
use Rattle.ulfm_reader.specs.Members.{list_at, listed}
use Rattle.ulfm_reader.specs.Never.{never_out, rows_in}
use Rattle.ulfm_reader.specs.Provisos.{provisos_in}
use Rattle.ulfm_reader.specs.declared.filed.Filed.{Filed}
use Rattle.ulfm_reader.specs.declared.proviso.Proviso.{Proviso}
use Rattle.ulfm_program.specs.Laws.{ExpandsAlike, filed_as as read_from}
use Rattle.ulfm_program.proofs.SameLines.{written_again}
use Rattle.ulfm_program.proofs.Numbered.{IsPlainStep, filed_as, lines_alike, lines_plain, numbered}
use Rattle.ulfm_program.proofs.OwnKeys.{HeadParts, head_again, head_parts, kept, keys_are, keys_kept, listed_of, ranks_same, steps_put}
use Rattle.ulfm_program.proofs.Plain.{ok_first, ok_is}
use Rattle.ulfm_program.proofs.RowsAgain.{RowsAgain, rows_are_again}

numbered_length : (k : ℕ) (ds : List Data) → length (numbered k ds) ≡ length ds
numbered_length k [] = refl
numbered_length k (d ∷ ds) = ap suc (numbered_length (k + 1) ds)

steps_length : (lines : List Line) → length (steps_in lines) ≡ length lines
steps_length [] = refl
steps_length (l ∷ ls) = ap suc (steps_length ls)

module _ (ms : Members) (h : Head) (parts : HeadParts ms h) (draft : Draft) (never : Option Items) (provisos : List Proviso) (rows : List (List Clause))
    (few : length (lines_of h) ≤ 256) (read : steps_of h.ranks (blank h.ranks) (lines_of h) ≡ Ok draft) (out : never_out (lines_of h) h.ranks h.never ≡ Ok never)
    (has : provisos_in draft.names draft.provisos never ≡ Ok provisos) (are_read : rows_in draft.scripts draft.names never ≡ Ok rows) where
  -- what it comes to
  abbrev Again : Type 0
  Again = (filed : List Filed) × (reading_of (written_job ms) ≡ Ok (read_from filed (read_as h draft provisos rows)))

  -- the steps that are written out
  abbrev steps : List Data
  steps = steps_in (lines_of h)

  all_plain : All IsPlainStep steps
  all_plain = lines_plain h.ranks (blank h.ranks) draft (lines_of h) read

  there : RowsAgain ms h (lines_of h) never
  there = rows_are_again ms h parts (lines_of h) never draft.scripts draft.names draft.provisos provisos rows out has are_read

  -- the job with these steps and rows
  abbrev written : Members
  written = with_rows (with_lines ms (Some (lines_of h))) (rows_of_job ms (Some (lines_of h)))

  -- its own keys
  abbrev head : Head
  head = record h { steps = items_of steps; never = never }

  its_head : head_of written ≡ Ok head
  its_head =
      head_again ms written h (items_of steps) never parts (kept (codes "ranks") ms (Some (lines_of h)) (rows_of_job ms (Some (lines_of h))) refl refl)
      (kept (codes "capacity") ms (Some (lines_of h)) (rows_of_job ms (Some (lines_of h))) refl refl) (kept (codes "turns") ms (Some (lines_of h)) (rows_of_job ms (Some (lines_of h))) refl refl)
      (steps_put ms (lines_of h) (rows_of_job ms (Some (lines_of h))) all_plain) there.there (keys_kept ms (Some (lines_of h)) (rows_of_job ms (Some (lines_of h))) (keys_are ms h parts))

  its_lines : lines_of head ≡ numbered 0 steps
  its_lines = ap (written_out h.ranks) (listed_of steps) ∙ written_again h.ranks steps all_plain

  its_rows : (g : List Filed) → never_of head never (filed_as g draft) ≡ Ok (read_from g (read_as h draft provisos rows))
  its_rows g = rw (has, are_read) refl

  its_rest : (g : List Filed) → rest_of head (filed_as g draft) ≡ Ok (read_from g (read_as h draft provisos rows))
  its_rest g = ap (λ (r : Result (Option Items) Fault). in_job r >>= (λ n. never_of head n (filed_as g draft))) (there.stays (lines_of head)) ∙ its_rows g

  read_again : (filed : List Filed) × (reading_of written ≡ Ok (read_from filed (read_as h draft provisos rows)))
  unfolding reading_of
  read_again =
      let steps_again = lines_alike h.ranks 0 [] (blank h.ranks) draft (lines_of h) read in
      let long : length (numbered 0 steps) ≤ 256 = omega (arith, few, numbered_length 0 steps, steps_length (lines_of h)) in
      let test : ltb 256 (length (numbered 0 steps)) ≡ false = grind (arith, nat_tests, long) in
      (steps_again.0, rw (its_head, its_lines, test, steps_again.1) (its_rest steps_again.0))

  -- the job's table has such a list of steps
  listed_steps : (ds : Items) → get_member (codes "step") ms ≡ Some (array ds) → h.steps ≡ ds → Again
  listed_steps ds here are =
      let list : list_at (codes "step") ms ≡ Some (listed h.steps) = rw (here, are) refl in
      let test : leb (length (lines_of h)) 256 ≡ true = grind (arith, nat_tests, few) in
      let lines : lines_in ms ≡ Some (lines_of h) = rw (list, ranks_same ms h parts, test) refl in
      let same : written_job ms ≡ written = ap (λ (l : Option (List Line)). with_rows (with_lines ms l) (rows_of_job ms l)) lines in
      (read_again.0, ap reading_of same ∙ read_again.1)

  -- it has none
  no_steps : reading_of ms ≡ Ok (read_as h draft provisos rows) → get_member (codes "step") ms ≡ None → Again
  no_steps is none =
      let list : list_at (codes "step") ms ≡ None = rw none refl in
      let lines : lines_in ms ≡ None = rw list refl in
      let same : written_job ms ≡ ms = ap (λ (l : Option (List Line)). with_rows (with_lines ms l) (rows_of_job ms l)) lines in
      (draft.filed, ap reading_of same ∙ is)

  pub job_again : reading_of ms ≡ Ok (read_as h draft provisos rows) → Again
  job_again is = by (get_member (codes "step") ms) refl parts.steps
    where
      of_list : (ds : Items) (b : Bool) → get_member (codes "step") ms ≡ Some (array ds) → (if b then Ok ds else Err BadKey) ≡ Ok h.steps → Again
      of_list ds true here are = listed_steps ds here (sym (ok_is ds h.steps are))
      of_list ds false here not = absurd cc

      by : (found : Option Data) → get_member (codes "step") ms ≡ found → step_items_in found ≡ Ok h.steps → Again
      by None none steps_read = no_steps is none
      by (Some (array ds)) here steps_read = of_list ds (are_tables ds) here steps_read
      by (Some (string s)) here steps_read = absurd cc
      by (Some (integer z)) here steps_read = absurd cc
      by (Some (float x)) here steps_read = absurd cc
      by (Some (boolean b)) here steps_read = absurd cc
      by (Some (datetime t)) here steps_read = absurd cc
      by (Some (table ns)) here steps_read = absurd cc

-- a job written out
jobs_alike : (ms : Members) (reading : Reading) → reading_of ms ≡ Ok reading → (filed : List Filed) × (reading_of (written_job ms) ≡ Ok (read_from filed reading))
unfolding reading_of
jobs_alike ms reading is =
    let head = ok_first (in_job (head_of ms)) _ reading is in
    let parts = head_parts ms head.0 (in_job-ok (head_of ms) head.0 head.1) in
    by head.0 parts (ltb 256 (length (lines_of head.0))) refl head.2
  where
    by : (h : Head) → HeadParts ms h → (b : Bool) → ltb 256 (length (lines_of h)) ≡ b → (if b then Err refused.TooLarge else steps_of h.ranks (blank h.ranks) (lines_of h) >>= rest_of h) ≡ Ok reading
        → (filed : List Filed) × (reading_of (written_job ms) ≡ Ok (read_from filed reading))
    by h parts true many found = absurd cc
    by h parts false few found =
        let draft = ok_first (steps_of h.ranks (blank h.ranks) (lines_of h)) (rest_of h) reading found in
        let never = ok_first (in_job (never_out (lines_of h) h.ranks h.never)) _ reading draft.2 in
        let provisos = ok_first (in_job (provisos_in draft.0.names draft.0.provisos never.0)) _ reading never.2 in
        let rows = ok_first (in_job (rows_in draft.0.scripts draft.0.names never.0)) _ reading provisos.2 in
        let same : read_as h draft.0 provisos.0 rows.0 ≡ reading = ok_is (read_as h draft.0 provisos.0 rows.0) reading rows.2 in
        let short : length (lines_of h) ≤ 256 = grind (arith, nat_tests, few) in
        let again = job_again ms h parts draft.0 never.0 provisos.0 rows.0 short draft.1 (in_job-ok (never_out (lines_of h) h.ranks h.never) never.0 never.1)
        (in_job-ok (provisos_in draft.0.names draft.0.provisos never.0) provisos.0 provisos.1) (in_job-ok (rows_in draft.0.scripts draft.0.names never.0) rows.0 rows.1) (is ∙ ap Ok (sym same)) in
        (again.0, again.1 ∙ ap (λ (r : Reading). Ok (read_from again.0 r)) same)

same_table : (ms ns : Members) → Some (table ms) ≡ Some (table ns) → ms ≡ ns
same_table ms ns e = cc

-- the law, where the document of the bytes is known
of_documents : (bytes text : List ℕ) (ms out : Members) (reading : Reading) → is_utf8 bytes ≡ true → parse_document bytes ≡ Some ms → reading_of ms ≡ Ok reading
    → document_in bytes ≡ Some (table out) → is_utf8 text ≡ true → parse_document text ≡ Some out → length text ≤ 1048576
    → (filed : List Filed) × (reading_of_bytes text ≡ Ok (read_from filed reading))
unfolding reading_of_bytes
of_documents bytes text ms out reading good parsed is document readable again short =
    let by_parts : document_in bytes ≡ Some (table (written_job ms)) = rw (good, parsed) refl in
    let same : parse_document text ≡ Some (written_job ms) = again ∙ ap Some (same_table out (written_job ms) (sym document ∙ by_parts)) in
    let alike = jobs_alike ms reading is in
    let test : ltb 1048576 (length text) ≡ false = grind (arith, nat_tests, short) in
    (alike.0, rw (test, readable, same) alike.1)

-- the law, where the text is known
of_texts : (bytes text : List ℕ) (out : Members) (reading : Reading) → reading_of_bytes bytes ≡ Ok reading → document_in bytes ≡ Some (table out)
    → is_utf8 text ≡ true → parse_document text ≡ Some out → length text ≤ 1048576 → (filed : List Filed) × (reading_of_bytes text ≡ Ok (read_from filed reading))
unfolding reading_of_bytes
of_texts bytes text out reading is document readable again short = by_size (ltb 1048576 (length bytes)) is
  where
    by_document : (found : Option Members) → parse_document bytes ≡ found → is_utf8 bytes ≡ true → reading_of_document found ≡ Ok reading → (filed : List Filed) × (reading_of_bytes text ≡ Ok (read_from filed reading))
    by_document None none good read = absurd cc
    by_document (Some ms) found good read = of_documents bytes text ms out reading good found read document readable again short

    by_text : (b : Bool) → is_utf8 bytes ≡ b → (if b then reading_of_document (parse_document bytes) else Err refused.NotToml) ≡ Ok reading → (filed : List Filed) × (reading_of_bytes text ≡ Ok (read_from filed reading))
    by_text true good read = by_document (parse_document bytes) refl good read
    by_text false bad read = absurd cc

    by_size : (b : Bool) → (if b then Err refused.TooLarge else if is_utf8 bytes then reading_of_document (parse_document bytes) else Err refused.NotToml) ≡ Ok reading → (filed : List Filed) × (reading_of_bytes text ≡ Ok (read_from filed reading))
    by_size true read = absurd cc
    by_size false read = by_text (is_utf8 bytes) refl read

-- the law
pub expands_alike : ExpandsAlike
expands_alike form bytes text reading is writes = by 0 text refl writes
  where
    of_written : (out : Members) (status : ℕ) (t : List ℕ) → status ≡ 0 → document_in bytes ≡ Some (table out) → IsWritten form out status t → (filed : List Filed) × (reading_of_bytes t ≡ Ok (read_from filed reading))
    of_written out status t zero document (reply.written s readable again short) = of_texts bytes s out reading is document readable again short
    of_written out status t zero document (reply.too_long s long_is long) = absurd cc
    of_written out status t zero document (reply.too_deep deep) = absurd cc

    by : (status : ℕ) (t : List ℕ) → status ≡ 0 → IsExpandReply form bytes status t → (filed : List Filed) × (reading_of_bytes t ≡ Ok (read_from filed reading))
    by status t zero (reply.expanded plan out s u job document writes) = of_written out s u zero document writes
    by status t zero (reply.unexpanded f refusal) = absurd cc
    by status t zero reply.full = absurd cc
    by status t zero reply.starved = absurd cc
