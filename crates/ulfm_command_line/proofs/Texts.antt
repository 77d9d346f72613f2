-- The reply with the text of a document.
use Rattle.std.proofs.Common.{◌≡◌, ◌<◌, ◌≤◌, true, false, leb, length, Option, Some, None, Global, String, string_bytes, ap, sym, arith}
use Rattle.std.proofs.lemmas.Bool.Decides.{nat_tests}
use Rattle.std.proofs.lemmas.Str.{IsUtf8-string_bytes, is_utf8-from_IsUtf8}
use Rattle.std.specs.Option.{option_and_then}
use Rattle.toml.specs.Data.{Data, Members, string, integer, float, boolean, datetime, array, table, as_table, members_depth}
use Rattle.toml.specs.Parse.{parse_document}
use Rattle.toml.specs.Text.{IsDocumentText}
use Rattle.ulfm_forms.specs.declared.form.Form.{Form}
use Rattle.ulfm_job.specs.declared.fault.JobFault.TheVariants.{NotToml, TooLarge}
use Rattle.ulfm_command_line.specs.Expanded.{IsWritten, written, too_long, too_deep}
use Rattle.ulfm_command_line.specs.Replies.{refused_in}

same_members : (ms ns : Members) → Some ms ≡ Some ns → ms ≡ ns
same_members ms ns e = cc

-- the document of which this is the table
pub of_table : (ms : Members) (document : Option Data) → Some ms ≡ option_and_then as_table document → document ≡ Some (table ms)
of_table ms None is = absurd cc
of_table ms (Some (table ns)) is = ap (λ m. Some (table m)) (sym (same_members ms ns is))
of_table ms (Some (string s)) is = absurd cc
of_table ms (Some (integer z)) is = absurd cc
of_table ms (Some (float x)) is = absurd cc
of_table ms (Some (boolean b)) is = absurd cc
of_table ms (Some (datetime t)) is = absurd cc
of_table ms (Some (array ds)) is = absurd cc

-- of a table that is nested too deep
pub deep_text : (form : Form) (ms : Members) → leb (members_depth ms) 80 ≡ false → IsWritten form ms 1 (refused_in form NotToml)
deep_text form ms deep = too_deep (grind (arith, nat_tests, deep))

-- of a table whose text is too long
pub long_text : (form : Form) (ms : Members) (text : String Global) → IsDocumentText false ms (string_bytes text) → 1048576 < length (string_bytes text) → IsWritten form ms 1 (refused_in form TooLarge)
long_text form ms text is long = too_long (string_bytes text) is long

-- of any other table
pub good_text : (form : Form) (ms : Members) (text : String Global) → leb (members_depth ms) 80 ≡ true → (members_depth ms ≤ 80 → parse_document (string_bytes text) ≡ Some ms)
    → length (string_bytes text) ≤ 1048576 → IsWritten form ms 0 (string_bytes text)
good_text form ms text shallow back short =
    let deepest : members_depth ms ≤ 80 = grind (arith, nat_tests, shallow) in
    written (string_bytes text) (is_utf8-from_IsUtf8 (string_bytes text) (IsUtf8-string_bytes text)) (back deepest) short
