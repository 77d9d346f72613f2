use Rattle.std.proofs.Common.{◌≡◌, Some, arith, sym, ap, ◌∙◌}
use Rattle.ulfm_reader.proofs.Common.{table_view, parse_document}
use Rattle.ulfm_reader.proofs.Jobs.{no_text, of_text}
use Rattle.ulfm_reader.proofs.reading.ReadingReadJob.read.Goals as goal

pub returns-in_default : goal.returns-in_default
returns-in_default c = λ _. no_text _ (omega (arith, c.if-bytes-gt-MOST_BYTES.false)) c.in_default.ensures.cases.0

pub returns-in-Ok-table_from_str : goal.returns-in-Ok-table_from_str
returns-in-Ok-table_from_str c =
    let text = c.in-Ok.ensures.cases in
    let parsed : parse_document c.args.bytes.now ≡ Some (table_view c.in-Ok-table_from_str.table) = ap parse_document (sym text.0) ∙ c.in-Ok-table_from_str.ensures.ok in
    rw (of_text _ _ (omega (arith, c.if-bytes-gt-MOST_BYTES.false)) text.1 parsed) c.reading_of.ensures
