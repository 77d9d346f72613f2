use Rattle.std.proofs.Common.{ap, option_map, sym, ◌∙◌}
use Rattle.std.proofs.lemmas.Result.{IfOk-weaker}
use Rattle.toml.specs.Parse.{parse_document}
use Rattle.toml.specs.View.{table_view, view}
use Rattle.ulfm_command_line.proofs.Documents.{no_document, of_document}
use Rattle.ulfm_command_line.proofs.expansion.document_of.Goals as goal

pub returns-in_default : goal.returns-in_default
returns-in_default c = no_document c.args.bytes.now c.in_default.ensures.cases.0

pub returns-in-Ok-table_from_str : goal.returns-in-Ok-table_from_str
returns-in-Ok-table_from_str c =
    let cases = c.in-Ok.ensures.cases in
    let parsed = sym (ap parse_document cases.0) ∙ c.in-Ok-table_from_str.ensures.ok in
    IfOk-weaker c.written_document.result _ _ (λ document is. of_document c.args.bytes.now (table_view c.in-Ok-table_from_str.table) (option_map view document) cases.1 parsed is) c.written_document.ensures
