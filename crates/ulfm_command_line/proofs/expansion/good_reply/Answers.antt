use Rattle.std.proofs.Common.{ap, ◌∙◌}
use Rattle.std.proofs.lemmas.Result.{IfOk-weaker}
use Rattle.std.specs.Option.{option_and_then}
use Rattle.toml.specs.Data.{as_table}
use Rattle.toml.specs.View.{table_view}
use Rattle.ulfm_command_line.specs.Expanded.{document_in}
use Rattle.ulfm_command_line.proofs.Texts.{of_table}
use Rattle.ulfm_command_line.proofs.expansion.good_reply.Goals as goal

pub returns-in-Some : goal.returns-in-Some
returns-in-Some c =
    let found = c.in-Some.ensures ∙ ap (option_and_then as_table) c.in_ok-document.ensures in
    let ms = table_view c.in-Some.table.now in
    IfOk-weaker c.table_reply.result _ _ (λ r replies. (ms, of_table ms (document_in c.args.bytes.now) found, replies)) c.table_reply.ensures
