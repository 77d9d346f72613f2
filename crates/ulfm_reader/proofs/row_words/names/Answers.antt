use Rattle.std.proofs.Common.{sym, ◌∙◌}
use Rattle.ulfm_reader.proofs.Over.{any_view}
use Rattle.ulfm_reader.specs.Rows.{says}
use Rattle.ulfm_reader.proofs.row_words.names.Goals as goal

pub returns : goal.returns
returns c = c.any_says.ensures ∙ sym (any_view (says c.args.word.now) c.args.row.now)
