use Rattle.std.proofs.Common.{string_bytes}
use Rattle.ulfm_outcomes_list.proofs.Lines.{one-after}
use Rattle.ulfm_outcomes_list.specs.Told.{at_words, row_head}
use Rattle.ulfm_outcomes_list.proofs.search_result.push_row_words.Goals as goal

pub returns : goal.returns
returns c =
    one-after (string_bytes c.args.text.now) (row_head c.args.number c.args.told.now) (at_words c.args.at) (string_bytes c.push_row_head.new.text) (string_bytes c.push_at_words.new.text)
    c.in_ok-push_row_head.ensures c.in_ok-push_at_words.ensures
