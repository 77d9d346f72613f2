use Rattle.std.proofs.Common.{string_bytes, codes}
use Rattle.ulfm_outcomes_list.specs.Listed.{outcomes_view}
use Rattle.ulfm_outcomes_list.specs.ListText.{endings}
use Rattle.ulfm_outcomes_list.proofs.Endings.{joined}
use Rattle.ulfm_outcomes_list.proofs.list_text.told_text.Goals as goal

pub returns : goal.returns
returns c =
    joined string_bytes (codes " | ") _ c.deref.result.now c.in_ok-endings.endings.items (endings c.args.wording (outcomes_view c.args.told.now))
    c.in_ok-join.ensures.ok c.deref.ensures.value c.in_ok-endings.ensures
