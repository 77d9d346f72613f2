use Rattle.ulfm_command_line.proofs.Documents.{written-view}
use Rattle.ulfm_command_line.proofs.expansion.written_document.Goals as goal

pub returns : goal.returns
returns c = written-view c.in_ok-written.written _ c.in_ok-written.ensures
