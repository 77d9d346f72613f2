use Rattle.ulfm_reader.proofs.NoToml.{only_no_document, always_no_document}
use Rattle.ulfm_reader.proofs.reading.no_toml.Goals as goal

pub returns-clause-only : goal.returns-clause-only
returns-clause-only c = only_no_document

pub returns-clause-always : goal.returns-clause-always
returns-clause-always c = always_no_document
