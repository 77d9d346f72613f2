use Rattle.ulfm_reader.proofs.Claims.{texts_found}
use Rattle.ulfm_reader.proofs.rows.has_texts.Goals as goal

pub returns-in-Some : goal.returns-in-Some
returns-in-Some c = rw (c.in-Some.is) (texts_found c.in-Some.values.now c.are_texts.result c.are_texts.ensures)
