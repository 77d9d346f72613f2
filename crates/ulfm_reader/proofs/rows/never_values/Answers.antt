use Rattle.std.proofs.Common.{true, false, sym}
use Rattle.ulfm_reader.proofs.Claims.{arrays_found}
use Rattle.ulfm_reader.proofs.rows.never_values.Goals as goal

pub returns-then-are_rows : goal.returns-then-are_rows
returns-then-are_rows c = sym (arrays_found _ c.as_slice-values.result.now _ true c.in-Some.ensures (rw c.as_slice-values.ensures.value c.in-Some-as_array.ensures) c.if-are_rows.ensures)

pub returns-else-are_rows : goal.returns-else-are_rows
returns-else-are_rows c = sym (arrays_found _ c.as_slice-values.result.now _ false c.in-Some.ensures (rw c.as_slice-values.ensures.value c.in-Some-as_array.ensures) c.if-are_rows.ensures)
