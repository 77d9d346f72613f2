use Rattle.std.proofs.Common.{true, false, sym}
use Rattle.ulfm_reader.proofs.Steps.{tables_found}
use Rattle.ulfm_reader.proofs.head.step_values.Goals as goal

pub returns-then-are_tables : goal.returns-then-are_tables
returns-then-are_tables c = sym (tables_found _ c.as_slice-values.result.now _ true c.in-Some.ensures (rw c.as_slice-values.ensures.value c.in-Some-as_array.ensures) c.if-are_tables.ensures)

pub returns-else-are_tables : goal.returns-else-are_tables
returns-else-are_tables c = sym (tables_found _ c.as_slice-values.result.now _ false c.in-Some.ensures (rw c.as_slice-values.ensures.value c.in-Some-as_array.ensures) c.if-are_tables.ensures)
