use Rattle.std.proofs.Common.{Some, map, ap, ◌∙◌}
use Rattle.ulfm_reader.proofs.WrittenOut.{view}
use Rattle.ulfm_reader.proofs.Values.{steps-found}
use Rattle.ulfm_reader.proofs.members.list_at.Goals as goal

pub returns-in-Some-as_array : goal.returns-in-Some-as_array
returns-in-Some-as_array c = ap (λ vs. Some (map view vs)) c.as_slice.ensures.value ∙ steps-found c.in-Some-as_array.items.now.items (view c.in-Some.value.now) _ c.in-Some.ensures c.in-Some-as_array.ensures
