use Rattle.std.proofs.Common.{Some, map, ap, ◌∙◌}
use Rattle.ulfm_reader.proofs.WrittenOut.{view}
use Rattle.ulfm_reader.proofs.Values.{list-found}
use Rattle.ulfm_reader.proofs.members.list_in.Goals as goal

pub returns-in-Some : goal.returns-in-Some
returns-in-Some c = ap (λ vs. Some (map view vs)) c.as_slice.ensures.value ∙ list-found c.in-Some.items.now.items (view c.args.value.now) c.in-Some.ensures
