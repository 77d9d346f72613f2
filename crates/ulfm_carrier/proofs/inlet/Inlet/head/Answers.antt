use Rattle.std.proofs.Common.{ap, sym, ◌∙◌, map, Some, slice_get}
use Rattle.ulfm_carrier.specs.Head.{head_in}
use Rattle.ulfm_carrier.proofs.inlet.Inlet.head.Goals as goal

pub returns : goal.returns
returns c = ap (λ xs. slice_get (map head_in xs) 0) (sym c.peek_known.ensures.1) ∙ ap Some (sym c.of.ensures)
