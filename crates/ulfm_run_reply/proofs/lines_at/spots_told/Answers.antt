use Rattle.std.proofs.Common.{subst, sym}
use Rattle.std.proofs.lemmas.List.Elements.{All-nil}
use Rattle.ulfm_run_reply.specs.declared.lines_at.LinesAt.{LinesAt}
use Rattle.ulfm_run_reply.specs.inside.Tallied.{AreFew, AreFewAt}
use Rattle.ulfm_run_reply.proofs.lines_at.spots_told.Goals as goal

pub returns-else-is_brief-clause-few : goal.returns-else-is_brief-clause-few
returns-else-is_brief-clause-few c = subst (AreFewAt 0) (sym c.new.ensures.items) (All-nil (λ (lines : LinesAt). AreFew 0 lines.rows.items))
