use Rattle.std.proofs.Common.{◌≡◌, arith, max}
use Rattle.ulfm_program.specs.Replies.{IsReplyIn}
use Rattle.ulfm_program.proofs.InTurn.{wrote_none, wrote_more, wrote_all, wrote_part, next_item, items_at, items_all, several}
use Rattle.ulfm_program.proofs.files.run_files.Goals as goal
use Rattle.ulfm_program.proofs.files.run_files.Goals.{then-greatest-status, else-greatest-status}
use Rattle.ulfm_command_line.specs.Wish.{wish_view}

pub loop-file-init : goal.loop-file-init
loop-file-init g c = record { few = omega arith; wrote = wrote_none _ _ _ _ }

pub loop-file-preserved : goal.loop-file-preserved
loop-file-preserved g c =
    let most : c.if-greatest-status.greatest ≡ max c.loop-file.greatest c.run_file-status.result = elim c.if-greatest-status.branch [ then-greatest-status w ↦ omega arith | else-greatest-status w ↦ omega arith ] in
    record {
      few = omega (arith, c.loop-file.invariant.few, c.run_file-status.ensures.known);
      wrote = wrote_more (IsReplyIn c.args.asked.now.form (wish_view c.args.asked.now.wish) c.args.asked.now.wanted) (g.T.Opens.bytes_of c.args.engine.now.rt.now) _ _ _ _ _ _ _ _ _ c.if-greatest-status.greatest (next_item (λ f. f.now) c.as_slice-files.result.now c.loop-file.file-index _ c.loop-file-test.true) most
          c.if-status-eq-OUTPUT_FAILED.false c.loop-file.invariant.wrote c.run_file-status.ensures.answer;
    }

pub returns-then-status-eq-OUTPUT_FAILED-clause-answers : goal.returns-then-status-eq-OUTPUT_FAILED-clause-answers
returns-then-status-eq-OUTPUT_FAILED-clause-answers g c =
    let most : c.if-greatest-status.greatest ≡ max c.loop-file.greatest c.run_file-status.result = elim c.if-greatest-status.branch [ then-greatest-status w ↦ omega arith | else-greatest-status w ↦ omega arith ] in
    wrote_part (IsReplyIn c.args.asked.now.form (wish_view c.args.asked.now.wish) c.args.asked.now.wanted) (g.T.Opens.bytes_of c.args.engine.now.rt.now) _ _ _ _ _ _ _ _ _ _ c.if-greatest-status.greatest (items_at (λ f. f.now) c.as_slice-files.result.now _ c.loop-file.file-index _ c.as_slice-files.ensures.value c.loop-file-test.true) most
    c.if-status-eq-OUTPUT_FAILED.true (several (λ f. f.now) _ _ c.as_slice-files.ensures.value) c.loop-file.invariant.wrote c.run_file-status.ensures.answer

pub returns-clause-answers : goal.returns-clause-answers
returns-clause-answers g c =
    wrote_all (IsReplyIn c.args.asked.now.form (wish_view c.args.asked.now.wish) c.args.asked.now.wanted) (g.T.Opens.bytes_of c.args.engine.now.rt.now) _ _ _ _ _ _ (items_all (λ f. f.now) c.as_slice-files.result.now _ c.loop-file.file-index c.as_slice-files.ensures.value c.loop-file-test.false)
    (several (λ f. f.now) _ _ c.as_slice-files.ensures.value) c.loop-file.invariant.wrote
