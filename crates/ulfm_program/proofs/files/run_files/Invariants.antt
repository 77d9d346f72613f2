use Rattle.std.proofs.Common.{◌≤◌, map, take}
use Rattle.ulfm_program.specs.Replies.{IsReplyIn}
use Rattle.ulfm_program.proofs.InTurn.{Wrote}
use Rattle.ulfm_program.proofs.files.run_files.Given as goal
use Rattle.ulfm_command_line.specs.Wish.{wish_view}

abbrev pub invariant-loop-file : goal.invariant-loop-file
invariant-loop-file g l = record {
  few : l.greatest ≤ 9;
  wrote : Wrote (IsReplyIn l.asked.form (wish_view l.asked.wish) l.asked.wanted) (g.T.Opens.bytes_of l.engine.rt.now) l.has_head (map (λ f. f.now) (take l.file-index l.files)) (g.W.Write.contents l.initial.output) (g.W.Write.contents l.output) l.greatest;
}
