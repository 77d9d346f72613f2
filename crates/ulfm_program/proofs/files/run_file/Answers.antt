use Rattle.ulfm_command_line.specs.Failure.{out_of_memory_in}
use Rattle.ulfm_command_line.specs.Wish.{wish_view}
use Rattle.ulfm_program.specs.Files.{IsReplyOf, head_of}
use Rattle.ulfm_program.specs.Replies.{IsReplyIn}
use Rattle.ulfm_program.proofs.Answered.{head_cut, file_unread, file_answered, some_read}
use Rattle.ulfm_program.proofs.Refused.{starved_reply}
use Rattle.ulfm_program.proofs.files.run_file.Goals as goal

pub returns-then-not-write_head-clause-answer : goal.returns-then-not-write_head-clause-answer
returns-then-not-write_head-clause-answer g c =
    let wish = wish_view c.args.asked.now.wish in
    let input = g.T.Opens.bytes_of c.args.engine.now.rt.now c.args.file.now in
    let some = some_read input in
    head_cut (IsReplyOf (IsReplyIn c.args.asked.now.form wish c.args.asked.now.wanted) input) (head_of c.args.has_head c.args.file.now) _ _ some.0 3
    (out_of_memory_in c.args.asked.now.form) (record { read = some.1; reply = starved_reply c.args.asked.now.form wish c.args.asked.now.wanted some.0 }) c.write_head.ensures.beginning

pub returns-in-Ok-clause-answer : goal.returns-in-Ok-clause-answer
returns-in-Ok-clause-answer g c =
    let wish = wish_view c.args.asked.now.wish in
    file_answered (IsReplyIn c.args.asked.now.form wish c.args.asked.now.wanted) (head_of c.args.has_head c.args.file.now) _
    (g.T.Opens.bytes_of c.args.engine.now.rt.now c.args.file.now) _ _ _ _ c.in-Ok.ensures (c.write_head.ensures.written c.if-not-write_head.false)
    c.run_opened.ensures.replies c.run_opened.ensures.cut_off c.run_opened.ensures.input_failed

pub returns-in-Err-clause-answer : goal.returns-in-Err-clause-answer
returns-in-Err-clause-answer g c =
    let wish = wish_view c.args.asked.now.wish in
    file_unread (IsReplyOf (IsReplyIn c.args.asked.now.form wish c.args.asked.now.wanted) (g.T.Opens.bytes_of c.args.engine.now.rt.now c.args.file.now))
    (head_of c.args.has_head c.args.file.now) _ _ (c.write_head.ensures.written c.if-not-write_head.false)
