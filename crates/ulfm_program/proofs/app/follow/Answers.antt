use Rattle.std.proofs.Common.{rules}
use Rattle.ulfm_program.specs.Replies.{IsReplyIn}
use Rattle.ulfm_program.proofs.Printed.{printed_begins, printed_gets, printed_known}
use Rattle.ulfm_program.proofs.Refused.{starved_gets, starved_begins, starved_reply}
use Rattle.ulfm_program.proofs.Statuses.{known_status}
use Rattle.ulfm_program.proofs.app.follow.Goals as goal
use Rattle.ulfm_run_reply.specs.AnyBody.{text_in}
use Rattle.ulfm_command_line.specs.Wish.{wish_view}

pub returns-in-Err-OutOfMemory-clause-replies : goal.returns-in-Err-OutOfMemory-clause-replies
returns-in-Err-OutOfMemory-clause-replies g c = starved_gets (IsReplyIn c.args.asked.now.form (wish_view c.args.asked.now.wish) c.args.asked.now.wanted) _ (starved_reply c.args.asked.now.form (wish_view c.args.asked.now.wish) c.args.asked.now.wanted) _ _ _ _ c.write_starved.ensures.written

pub returns-in-Err-OutOfMemory-clause-cut_off : goal.returns-in-Err-OutOfMemory-clause-cut_off
returns-in-Err-OutOfMemory-clause-cut_off g c = starved_begins (IsReplyIn c.args.asked.now.form (wish_view c.args.asked.now.wish) c.args.asked.now.wanted) _ (starved_reply c.args.asked.now.form (wish_view c.args.asked.now.wish) c.args.asked.now.wanted) _ _ _ _ c.write_starved.ensures.failed

pub returns-clause-replies : goal.returns-clause-replies
returns-clause-replies g c = starved_gets (IsReplyIn c.args.asked.now.form (wish_view c.args.asked.now.wish) c.args.asked.now.wanted) _ (starved_reply c.args.asked.now.form (wish_view c.args.asked.now.wish) c.args.asked.now.wanted) _ _ _ _ c.write_starved-in-Err.ensures.written

pub returns-clause-cut_off : goal.returns-clause-cut_off
returns-clause-cut_off g c = starved_begins (IsReplyIn c.args.asked.now.form (wish_view c.args.asked.now.wish) c.args.asked.now.wanted) _ (starved_reply c.args.asked.now.form (wish_view c.args.asked.now.wish) c.args.asked.now.wanted) _ _ _ _ c.write_starved-in-Err.ensures.failed

pub write_body-status-requires : goal.write_body-status-requires
write_body-status-requires g c =
    let known = known_status c.args.asked.now.form (wish_view c.args.asked.now.wish) c.args.asked.now.wanted _ _ (text_in c.args.asked.now.form c.in-Ok-told.reply.body) c.in-Ok-told.ensures in (known.written, known.read)

pub returns-in-Ok-told-clause-replies : goal.returns-in-Ok-told-clause-replies
returns-in-Ok-told-clause-replies g c =
    printed_gets c.args.asked.now.form (wish_view c.args.asked.now.wish) c.args.asked.now.wanted _ c.in-Ok-told.reply c.in-Ok-told.ensures _ _ _ _ (search rules) c.write_body-status.ensures

pub returns-in-Ok-told-clause-cut_off : goal.returns-in-Ok-told-clause-cut_off
returns-in-Ok-told-clause-cut_off g c =
    printed_begins c.args.asked.now.form (wish_view c.args.asked.now.wish) c.args.asked.now.wanted _ c.in-Ok-told.reply c.in-Ok-told.ensures _ _ _ _ (search rules) c.write_body-status.ensures

pub returns-in-Ok-told-clause-output_failed : goal.returns-in-Ok-told-clause-output_failed
returns-in-Ok-told-clause-output_failed g c = λ four. (c.write_body-status.ensures.text, c.write_body-status.ensures.failed four)

pub returns-in-Ok-told-clause-input_failed : goal.returns-in-Ok-told-clause-input_failed
returns-in-Ok-told-clause-input_failed g c =
    let known = printed_known c.args.asked.now.form (wish_view c.args.asked.now.wish) c.args.asked.now.wanted _ c.in-Ok-told.reply c.in-Ok-told.ensures _ _ _ c.write_body-status.ensures in
    λ five. absurd (known.read five)

pub returns-in-Ok-told-clause-no_usage : goal.returns-in-Ok-told-clause-no_usage
returns-in-Ok-told-clause-no_usage g c =
    let known = printed_known c.args.asked.now.form (wish_view c.args.asked.now.wish) c.args.asked.now.wanted _ c.in-Ok-told.reply c.in-Ok-told.ensures _ _ _ c.write_body-status.ensures in
    known.no_usage

pub returns-in-Ok-told-clause-known : goal.returns-in-Ok-told-clause-known
returns-in-Ok-told-clause-known g c =
    let known = printed_known c.args.asked.now.form (wish_view c.args.asked.now.wish) c.args.asked.now.wanted _ c.in-Ok-told.reply c.in-Ok-told.ensures _ _ _ c.write_body-status.ensures in
    known.few
