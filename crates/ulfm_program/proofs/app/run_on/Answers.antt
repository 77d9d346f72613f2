use Rattle.std.proofs.Common.{◌≡◌, ◌∙◌, map, sym}
use Rattle.std.proofs.lemmas.Option.{same_Some}
use Rattle.ulfm_command_line.specs.CommandLine.{form_asked}
use Rattle.ulfm_command_line.specs.Failure.{out_of_memory_text}
use Rattle.ulfm_command_line.specs.Wish.{wish_asked}
use Rattle.ulfm_program.specs.Replies.{IsReplyTo, unfollowed}
use Rattle.ulfm_program.proofs.Followed.{followed_gets, followed_begins}
use Rattle.ulfm_program.proofs.Refused.{starved_gets, starved_begins}
use Rattle.ulfm_program.proofs.app.run_on.Goals as goal

pub returns-in-Ok-clause-replies : goal.returns-in-Ok-clause-replies
returns-in-Ok-clause-replies g c = λ wanted asks whole.
    let same : c.in-Ok.asked.wanted ≡ wanted = same_Some c.in-Ok.asked.wanted wanted (sym c.in-Ok.ensures.ok ∙ asks.1) in
    followed_gets c.in-Ok.ensures.form c.in-Ok.ensures.wish same _ _ _ _ (c.follow.ensures.replies whole)

pub returns-in-Ok-clause-cut_off : goal.returns-in-Ok-clause-cut_off
returns-in-Ok-clause-cut_off g c = λ wanted asks four.
    let same : c.in-Ok.asked.wanted ≡ wanted = same_Some c.in-Ok.asked.wanted wanted (sym c.in-Ok.ensures.ok ∙ asks.1) in
    followed_begins c.in-Ok.ensures.form c.in-Ok.ensures.wish same _ _ _ (c.follow.ensures.cut_off four)

pub returns-in-Err-OutOfMemory-clause-replies : goal.returns-in-Err-OutOfMemory-clause-replies
returns-in-Err-OutOfMemory-clause-replies g c =
    let words = map g.S.AsStr.text c.args.words.now in
    λ wanted asks. starved_gets (IsReplyTo (form_asked words) (wish_asked words) wanted) out_of_memory_text (λ bytes. unfollowed) _ _ _ _ c.write_starved.ensures.written

pub returns-in-Err-OutOfMemory-clause-cut_off : goal.returns-in-Err-OutOfMemory-clause-cut_off
returns-in-Err-OutOfMemory-clause-cut_off g c =
    let words = map g.S.AsStr.text c.args.words.now in
    λ wanted asks. starved_begins (IsReplyTo (form_asked words) (wish_asked words) wanted) out_of_memory_text (λ bytes. unfollowed) _ _ _ _ c.write_starved.ensures.failed
