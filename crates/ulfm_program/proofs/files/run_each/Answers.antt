use Rattle.std.proofs.Common.{◌≡◌, ◌∙◌, inr, map, sym}
use Rattle.std.proofs.lemmas.Option.{same_Some}
use Rattle.ulfm_command_line.specs.CommandLine.{form_asked}
use Rattle.ulfm_command_line.specs.Failure.{out_of_memory_text}
use Rattle.ulfm_command_line.specs.Wish.{wish_asked}
use Rattle.ulfm_program.specs.Replies.{IsReplyTo, unfollowed}
use Rattle.ulfm_program.proofs.Followed.{followed_gets, followed_begins}
use Rattle.ulfm_program.proofs.InTurn.{answers_asked}
use Rattle.ulfm_program.proofs.Refused.{starved_gets, starved_begins}
use Rattle.ulfm_program.proofs.files.run_each.Goals as goal

pub returns-then-is_empty-clause-replies : goal.returns-then-is_empty-clause-replies
returns-then-is_empty-clause-replies g c = λ none wanted asks whole.
    let same : c.in-Ok.asked.wanted ≡ wanted = same_Some c.in-Ok.asked.wanted wanted (sym c.in-Ok.ensures.ok ∙ asks.1) in
    followed_gets c.in-Ok.ensures.form c.in-Ok.ensures.wish same _ _ _ _ (c.follow.ensures.replies whole)

pub returns-then-is_empty-clause-cut_off : goal.returns-then-is_empty-clause-cut_off
returns-then-is_empty-clause-cut_off g c = λ none wanted asks four.
    let same : c.in-Ok.asked.wanted ≡ wanted = same_Some c.in-Ok.asked.wanted wanted (sym c.in-Ok.ensures.ok ∙ asks.1) in
    followed_begins c.in-Ok.ensures.form c.in-Ok.ensures.wish same _ _ _ (c.follow.ensures.cut_off four)

pub returns-in-Err-OutOfMemory-clause-replies : goal.returns-in-Err-OutOfMemory-clause-replies
returns-in-Err-OutOfMemory-clause-replies g c =
    let words = map g.S.AsStr.text c.args.words.now in
    λ none wanted asks. starved_gets (IsReplyTo (form_asked words) (wish_asked words) wanted) out_of_memory_text (λ bytes. unfollowed) _ _ _ _ c.write_starved.ensures.written

pub returns-in-Err-OutOfMemory-clause-cut_off : goal.returns-in-Err-OutOfMemory-clause-cut_off
returns-in-Err-OutOfMemory-clause-cut_off g c =
    let words = map g.S.AsStr.text c.args.words.now in
    λ none wanted asks. starved_begins (IsReplyTo (form_asked words) (wish_asked words) wanted) out_of_memory_text (λ bytes. unfollowed) _ _ _ _ c.write_starved.ensures.failed

pub returns-in-Ok-clause-of_files : goal.returns-in-Ok-clause-of_files
returns-in-Ok-clause-of_files g c = λ some wanted asks.
    inr (answers_asked _ _ _ _ _ _ _ _ wanted _ _ _ _ c.in-Ok.ensures.form c.in-Ok.ensures.wish c.in-Ok.ensures.files c.in-Ok.ensures.ok asks.1 c.run_files.ensures.answers)
