use Rattle.std.proofs.Common.{subst}
use Rattle.std.proofs.lemmas.Result.{IfOk-weaker}
use Rattle.ulfm_run_reply.specs.AnyBody.{text_in}
use Rattle.ulfm_command_line.specs.Named.{IsNamed, IsSettled}
use Rattle.ulfm_command_line.specs.Wish.{wish_view}
use Rattle.ulfm_command_line.specs.declared.command.Wanted.{Wanted}
use Rattle.ulfm_program.specs.Replies.{IsReplyBy, settled, unsettled}
use Rattle.ulfm_program.proofs.reply.naming_reply.Goals as goal

pub returns-in-Ok : goal.returns-in-Ok
returns-in-Ok g c =
    let form = c.args.asked.now.form in
    let wish = wish_view c.args.asked.now.wish in
    let bytes = c.args.bytes.now in
    let named : IsNamed c.args.text.now bytes c.in-Ok.place = subst (IsSettled c.args.text.now bytes) c.in-Ok.is c.in_ok-settled.ensures in
    IfOk-weaker c.settled_reply.result _ _ (λ r h.
    settled c.in-Ok.place r.status (text_in form r.body) named (subst (λ (w : Wanted). IsReplyBy form wish w bytes r.status (text_in form r.body)) c.at-wanted.ensures.exact h)) c.settled_reply.ensures

pub returns-in-Err : goal.returns-in-Err
returns-in-Err g c = rw (c.plain.ensures.status, c.plain.ensures.body) (unsettled _ _ (subst (IsSettled c.args.text.now c.args.bytes.now) c.in-Err.is c.in_ok-settled.ensures c.args.asked.now.form))
