use Rattle.ulfm_program.proofs.reply.plain_reply.Goals as goal

pub returns-in-Check : goal.returns-in-Check
returns-in-Check c = λ wish. rw (c.in-Check.is, c.plain.ensures.status, c.plain.ensures.body) (c.check_reply.ensures c.args.form)
