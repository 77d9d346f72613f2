use Rattle.std.proofs.Common.{◌∙◌, ap, sym}
use Rattle.ulfm_log.proofs.Common.{told_of}
use Rattle.ulfm_log.specs.inside.Rows.{entry_of_row}
use Rattle.ulfm_log.proofs.Entries.{told_own}
use Rattle.ulfm_log.proofs.entrances.entrance_of.Goals as goal

pub returns-in-Entered : goal.returns-in-Entered
returns-in-Entered c = λ t r. told_own c.args.me c.in-Entered.entrance t r ∙ sym (ap (λ k. told_of c.args.me.number t r (entry_of_row k)) c.in-Entered.is) ∙ sym (ap (told_of c.args.me.number t r) c.kind.ensures.entry)
