use Rattle.std.proofs.Common.{subst}
use Rattle.std.specs.Io.KnownBytes.{Appends}
use Rattle.ulfm_program.specs.Replies.{GetsFrontOf}
use Rattle.ulfm_program.proofs.Fronts.{front_of_sign, front_of_name, front_of_line}
use Rattle.ulfm_program.proofs.files.write_head.Goals as goal

pub returns-then-not-write_whole-clause-beginning : goal.returns-then-not-write_whole-clause-beginning
returns-then-not-write_whole-clause-beginning g c = front_of_sign c.args.has_head c.args.file.now _ _ c.if-not-has_head.false c.write_whole.ensures.beginning

pub returns-then-not-write_whole-2-clause-beginning : goal.returns-then-not-write_whole-2-clause-beginning
returns-then-not-write_whole-2-clause-beginning g c =
    front_of_name c.args.has_head c.args.file.now _ _ _ c.if-not-has_head.false (c.write_whole.ensures.written c.if-not-write_whole.false) (subst (GetsFrontOf _ _) c.as_bytes.ensures.value c.write_whole-2.ensures.beginning)

pub returns-clause-beginning : goal.returns-clause-beginning
returns-clause-beginning g c =
    front_of_line c.args.has_head c.args.file.now _ _ _ _ c.if-not-has_head.false (c.write_whole.ensures.written c.if-not-write_whole.false)
    (subst (Appends _ _) c.as_bytes.ensures.value (c.write_whole-2.ensures.written c.if-not-write_whole-2.false)) c.write_whole-3.ensures.beginning
