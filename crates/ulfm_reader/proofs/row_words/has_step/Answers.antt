use Rattle.std.proofs.Common.{sym, ◌∙◌}
use Rattle.std.proofs.lemmas.Int.{to_z-of_z}
use Rattle.toml.specs.Data.{as_table}
use Rattle.ulfm_reader.proofs.WrittenOut.{Line}
use Rattle.ulfm_reader.proofs.Over.{any_line}
use Rattle.ulfm_reader.specs.Iterations.{is_named}
use Rattle.ulfm_reader.proofs.row_words.has_step.Goals as goal

pub returns : goal.returns
returns c =
    let raw = simp (to_z-of_z, c.ranges.rank) at c.any_named.ensures in
    raw ∙ sym (any_line (λ (l : Line). is_named c.args.rank c.args.name.now (as_table l.step)) c.args.lines.now)
