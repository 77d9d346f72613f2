use Rattle.std.proofs.Common.{◌≤◌, ◌+◌, arith}
use Rattle.std.proofs.lemmas.List.Elements.{All-weaker}
use Rattle.ulfm_run_reply.specs.declared.tally.Counted.{Counted}
use Rattle.ulfm_run_reply.proofs.lines_at.count_line.Goals as goal

pub returns-in-None-clause-few : goal.returns-in-None-clause-few
returns-in-None-clause-few c =
    All-weaker (λ (row : Counted). row.count ≤ c.args.done) (λ (row : Counted). row.count ≤ c.args.done + 1) (λ row few. omega (arith, few)) c.args.rows.now.items c.requires.few
