use Rattle.std.proofs.Common.{ℕ, ◌+◌, ◌==◌, List, Some, cond, ap, ◌∙◌}
use Rattle.ulfm_base.specs.Table.{count_at, value_of}
use Rattle.ulfm_base.proofs.Tables.{counted_more}
use Rattle.ulfm_log.proofs.rounds.count_one.Goals as goal

pub returns-clause-counts : goal.returns-clause-counts
returns-clause-counts c d =
    let n = c.args.context.number in
    let before = c.args.counts.now.entries in
    counted_more n before _ (λ e. c.put.ensures.values e ∙ ap (λ (k : ℕ). cond (n == e) (Some (k + 1)) (value_of e c.make_place.new.self.entries)) c.counted-more.ensures
    ∙ ap (λ (l : List (ℕ × ℕ)). cond (n == e) (Some (count_at before n + 1)) (value_of e l)) c.make_place.ensures.entries) d
