use Rattle.std.proofs.Common.{ℕ, suc, ◌+◌, ◌==◌, cond, add-one, ap, ◌∙◌}
use Rattle.ulfm_base.specs.Table.{count_at}
use Rattle.ulfm_base.proofs.Tables.{counted_each}
use Rattle.ulfm_log.specs.Communicators.{CommunicatorsView}
use Rattle.ulfm_log.proofs.communicators.Communicators.duplicate.Goals as goal

pub returns-clause-counts_this_one : goal.returns-clause-counts_this_one
returns-clause-counts_this_one c d =
    let of = c.args.of.number in
    counted_each of (c.args.count + 1) _ _ c.put.ensures.values d
    ∙ ap (λ (k : ℕ). cond (of == d) k (count_at c.self.inside.dups.entries d)) (add-one c.args.count)
    ∙ ap (λ (v : CommunicatorsView). cond (of == d) (suc c.args.count) (count_at v.dups d)) c.self.view_is
