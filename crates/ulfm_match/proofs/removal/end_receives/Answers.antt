use Rattle.std.proofs.Common.{arith, refl}
use Rattle.ulfm_match.proofs.Pooled.{filtered_all, filtered_pool}
use Rattle.ulfm_match.proofs.removal.end_receives.Goals as goal

pub returns-clause-left : goal.returns-clause-left
returns-clause-left c = filtered_all c.requires.1 _ (record { early = c.end_waiting.new.waiting; buckets = c.forget_gone.new.buckets; recent = c.drop_named.new.recent; wild = c.args.pool.now.wild }) c.end_waiting.ensures.unique c.end_waiting.ensures.left c.drop_named.ensures.left

pub returns-clause-pool : goal.returns-clause-pool
returns-clause-pool c count i = filtered_pool i _ (record { early = c.end_waiting.new.waiting; buckets = c.forget_gone.new.buckets; recent = c.drop_named.new.recent; wild = c.args.pool.now.wild }) c.end_waiting.ensures.unique c.end_waiting.ensures.left c.drop_named.ensures.left refl c.forget_gone.ensures c.drop_named.ensures.shorter

pub returns-clause-place : goal.returns-clause-place
returns-clause-place c h = let l = h.0 in let f = h.1 in (omega (arith, l, c.drop_named.ensures.shorter, c.drop_named.ensures.room), omega (arith, f, c.drop_named.ensures.shorter))
