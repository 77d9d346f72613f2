use Rattle.std.proofs.Common.{arith, refl}
use Rattle.ulfm_match.proofs.Pooled.{filtered_all, filtered_pool}
use Rattle.ulfm_match.proofs.removal.clear_letters.Goals as goal

pub returns-clause-left : goal.returns-clause-left
returns-clause-left c = filtered_all c.requires.1 _ (record { early = c.clear_kept.new.kept; buckets = c.forget_gone.new.buckets; recent = c.drop_letters.new.recent; wild = c.args.pool.now.wild }) c.clear_kept.ensures.unique c.clear_kept.ensures.left c.drop_letters.ensures.left

pub returns-clause-pool : goal.returns-clause-pool
returns-clause-pool c count i = filtered_pool i _ (record { early = c.clear_kept.new.kept; buckets = c.forget_gone.new.buckets; recent = c.drop_letters.new.recent; wild = c.args.pool.now.wild }) c.clear_kept.ensures.unique c.clear_kept.ensures.left c.drop_letters.ensures.left refl c.forget_gone.ensures c.drop_letters.ensures.shorter

pub returns-clause-place : goal.returns-clause-place
returns-clause-place c h = let l = h.0 in let f = h.1 in (omega (arith, l, c.drop_letters.ensures.shorter, c.drop_letters.ensures.room), omega (arith, f, c.drop_letters.ensures.shorter))
