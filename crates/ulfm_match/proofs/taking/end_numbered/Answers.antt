use Rattle.std.proofs.Common.{arith, refl}
use Rattle.ulfm_match.proofs.Pooled.{ended_all, ended_pool}
use Rattle.ulfm_match.proofs.taking.end_numbered.Goals as goal

pub returns-clause-left : goal.returns-clause-left
returns-clause-left c = ended_all c.requires.1 c.args.number (record { early = c.take_numbered.new.waiting; buckets = c.take_numbered.new.buckets; recent = c.drop_numbered.new.recent; wild = c.args.pool.now.wild }) c.take_numbered.ensures c.drop_numbered.ensures.left

pub returns-clause-pool : goal.returns-clause-pool
returns-clause-pool c count i = ended_pool i c.args.number (record { early = c.take_numbered.new.waiting; buckets = c.take_numbered.new.buckets; recent = c.drop_numbered.new.recent; wild = c.args.pool.now.wild }) c.take_numbered.ensures c.drop_numbered.ensures.left refl c.drop_numbered.ensures.shorter

pub returns-clause-place : goal.returns-clause-place
returns-clause-place c h = let l = h.0 in let f = h.1 in (omega (arith, l, c.drop_numbered.ensures.shorter, c.drop_numbered.ensures.room), omega (arith, f, c.drop_numbered.ensures.shorter))
