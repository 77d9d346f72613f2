use Rattle.std.proofs.Common.{refl}
use Rattle.ulfm_match.proofs.Pooled.{same_pool}
use Rattle.ulfm_match.proofs.settling.prepare_receive.Goals as goal

pub returns-in_err-reserve-clause-pool : goal.returns-in_err-reserve-clause-pool
returns-in_err-reserve-clause-pool c count i = same_pool i _ refl refl refl c.reserve.ensures.items

pub returns-then-len-lt-FEW-clause-pool : goal.returns-then-len-lt-FEW-clause-pool
returns-then-len-lt-FEW-clause-pool c count i = same_pool i _ refl refl refl c.reserve.ensures.items

pub settle_receive-requires : goal.settle_receive-requires
settle_receive-requires c = (c.requires.0, same_pool c.requires.1 _ refl refl refl c.reserve.ensures.items)

pub returns-clause-pool : goal.returns-clause-pool
returns-clause-pool c count i = c.settle_receive.ensures.pool count (same_pool i _ refl refl refl c.reserve.ensures.items)
