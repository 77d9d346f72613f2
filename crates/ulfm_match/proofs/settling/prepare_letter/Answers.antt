use Rattle.std.proofs.Common.{refl}
use Rattle.ulfm_match.proofs.Pooled.{same_pool}
use Rattle.ulfm_match.proofs.settling.prepare_letter.Goals as goal

pub returns-in_err-reserve-clause-pool : goal.returns-in_err-reserve-clause-pool
returns-in_err-reserve-clause-pool c count i = same_pool i _ refl refl refl c.reserve.ensures.items

pub returns-then-len-lt-FEW-clause-pool : goal.returns-then-len-lt-FEW-clause-pool
returns-then-len-lt-FEW-clause-pool c count i = same_pool i _ refl refl refl c.reserve.ensures.items

pub settle_letter-requires : goal.settle_letter-requires
settle_letter-requires c = (c.requires.0, same_pool c.requires.1 _ refl refl refl c.reserve.ensures.items)

pub returns-clause-pool : goal.returns-clause-pool
returns-clause-pool c count i = c.settle_letter.ensures.pool count (same_pool i _ refl refl refl c.reserve.ensures.items)
