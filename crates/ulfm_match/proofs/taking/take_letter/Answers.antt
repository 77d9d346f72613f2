use Rattle.std.proofs.Common.{refl}
use Rattle.ulfm_match.proofs.Common.{Admits, Letter}
use Rattle.ulfm_match.proofs.Pooled.{early_taken, recent_taken, none_pool, out_pool, taken_recent}
use Rattle.ulfm_match.proofs.taking.take_letter.Goals as goal

pub take_kept-requires : goal.take_kept-requires
take_kept-requires c = (c.requires.1.top, c.requires.1.indexed)

pub returns-in-Some-clause-taken : goal.returns-in-Some-clause-taken
returns-in-Some-clause-taken c = let x = c.in-Some.ensures.taken in (x.0, early_taken c.requires.1 x.1)

pub returns-in-Some-clause-pool : goal.returns-in-Some-clause-pool
returns-in-Some-clause-pool c count i = out_pool i _ refl c.in-Some.ensures.taken.1.out refl

pub returns-in-Some-take_recent_letter-clause-taken : goal.returns-in-Some-take_recent_letter-clause-taken
returns-in-Some-take_recent_letter-clause-taken c =
    rw c.in-None.ensures.idle.0 (_, recent_taken c.requires.1 c.in-None.ensures.taken c.in-Some-take_recent_letter.ensures.taken)

pub returns-in-Some-take_recent_letter-clause-pool : goal.returns-in-Some-take_recent_letter-clause-pool
returns-in-Some-take_recent_letter-clause-pool c count i = taken_recent i (λ (l : Letter). Admits c.args.pattern.now l.envelope) _ refl c.in-None.ensures.idle.0 c.in-None.ensures.idle.1 c.in-Some-take_recent_letter.ensures.taken c.take_recent_letter.ensures.shorter

pub returns-in-None-take_recent_letter-clause-taken : goal.returns-in-None-take_recent_letter-clause-taken
returns-in-None-take_recent_letter-clause-taken c = none_pool c.requires.1 c.in-None.ensures.taken c.in-None-take_recent_letter.ensures.taken

pub returns-in-None-take_recent_letter-clause-pool : goal.returns-in-None-take_recent_letter-clause-pool
returns-in-None-take_recent_letter-clause-pool c count i = rw c.in-None.ensures.idle.0 (rw c.in-None.ensures.idle.1 (rw c.in-None-take_recent_letter.ensures.idle i))
