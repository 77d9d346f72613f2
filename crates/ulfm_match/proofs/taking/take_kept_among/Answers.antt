use Rattle.std.proofs.Common.{sym}
use Rattle.ulfm_match.proofs.Indexed.{kept_found, some_same}
use Rattle.ulfm_match.proofs.taking.take_kept_among.Goals as goal

pub returns-in_ok-letter-in-Some-clause-taken : goal.returns-in_ok-letter-in-Some-clause-taken
returns-in_ok-letter-in-Some-clause-taken c =
    let f = c.in-Some.ensures in
    let e = c.in_ok-letter-in-Some.ensures.value in (
      c.in-Some.number,
      record {
        found = sym e;
        passes = rw (some_same (sym e) f.is.found) f.is.passes;
        least = λ m q. f.least m (kept_found c.requires.1 m q) q;
        out = record { updates = c.swap_remove.ensures.updates.0; unique = c.swap_remove.ensures.unique; sweeps = c.forget_letter.ensures };
      },
    )

pub returns-in-None-clause-taken : goal.returns-in-None-clause-taken
returns-in-None-clause-taken c m q = c.in-None.ensures m (kept_found c.requires.1 m q) q
