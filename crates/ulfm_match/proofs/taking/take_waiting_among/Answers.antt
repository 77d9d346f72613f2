use Rattle.ulfm_match.proofs.taking.take_waiting_among.Goals as goal

pub returns-in-Some-clause-taken : goal.returns-in-Some-clause-taken
returns-in-Some-clause-taken c =
    let f = c.in-Some.ensures in (
      f.is.entry,
      record {
        found = f.is.found;
        passes = f.is.passes;
        least = λ m q. f.least m tt q;
        out = c.take_numbered.ensures;
      },
    )

pub returns-in-None-clause-taken : goal.returns-in-None-clause-taken
returns-in-None-clause-taken c m q = c.in-None.ensures m tt q
