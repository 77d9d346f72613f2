use Rattle.std.proofs.Common.{sym}
use Rattle.ulfm_match.proofs.Indexed.{kept_found, some_same}
use Rattle.ulfm_match.proofs.Pooled.{early_least, recent_least, none_pool}
use Rattle.ulfm_match.proofs.taking.earliest_letter.Goals as goal

pub first_kept-requires : goal.first_kept-requires
first_kept-requires c = c.requires.1.indexed.rises

pub returns-in_ok-letter-in-Some : goal.returns-in_ok-letter-in-Some
returns-in_ok-letter-in-Some c =
    let i = c.requires.1 in
    let f = c.in-Some.ensures in
    let e = c.in_ok-letter-in-Some.ensures.value in (
      c.in-Some.number,
      early_least i c.in-Some.number c.in_ok-letter-in-Some.letter.now (sym e) (rw (some_same (sym e) f.is.found) f.is.passes) (λ m q. f.least m (kept_found i.indexed m q) q),
    )

pub returns-in-Some-first_letter : goal.returns-in-Some-first_letter
returns-in-Some-first_letter c =
    let i = c.requires.1 in (c.index.result.now.0, recent_least i c.in-Some-first_letter.k c.index.result.now (λ m q. c.in-None.ensures m (kept_found i.indexed m q) q) c.in-Some-first_letter.ensures c.index.ensures)

pub returns-in-None-first_letter : goal.returns-in-None-first_letter
returns-in-None-first_letter c = let i = c.requires.1 in none_pool i (λ m q. c.in-None.ensures m (kept_found i.indexed m q) q) c.in-None-first_letter.ensures
