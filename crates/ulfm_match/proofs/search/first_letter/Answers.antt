use Rattle.std.proofs.Common.{ℕ, arith}
use Rattle.ulfm_match.proofs.Common.{Admits, Letter, Passes, nat_tests}
use Rattle.ulfm_match.proofs.Rising.{no_less, none_more, none_all}
use Rattle.ulfm_match.proofs.search.first_letter.Goals as goal

pub returns-then-is_admitted : goal.returns-then-is_admitted
returns-then-is_admitted c =
    let ns = c.args.numbers.now.items in
    record {
      is = c.is_admitted.ensures.0 c.if-is_admitted.true;
      least = λ m d q. no_less ns c.loop-k.k c.index-number.result.now c.requires (omega (arith, c.loop-k-test.true, c.len-k-end.ensures, c.args.numbers.now.ok.0)) c.index-number.ensures m d (λ t. c.loop-k.invariant m t q);
    }

pub loop-k-preserved : goal.loop-k-preserved
loop-k-preserved c =
    let ns = c.args.numbers.now.items in
    let Q : ℕ → Type 0 = Passes (λ (letter : Letter). Admits c.args.pattern.now letter.envelope) c.args.kept.now in
    none_more Q ns c.loop-k.k c.index-number.result.now (omega (arith, c.loop-k-test.true, c.len-k-end.ensures, c.args.numbers.now.ok.0)) c.index-number.ensures c.loop-k.invariant
    (λ q. let t = c.is_admitted.ensures.1 q in let f = c.if-is_admitted.false in grind (arith, nat_tests, t, f))

pub returns : goal.returns
returns c m d q =
    none_all (Passes (λ (letter : Letter). Admits c.args.pattern.now letter.envelope) c.args.kept.now) c.args.numbers.now.items c.loop-k.k (omega (arith, c.loop-k-test.false, c.len-k-end.ensures, c.args.numbers.now.ok.0)) c.loop-k.invariant m d q
