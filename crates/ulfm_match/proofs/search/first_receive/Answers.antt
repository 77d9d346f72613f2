use Rattle.std.proofs.Common.{ℕ, arith}
use Rattle.ulfm_match.proofs.Common.{Admits, Pattern, Passes, nat_tests}
use Rattle.ulfm_match.proofs.Rising.{no_less, none_more, none_all}
use Rattle.ulfm_match.proofs.search.first_receive.Goals as goal

pub returns-then-admits : goal.returns-then-admits
returns-then-admits c =
    let ns = c.args.numbers.now.items in
    record {
      is = c.admits.ensures.0 c.if-admits.true;
      least = λ m d q. no_less ns c.loop-k.k c.index-number.result.now c.requires (omega (arith, c.loop-k-test.true, c.len-k-end.ensures, c.args.numbers.now.ok.0)) c.index-number.ensures m d (λ t. c.loop-k.invariant m t q);
    }

pub loop-k-preserved : goal.loop-k-preserved
loop-k-preserved c =
    let ns = c.args.numbers.now.items in
    let Q : ℕ → Type 0 = Passes (λ (pattern : Pattern). Admits pattern c.args.envelope.now) c.args.waiting.now in
    none_more Q ns c.loop-k.k c.index-number.result.now (omega (arith, c.loop-k-test.true, c.len-k-end.ensures, c.args.numbers.now.ok.0)) c.index-number.ensures c.loop-k.invariant
    (λ q. let t = c.admits.ensures.1 q in let f = c.if-admits.false in grind (arith, nat_tests, t, f))

pub returns : goal.returns
returns c m d q =
    none_all (Passes (λ (pattern : Pattern). Admits pattern c.args.envelope.now) c.args.waiting.now) c.args.numbers.now.items c.loop-k.k (omega (arith, c.loop-k-test.false, c.len-k-end.ensures, c.args.numbers.now.ok.0)) c.loop-k.invariant m d q
