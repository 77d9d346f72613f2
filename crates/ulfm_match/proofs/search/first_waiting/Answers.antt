use Rattle.std.proofs.Common.{ℕ, ◌⊎◌, Contains, subst, sym}
use Rattle.std.specs.Prelude.{⊤}
use Rattle.ulfm_match.proofs.Common.{Pattern, Admits, Passes, numbers_at}
use Rattle.ulfm_match.proofs.Bucketed.{lesser_finds, finds_all}
use Rattle.ulfm_match.proofs.Indexed.{named_found, one_of_four, waiting_found}
use Rattle.ulfm_match.proofs.search.first_waiting.Goals as goal

pub returns-then-not-wild : goal.returns-then-not-wild
returns-then-not-wild c =
    let Q : ℕ → Type 0 = Passes (λ (p : Pattern). Admits p c.args.envelope.now) c.args.waiting.now in
    let i = c.requires.indexed in
    finds_all (λ n. Contains (numbers_at c.args.buckets.now c.key_at.result) n) (λ n. ⊤) Q c.first_of_key-named.result
    (λ n m q. subst (λ k. Contains (numbers_at c.args.buckets.now k) n) (sym c.key_at.ensures) (named_found c.args.envelope.now i.0 c.args.waiting.now c.args.buckets.now i.1 (c.requires.none_wild (let t = c.if-not-wild.true in cc)) n q))
    c.first_of_key-named.ensures

pub returns : goal.returns
returns c =
    let Q : ℕ → Type 0 = Passes (λ (p : Pattern). Admits p c.args.envelope.now) c.args.waiting.now in
    let M : ℕ → ℕ → Type 0 = λ k n. Contains (numbers_at c.args.buckets.now k) n in
    let i = c.requires.indexed in
    let named = lesser_finds (M c.key_at.result) (M c.key_at-2.result) Q c.first_of_key-named.result c.first_of_key-named_any.result c.lesser.result c.lesser.ensures c.first_of_key-named.ensures c.first_of_key-named_any.ensures in
    let any = lesser_finds (M c.key_at-3.result) (M c.key_at-4.result) Q c.first_of_key-any_named.result c.first_of_key-any.result c.lesser-2.result c.lesser-2.ensures c.first_of_key-any_named.ensures c.first_of_key-any.ensures in
    let least = lesser_finds (λ n. M c.key_at.result n ⊎ M c.key_at-2.result n) (λ n. M c.key_at-3.result n ⊎ M c.key_at-4.result n) Q c.lesser.result c.lesser-2.result c.lesser-3.result c.lesser-3.ensures named any in
    finds_all (λ n. (M c.key_at.result n ⊎ M c.key_at-2.result n) ⊎ (M c.key_at-3.result n ⊎ M c.key_at-4.result n)) (λ n. ⊤) Q c.lesser-3.result
    (λ n m q. let w = waiting_found c.args.envelope.now i.0 c.args.waiting.now c.args.buckets.now i.1 n q in
    one_of_four c.args.envelope.now (λ k. M k n) c.key_at.result c.key_at-2.result c.key_at-3.result c.key_at-4.result c.key_at.ensures c.key_at-2.ensures c.key_at-3.ensures c.key_at-4.ensures w.0 w.1 w.2)
    least
