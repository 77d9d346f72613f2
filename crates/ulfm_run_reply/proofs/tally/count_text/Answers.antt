use Rattle.std.proofs.Common.{◌≡◌, ◌<◌, ◌∙◌, arith, ap, bytes_eq, length, refl, rules, string_bytes, sym, true, vec_len}
use Rattle.ulfm_run_reply.specs.Tally.{Row, counted, rows_of}
use Rattle.ulfm_run_reply.proofs.Tallied.{found}
use Rattle.ulfm_run_reply.proofs.tally.count_text.Goals as goal

pub returns-then-eq-clause-counted : goal.returns-then-eq-clause-counted
returns-then-eq-clause-counted c =
    let rows = c.loop-place.rows.items in
    let i = c.loop-place.place in
    let m : Row = (string_bytes c.args.text, c.args.count) in
    let lt : i < length rows = omega (arith, c.loop-place-test.true, c.len-place-end.ensures, ap vec_len c.loop-place.invariant.0, c.loop-place.rows.ok.0) in
    let is : bytes_eq (string_bytes c.index.result.now.text) (string_bytes c.args.text) ≡ true = search rules in
    found rows m i c.index.result.now c.index_mut.result.now _ lt c.index.ensures c.index_mut.ensures.value is refl refl
    ∙ sym c.loop-place.invariant.1 ∙ ap (λ v. counted (rows_of v.items) m) c.loop-place.invariant.0
