use Rattle.std.proofs.Common.{◌≡◌, ℕ, suc, ◌+◌, length, ap, sym, ◌∙◌, arith, slice_get, map, nat_eq}
use Rattle.ulfm_rank.proofs.Common.{over_named, lookup, set_value_at, Request}
use Rattle.ulfm_rank.proofs.Mapped.{changed_below, changed_more, changed_all, changed_length}
use Rattle.ulfm_rank.proofs.requests.fail_named.Goals as goal
use Rattle.ulfm_rank.proofs.requests.fail_named.Goals.{in-Some, in_default}

pub loop-i-preserved : goal.loop-i-preserved
loop-i-preserved c =
    let es = c.args.requests.now.entries in
    let i = c.loop-i.i in
    let f = over_named c.args.rank.number in
    let inv = c.loop-i.invariant in
    let more : suc i ≡ i + 1 = omega arith in
    elim c.match-get_index_mut.branch [
      | in-Some w ↦
          rw w.requests-is
          (ap (λ xs. set_value_at xs i w.over_named.new.request) inv
          ∙ (ap (set_value_at (changed_below f i es) i) w.over_named.ensures
          ∙ (changed_more f i es w.in-Some.request.now (ap (λ xs. slice_get (map (λ (e : ℕ × Request). e.1) xs) i) (sym inv) ∙ sym w.in-Some.ensures.value)
          ∙ ap (λ n. changed_below f n es) more)))
      | in_default w ↦
          let long : length c.loop-i.requests.entries ≡ length es = ap length inv ∙ changed_length f i es in
          absurd (let some = w.in_default.ensures.found.1 (omega (arith, long, c.len-i-end.ensures.len, c.loop-i-test.true)) in cc)
    ]

pub returns-clause-change : goal.returns-clause-change
returns-clause-change c k =
    ap (lookup (nat_eq k)) c.loop-i.invariant
    ∙ changed_all (over_named c.args.rank.number) c.loop-i.i c.args.requests.now.entries (omega (arith, c.len-i-end.ensures.len, c.loop-i-test.false)) k

pub returns-clause-len : goal.returns-clause-len
returns-clause-len c = ap length c.loop-i.invariant ∙ changed_length (over_named c.args.rank.number) c.loop-i.i c.args.requests.now.entries
