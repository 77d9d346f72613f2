use Rattle.std.proofs.Common.{◌≡◌, ◌<◌, ◌≤◌, arith, subst}
use Rattle.ulfm_carrier.proofs.Common.{AreWired}
use Rattle.ulfm_carrier.proofs.Whole.{wired_family, wired_fresh, wired_room}
use Rattle.ulfm_carrier.proofs.wiring.lanes.Goals as goal

pub returns-clause-family : goal.returns-clause-family
returns-clause-family c =
    let n = c.args.n in
    let all : c.loop-source.source ≡ n = omega arith in
    let some : 0 < n = omega arith in
    wired_family n c.args.capacity c.loop-source.ends.items (subst (λ s. AreWired n c.args.capacity s 0 c.loop-source.ends.items) all c.loop-source.invariant.wired) some

pub returns-clause-fresh : goal.returns-clause-fresh
returns-clause-fresh c =
    let n = c.args.n in
    let all : c.loop-source.source ≡ n = omega arith in
    let few : n ≤ 8 = omega arith in
    wired_fresh n c.args.capacity c.loop-source.ends.items (subst (λ s. AreWired n c.args.capacity s 0 c.loop-source.ends.items) all c.loop-source.invariant.wired) few

pub returns-clause-room : goal.returns-clause-room
returns-clause-room c =
    let n = c.args.n in
    let all : c.loop-source.source ≡ n = omega arith in
    wired_room n c.args.capacity c.loop-source.ends.items (subst (λ s. AreWired n c.args.capacity s 0 c.loop-source.ends.items) all c.loop-source.invariant.wired)
