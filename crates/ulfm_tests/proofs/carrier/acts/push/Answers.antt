use Rattle.std.proofs.Common.{◌≡◌, ◌<◌, length, vec_len, ◌∙◌, arith}
use Rattle.ulfm_carrier.proofs.Places.{still_each}
use Rattle.ulfm_carrier.proofs.Settling.{family_set}
use Rattle.ulfm_tests.proofs.Used.{has_here}
use Rattle.ulfm_tests.proofs.carrier.acts.push.Goals as goal

pub returns-in_err-item-clause-ready : goal.returns-in_err-item-clause-ready
returns-in_err-item-clause-ready g c =
    let P : _ → Type 0 = λ e. g.E.Ends.ready e × (g.E.Ends.count e ≡ vec_len c.args.ends.now) in
    let all = c.args.ends.now.items in
    let low : c.args.from < length all = omega (arith, c.if-from-len.false, c.len.ensures, c.args.ends.now.ok) in
    still_each P all c.args.from c.index_mut-end.result.now (has_here P all c.args.from low c.index_mut-end.ensures.value c.requires.ready) c.requires.ready

pub push-requires-clause-ready : goal.push-requires-clause-ready
push-requires-clause-ready g c =
    let P : _ → Type 0 = λ e. g.E.Ends.ready e × (g.E.Ends.count e ≡ vec_len c.args.ends.now) in
    let all = c.args.ends.now.items in
    let low : c.args.from < length all = omega (arith, c.if-from-len.false, c.len.ensures, c.args.ends.now.ok) in
    (has_here P all c.args.from low c.index_mut-end.ensures.value c.requires.ready).0

pub push-requires-clause-dest : goal.push-requires-clause-dest
push-requires-clause-dest g c =
    let P : _ → Type 0 = λ e. g.E.Ends.ready e × (g.E.Ends.count e ≡ vec_len c.args.ends.now) in
    let all = c.args.ends.now.items in
    let low : c.args.from < length all = omega (arith, c.if-from-len.false, c.len.ensures, c.args.ends.now.ok) in
    omega (arith, c.if-to-len.false, c.len-else-from-len.ensures, (has_here P all c.args.from low c.index_mut-end.ensures.value c.requires.ready).1)

pub returns-clause-family : goal.returns-clause-family
returns-clause-family g c =
    family_set g.E.Ends.name g.E.Ends.one_call c.args.ends.now.items c.args.from c.push.new.self c.index_mut-end.ensures.value c.push.ensures.name.0 c.requires.family

pub returns-clause-ready : goal.returns-clause-ready
returns-clause-ready g c =
    let P : _ → Type 0 = λ e. g.E.Ends.ready e × (g.E.Ends.count e ≡ vec_len c.args.ends.now) in
    let all = c.args.ends.now.items in
    let low : c.args.from < length all = omega (arith, c.if-from-len.false, c.len.ensures, c.args.ends.now.ok) in
    let was = has_here P all c.args.from low c.index_mut-end.ensures.value c.requires.ready in
    still_each P all c.args.from c.push.new.self (c.push.ensures.name.3, c.push.ensures.name.2 ∙ was.1) c.requires.ready
