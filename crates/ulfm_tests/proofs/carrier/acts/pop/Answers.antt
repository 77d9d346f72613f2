use Rattle.std.proofs.Common.{◌≡◌, ◌<◌, length, vec_len, ◌∙◌, arith}
use Rattle.ulfm_carrier.proofs.Places.{still_each}
use Rattle.ulfm_carrier.proofs.Settling.{family_set}
use Rattle.ulfm_tests.proofs.Used.{has_here}
use Rattle.ulfm_tests.proofs.carrier.acts.pop.Goals as goal

pub returns-clause-family : goal.returns-clause-family
returns-clause-family g c =
    family_set g.E.Ends.name g.E.Ends.one_call c.args.ends.now.items c.args.by c.pop-found.new.self c.index_mut-end.ensures.value c.pop-found.ensures.name.0 c.requires.family

pub returns-clause-ready : goal.returns-clause-ready
returns-clause-ready g c =
    let P : _ → Type 0 = λ e. g.E.Ends.ready e × (g.E.Ends.count e ≡ vec_len c.args.ends.now) in
    let all = c.args.ends.now.items in
    let low : c.args.by < length all = omega (arith, c.if-by-len.false, c.len.ensures, c.args.ends.now.ok) in
    let was = has_here P all c.args.by low c.index_mut-end.ensures.value c.requires.ready in
    still_each P all c.args.by c.pop-found.new.self (c.pop-found.ensures.name.3, c.pop-found.ensures.name.2 ∙ was.1) c.requires.ready
