use Rattle.std.proofs.Common.{◌≡◌, length, ap, arith}
use Rattle.std.proofs.lemmas.Option.{slice_get-get_or}
use Rattle.ulfm_base.proofs.Members.{member_below}
use Rattle.ulfm_base.proofs.group.Group.world_of.Goals as goal

pub invariant_of-result : goal.invariant_of-result
invariant_of-result c =
    let e : c.deref.result.now ≡ c.self.inside.members.items = cc in
    let l : length c.self.inside.members.items ≡ length c.args.self.now = ap length c.self.view_is in
    rw e (record { in_range = member_below _ _ 0 c.self.invariant.2 (omega arith) })

pub returns : goal.returns
returns c =
    let e : c.deref.result.now ≡ c.args.self.now = cc in
    rw e (slice_get-get_or c.args.self.now c.args.position 0 (omega arith))
