use Rattle.std.proofs.Common.{◌≡◌, ℕ, List, sym, ap, ◌∙◌, arith}
use Rattle.ulfm_base.specs.Group.{rank_in}
use Rattle.ulfm_base.proofs.Members.{rank_in_found, rank_in_none}
use Rattle.ulfm_base.proofs.group.Group.rank_of.Goals as goal

pub returns-then-member-rank : goal.returns-then-member-rank
returns-then-member-rank c =
    let e : c.deref-member-items.result.now ≡ c.args.self.now = cc in
    sym (rank_in_found c.deref-member-items.result.now c.loop-position.position c.args.rank.number (omega arith) c.loop-position.invariant c.if-member-rank.true) ∙ ap (λ (members : List ℕ). rank_in members c.args.rank.number) e

pub returns : goal.returns
returns c =
    let e : c.deref-member-items.result.now ≡ c.args.self.now = cc in
    sym (rank_in_none c.deref-member-items.result.now c.loop-position.position c.args.rank.number (omega arith) c.loop-position.invariant) ∙ ap (λ (members : List ℕ). rank_in members c.args.rank.number) e
