use Rattle.std.proofs.Common.{◌∙◌, ap, subst, sym}
use Rattle.ulfm_board.specs.inside.Trail.{TrailView, TrailsAgree}
use Rattle.ulfm_board.proofs.Compared.{one_cell, one_register, one_slot, trails_agree}
use Rattle.ulfm_board.proofs.trail.Trail.same.Goals as goal

pub agree_all-requires : goal.agree_all-requires
agree_all-requires c =
    one_register c.self.inside.chunks.items c.other.inside.chunks.items (ap (λ (t : TrailView). t.register) c.other.view_is ∙ c.requires ∙ sym (ap (λ (t : TrailView). t.register) c.self.view_is))

pub agree_all-requires-2 : goal.agree_all-requires-2
agree_all-requires-2 c = one_slot c.self.invariant c.other.invariant c.agree_all.ensures.agree

pub agree_all-requires-3 : goal.agree_all-requires-3
agree_all-requires-3 c = one_cell c.self.invariant c.other.invariant c.agree_all.ensures.agree c.agree_all-2.ensures.agree

pub returns-clause-agree : goal.returns-clause-agree
returns-clause-agree c =
    subst (λ (t : TrailView × TrailView). TrailsAgree t.0 t.1) (λ i. (c.self.view_is i, c.other.view_is i))
    (trails_agree c.self.invariant c.other.invariant c.agree_all.ensures.agree c.agree_all-2.ensures.agree c.agree_all-3.ensures.agree)
