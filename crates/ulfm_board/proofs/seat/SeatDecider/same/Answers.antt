use Rattle.std.proofs.Common.{◌≡◌, ◌∙◌, sym}
use Rattle.std.specs.Arc.{arc_value}
use Rattle.ulfm_board.specs.inside.Trail.{names_of}
use Rattle.ulfm_board.proofs.Shared.{seats_agree}
use Rattle.ulfm_board.proofs.seat.SeatDecider.same.Goals as goal

pub same-requires : goal.same-requires
same-requires c =
    let one : names_of (arc_value c.args.other.now.register).items ≡ names_of (arc_value c.args.self.now.register).items = cc (c.requires) in
    c.args.other.now.tied ∙ one ∙ sym c.args.self.now.tied

pub returns-clause-agree : goal.returns-clause-agree
returns-clause-agree c = λ shared topic. seats_agree c.args.self.now.trail c.args.other.now.trail c.same.ensures.agree topic
