use Rattle.std.proofs.Common.{sym, ◌∙◌}
use Rattle.ulfm_outcomes_reply.proofs.Picture.{left_possible}
use Rattle.ulfm_outcomes_reply.proofs.drawing.drawn.Goals as goal

pub left_reply-requires : goal.left_reply-requires
left_reply-requires g c =
    left_possible c.args.search.now.options.drawn c.args.asked.now.job c.args.search.now.options.limit c.args.found.now c.in-Some.left c.requires (sym c.in_ok-left.ensures ∙ c.in-Some.is)

pub returns-in_ok-reply-in-Some : goal.returns-in_ok-reply-in-Some
returns-in_ok-reply-in-Some g c = (c.in-Some.left, sym c.in_ok-left.ensures ∙ c.in-Some.is, c.in_ok-reply-in-Some.ensures)

pub returns-in-None : goal.returns-in-None
returns-in-None g c = sym c.in_ok-left.ensures ∙ c.in-None.is
