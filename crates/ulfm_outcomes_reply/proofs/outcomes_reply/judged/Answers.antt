use Rattle.std.proofs.Common.{None, subst}
use Rattle.ulfm_command_line.specs.Body.{body_in}
use Rattle.ulfm_command_line.specs.Stopped.{asked_view}
use Rattle.ulfm_outcomes_reply.specs.Outcomes.{drawn}
use Rattle.ulfm_outcomes_reply.specs.inside.Looking.{IsDrawnOf}
use Rattle.ulfm_outcomes_reply.proofs.outcomes_reply.judged.Goals as goal

pub drawn-requires : goal.drawn-requires
drawn-requires g c = (c.args.reached.now.keys, c.requires.list)

pub undrawn-requires-clause-none : goal.undrawn-requires-clause-none
undrawn-requires-clause-none g c = subst (IsDrawnOf c.args.search.now.form c.args.search.now.options None (asked_view c.args.asked.now) c.args.reached.now.found) c.in-None.is c.in_ok-reply.ensures

pub returns-in-Some : goal.returns-in-Some
returns-in-Some g c =
    let is = subst (IsDrawnOf c.args.search.now.form c.args.search.now.options None (asked_view c.args.asked.now) c.args.reached.now.found) c.in-Some.is c.in_ok-reply.ensures in
    drawn is.0 c.in-Some.reply.status (body_in c.args.search.now.form c.in-Some.reply.body) is.1 is.2
