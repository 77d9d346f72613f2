use Rattle.std.proofs.Common.{◌≡◌, true, sym, ◌∙◌}
use Rattle.ulfm_outcomes_spec.specs.Goals.{is_some_open}
use Rattle.ulfm_outcomes_reply.proofs.never_rows.closed_row.Goals as goal

pub returns-then-wants_open : goal.returns-then-wants_open
returns-then-wants_open g c =
    let stands : is_some_open c.in_ok-goals.goals.left.items ≡ true = sym c.wants_open.ensures ∙ c.if-wants_open.true in
    λ looked. (c.in_ok-goals.goals, c.in_ok-goals.ensures, stands)
