use Rattle.std.proofs.Common.{◌≡◌, false, rules, sym, ◌∙◌}
use Rattle.std.proofs.lemmas.Bool.{false≢true}
use Rattle.ulfm_outcomes_list.specs.Goals.{has_each}
use Rattle.ulfm_outcomes_spec.specs.Goals.{is_some_open}
use Rattle.ulfm_outcomes_spec.proofs.Together.{each_listed}
use Rattle.ulfm_outcomes_reply.proofs.never_rows.sought_row.Goals as goal

pub returns-then-not-has_each : goal.returns-then-not-has_each
returns-then-not-has_each g c =
    let lacks : has_each c.args.found.now c.in_ok-goals.goals ≡ false = search rules in
    λ _. (c.in_ok-goals.goals, c.in_ok-goals.ensures, λ possible. false≢true (sym lacks ∙ each_listed c.args.job.now _ c.args.search.now.options.limit c.requires.list.0 c.args.found.now c.in_ok-goals.goals c.requires.list.1 possible))

pub returns-then-not-wants_open : goal.returns-then-not-wants_open
returns-then-not-wants_open g c =
    let closed : is_some_open c.in_ok-goals.goals.left.items ≡ false = search rules in
    λ looked. (c.in_ok-goals.goals, c.in_ok-goals.ensures, c.requires.out (search rules) looked c.in_ok-goals.goals c.in_ok-goals.ensures closed)
