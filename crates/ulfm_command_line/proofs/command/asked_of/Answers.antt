use Rattle.std.proofs.Common.{ap, ap₂, refl, sym, subst, inl, inr, ◌≡◌, ◌⊎◌, ◌∙◌, map, true}
use Rattle.std.proofs.lemmas.Result.{err_from_is_err_and}
use Rattle.clap.specs.declared.error.kind.ErrorKind.TheVariants.{OutOfMemory}
use Rattle.clap.specs.Kinds.{HasKind, or_else}
use Rattle.clap.specs.Words.{App, Kinds, IsAmong, fault_of, is_simple, is_simple_and_free, subcommand_of}
use Rattle.clap.proofs.OnLiterals.{clap_on_literals}
use Rattle.ulfm_command_line.specs.CommandLine.{asked, faults, files_in, form_in, meant, unmeant}
use Rattle.ulfm_command_line.specs.Wish.{wish_in}
use Rattle.ulfm_command_line.specs.Rules.{tool_app}
use Rattle.ulfm_command_line.proofs.Parsed.{among_first}
use Rattle.ulfm_command_line.proofs.command.asked_of.Goals as goal

simple : is_simple tool_app ≡ true
unfolding clap_on_literals
simple = refl

free : is_simple_and_free tool_app ≡ true
unfolding clap_on_literals
free = refl

pub returns-in_err-matches-clause-kinds : goal.returns-in_err-matches-clause-kinds
unfolding faults
returns-in_err-matches-clause-kinds g c =
    let words = map g.S.AsStr.text c.args.words.now in
    let p = err_from_is_err_and c.from_residual-in_err-matches.result c.from_residual-in_err-matches.ensures.1 in
    let H : App → Type 0 = λ (a : App). (p.0.kind ≡ OutOfMemory) ⊎ IsAmong p.0.kind (fault_of a words) in
    rw (p.1) (among_first _ _ _ (subst H c.in_ok-command.ensures (rw (p.2) (c.in_err-matches.ensures.kinds (ap is_simple_and_free c.in_ok-command.ensures ∙ free)))))

pub returns-in-Some-clause-wanted : goal.returns-in-Some-clause-wanted
unfolding asked
returns-in-Some-clause-wanted g c =
    let words = map g.S.AsStr.text c.args.words.now in
    let matched = c.in_ok-matches.ensures.ok.2 (ap is_simple c.in_ok-command.ensures ∙ simple) in
    sym (c.in-Some.ensures.exact ∙ ap meant (matched.1 ∙ ap (λ (a : App). subcommand_of a words) c.in_ok-command.ensures))

pub returns-in-Some-clause-form : goal.returns-in-Some-clause-form
unfolding asked
returns-in-Some-clause-form g c =
    let words = map g.S.AsStr.text c.args.words.now in
    let matched = c.in_ok-matches.ensures.ok.2 (ap is_simple c.in_ok-command.ensures ∙ simple) in
    c.form_in.ensures ∙ ap form_in (matched.1 ∙ ap (λ (a : App). subcommand_of a words) c.in_ok-command.ensures)

pub returns-in-Some-clause-wish : goal.returns-in-Some-clause-wish
unfolding asked
returns-in-Some-clause-wish g c =
    let words = map g.S.AsStr.text c.args.words.now in
    let matched = c.in_ok-matches.ensures.ok.2 (ap is_simple c.in_ok-command.ensures ∙ simple) in
    c.wish_in.ensures ∙ ap wish_in (matched.1 ∙ ap (λ (a : App). subcommand_of a words) c.in_ok-command.ensures)

pub returns-in-Some-clause-files : goal.returns-in-Some-clause-files
unfolding asked
returns-in-Some-clause-files g c =
    let words = map g.S.AsStr.text c.args.words.now in
    let matched = c.in_ok-matches.ensures.ok.2 (ap is_simple c.in_ok-command.ensures ∙ simple) in
    c.in_ok-files_in-in-Some.ensures ∙ ap files_in (matched.1 ∙ ap (λ (a : App). subcommand_of a words) c.in_ok-command.ensures)

pub returns-in-Some-clause-kinds : goal.returns-in-Some-clause-kinds
unfolding faults asked
returns-in-Some-clause-kinds g c =
    let words = map g.S.AsStr.text c.args.words.now in
    let matched = c.in_ok-matches.ensures.ok.2 (ap is_simple c.in_ok-command.ensures ∙ simple) in
    let means = c.in-Some.ensures.exact ∙ ap meant (matched.1 ∙ ap (λ (a : App). subcommand_of a words) c.in_ok-command.ensures) in
    let none = ap (λ (a : App). fault_of a words) (sym c.in_ok-command.ensures) ∙ c.in_ok-matches.ensures.kinds (ap is_simple_and_free c.in_ok-command.ensures ∙ free) in
    ap₂ or_else none (ap unmeant (sym means))

pub returns-clause-kinds : goal.returns-clause-kinds
unfolding faults asked
returns-clause-kinds g c =
    let words = map g.S.AsStr.text c.args.words.now in
    let matched = c.in_ok-matches.ensures.ok.2 (ap is_simple c.in_ok-command.ensures ∙ simple) in
    let means = c.in-None.ensures.exact ∙ ap meant (matched.1 ∙ ap (λ (a : App). subcommand_of a words) c.in_ok-command.ensures) in
    let none = ap (λ (a : App). fault_of a words) (sym c.in_ok-command.ensures) ∙ c.in_ok-matches.ensures.kinds (ap is_simple_and_free c.in_ok-command.ensures ∙ free) in
    let H : Kinds → Type 0 = λ (kinds : Kinds). HasKind kinds c.in_ok-unmeant-in-None.field-0 in
    subst H (sym (ap₂ or_else none (ap unmeant (sym means)))) (inr (inl c.in_ok-unmeant-in-None.ensures))
