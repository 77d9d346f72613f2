use Rattle.std.proofs.Common.{◌≡◌, ℕ, Bool, true, false, List, Some, ap, option_map, sym, ◌∙◌}
use Rattle.std.proofs.lemmas.List.{drop_all}
use Rattle.std.proofs.lemmas.Option.{slice_get-get_or}
use Rattle.std.specs.List.{find}
use Rattle.ulfm_job.specs.Text.{is_starred, unstarred}
use Rattle.ulfm_command_line.specs.Naming.{is_labelled, stop_at}
use Rattle.ulfm_command_line.proofs.Labels.{first_here, first_on}
use Rattle.ulfm_command_line.proofs.place_names.stop_by_name.Goals as goal

pub returns-then-is_named : goal.returns-then-is_named
returns-then-is_named c =
    let text = c.args.text.now in
    let names = c.args.names.now in
    let i = c.loop-name.name-index in
    let item = c.name-item.result in
    let passed : is_labelled (unstarred text) item ≡ true = ap (λ (l : List ℕ). is_labelled l item) (sym c.unstarred-dies.ensures.kept) ∙ sym c.in_ok-is_named.ensures ∙ c.if-is_named.true in
    ap (λ (d : Bool). Some (stop_at d item)) c.unstarred-dies.ensures.starred
    ∙ ap (option_map (stop_at (is_starred text)))
    (first_here (is_labelled (unstarred text)) names i item _ c.loop-name.invariant (slice_get-get_or names i item c.loop-name-test.true ∙ ap Some (sym c.name-item.is)) passed)

pub loop-name-preserved : goal.loop-name-preserved
loop-name-preserved c =
    let text = c.args.text.now in
    let names = c.args.names.now in
    let i = c.loop-name.name-index in
    let item = c.name-item.result in
    let failed : is_labelled (unstarred text) item ≡ false = ap (λ (l : List ℕ). is_labelled l item) (sym c.unstarred-dies.ensures.kept) ∙ sym c.in_ok-is_named.ensures ∙ c.if-is_named.false in
    first_on (is_labelled (unstarred text)) names i item _ c.loop-name.invariant (slice_get-get_or names i item c.loop-name-test.true ∙ ap Some (sym c.name-item.is)) failed

pub returns : goal.returns
returns c =
    let text = c.args.text.now in
    ap (option_map (stop_at (is_starred text))) (ap (find (is_labelled (unstarred text))) (sym (drop_all c.loop-name.name-index c.args.names.now c.loop-name-test.false)) ∙ c.loop-name.invariant)
