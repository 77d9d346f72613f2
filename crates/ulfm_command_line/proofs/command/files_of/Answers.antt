use Rattle.std.proofs.Common.{[], ap, codes, map, option_map, sym, unwrap_or, ◌∙◌, Bor, List, ℕ}
use Rattle.std.proofs.lemmas.Result.{IfOk-weaker}
use Rattle.clap.specs.Words.{found_of}
use Rattle.clap.proofs.WalkLemmas.{raw_values-rows}
use Rattle.ulfm_command_line.proofs.command.files_of.Goals as goal

abbrev texts : List (Bor (List ℕ)) → List (List ℕ)
texts = map (λ s. s.now)

pub returns-in-Some : goal.returns-in-Some
returns-in-Some c =
    let met = c.get_strs.ensures ∙ raw_values-rows (found_of c.args.options.now) (codes "file") in
    let named = ap (option_map (λ (s : Bor (List (Bor (List ℕ)))). texts s.now)) (sym c.in-Some.is) ∙ met in
    IfOk-weaker c.from_slice.result _ _ (λ files h. ap texts h ∙ ap (λ o. unwrap_or o []) named) c.from_slice.ensures.items

pub returns-in-None : goal.returns-in-None
returns-in-None c =
    let met = c.get_strs.ensures ∙ raw_values-rows (found_of c.args.options.now) (codes "file") in
    let none = ap (option_map (λ (s : Bor (List (Bor (List ℕ)))). texts s.now)) (sym c.in-None.is) ∙ met in
    ap texts c.new.ensures.items ∙ ap (λ o. unwrap_or o []) none
