use Rattle.std.proofs.Common.{sym, ◌∙◌, ap, cond, [], Bool}
use Rattle.std.specs.List.{filter_map}
use Rattle.std.proofs.lemmas.Result.{IfOk-weaker}
use Rattle.toml.specs.Data.{as_integer}
use Rattle.ulfm_reader.proofs.WrittenOut.{Value, view}
use Rattle.ulfm_reader.proofs.Values.{numbers-if}
use Rattle.ulfm_reader.proofs.ranks.numbers.Goals as goal

pub returns-then-are_numbers : goal.returns-then-are_numbers
returns-then-are_numbers c =
    let found = filter_map (λ (v : Value). as_integer (view v)) c.args.values.now in
    IfOk-weaker c.numbers_among.result _ _ (λ v h. h ∙ sym (numbers-if c.args.values.now c.are_numbers.result c.are_numbers.ensures ∙ ap (λ (are : Bool). cond are found []) c.if-are_numbers.true)) c.numbers_among.ensures

pub returns-else-are_numbers : goal.returns-else-are_numbers
returns-else-are_numbers c =
    let found = filter_map (λ (v : Value). as_integer (view v)) c.args.values.now in
    c.new.ensures.items ∙ sym (numbers-if c.args.values.now c.are_numbers.result c.are_numbers.ensures ∙ ap (λ (are : Bool). cond are found []) c.if-are_numbers.false)
