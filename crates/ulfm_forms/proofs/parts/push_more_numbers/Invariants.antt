use Rattle.std.proofs.Common.{◌≡◌, ◌++◌, string_bytes, take}
use Rattle.ulfm_forms.specs.Parts.{behind_commas, number_json}
use Rattle.ulfm_forms.proofs.parts.push_more_numbers.Given as goal

abbrev pub invariant-loop-number : goal.invariant-loop-number
invariant-loop-number l = string_bytes l.text ≡ string_bytes l.initial.text ++ behind_commas number_json (take l.number-index l.numbers)
