use Rattle.std.proofs.Common.{◌≡◌, ◌++◌, map, string_bytes, take}
use Rattle.ulfm_forms.specs.Parts.{behind_commas, text_json}
use Rattle.ulfm_forms.proofs.parts.push_more_texts.Given as goal

abbrev pub invariant-loop-one : goal.invariant-loop-one
invariant-loop-one l = string_bytes l.text ≡ string_bytes l.initial.text ++ behind_commas text_json (map string_bytes (take l.one-index l.texts))
