use Rattle.std.proofs.Common.{◌≡◌, ◌++◌, map, string_bytes, take}
use Rattle.ulfm_forms.specs.Parts.{behind_commas, object_json}
use Rattle.ulfm_forms.proofs.parts.push_more_objects.Given as goal

abbrev pub invariant-loop-object : goal.invariant-loop-object
invariant-loop-object l = string_bytes l.text ≡ string_bytes l.initial.text ++ behind_commas object_json (map string_bytes (take l.object-index l.objects))
