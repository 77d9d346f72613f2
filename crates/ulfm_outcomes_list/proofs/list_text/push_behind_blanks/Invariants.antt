use Rattle.std.proofs.Common.{◌≡◌, ◌++◌, string_bytes, take}
use Rattle.ulfm_outcomes_list.specs.ListText.{behind_blanks}
use Rattle.ulfm_outcomes_list.proofs.list_text.push_behind_blanks.Given as goal

abbrev pub invariant-loop-place : goal.invariant-loop-place
invariant-loop-place l = string_bytes l.text ≡ string_bytes l.initial.text ++ behind_blanks (take l.place-index l.places)
