use Rattle.std.proofs.Common.{◌≡◌, string_bytes, take}
use Rattle.std.specs.List.{flat_map}
use Rattle.ulfm_command_line.specs.Places.{place_line_in}
use Rattle.ulfm_command_line.proofs.place_lines.places_in.Given as goal

abbrev pub invariant-loop-place : goal.invariant-loop-place
invariant-loop-place l = string_bytes l.text ≡ flat_map (place_line_in l.fn.form) (take l.place-index l.fn.places)
