use Rattle.std.proofs.Common.{◌≡◌, drop, length, map}
use Rattle.ulfm_reader.specs.Lines.{line_view}
use Rattle.ulfm_reader.proofs.Common.{lists_of, step_count}
use Rattle.ulfm_reader.specs.JobText.{blank, steps_of}
use Rattle.ulfm_reader.specs.inside.Reading.{draft_view}
use Rattle.ulfm_reader.proofs.reading.draft_of.Given as goal

abbrev pub invariant-loop-line : goal.invariant-loop-line
invariant-loop-line l =
    (steps_of l.ranks (draft_view l.draft) (map line_view (drop l.line-index l.lines)) ≡ steps_of l.ranks (blank l.ranks) (map line_view l.lines))
    × (length l.draft.scripts.items ≡ l.ranks)
    × (step_count (lists_of l.draft.scripts.items) ≡ l.line-index)
