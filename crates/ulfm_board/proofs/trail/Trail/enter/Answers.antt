use Rattle.std.proofs.Common.{◌∷◌, ◌++◌, ◌∙◌, [], None, Some, ap, length, map, replicate, sym}
use Rattle.once_cell.specs.declared.race.note.Note.{Note}
use Rattle.ulfm_board.specs.declared.proposed.Proposed.{Proposed}
use Rattle.ulfm_board.specs.inside.Trail.{TrailView, decision_known, names_of, slot_name}
use Rattle.ulfm_board.proofs.Walked.{one_row_more}
use Rattle.ulfm_board.proofs.trail.Trail.enter.Goals as goal

pub invariant_of-self-2 : goal.invariant_of-self-2
invariant_of-self-2 c =
    let next = ap (λ (t : TrailView). slot_name t.chunks (length t.numbers)) c.self.view_is ∙ c.requires.next ∙ ap Some (sym (c.get_or_try_init_as.ensures.cell ∙ c.note-note.ensures.0)) in
    let names = c.note_cells.ensures.names ∙ ap (λ l. map (λ (n : Note Proposed). n.cell) l ++ names_of c.in_ok-row.row.now.cells.items) c.reserve-3.ensures.items in
    one_row_more c.push_reserved-2.new.self.items c.push_reserved.new.self.items c.note_cells.new.cells.items c.in_ok-row.row.now c.get_or_try_init_as.new.note c.self.invariant next c.in_ok-row.ensures.value.0 names
    (c.push_reserved-2.ensures.items ∙ ap (λ l. l ++ c.get_or_try_init_as.new.note ∷ []) c.reserve.ensures.items)
    (c.push_reserved.ensures.items ∙ ap (λ l. l ++ c.in_ok-row.row.now.number ∷ []) c.reserve-2.ensures.items)

pub returns-clause-goes_on : goal.returns-clause-goes_on
returns-clause-goes_on c = record {
  register = ap (λ (t : TrailView). t.register) c.self.view_is;
  numbers = c.push_reserved.ensures.items ∙ ap (λ l. l ++ c.in_ok-row.row.now.number ∷ []) (c.reserve-2.ensures.items ∙ ap (λ (t : TrailView). t.numbers) c.self.view_is);
  decided = c.note_cells.ensures.known ∙ ap (λ l. l ++ replicate 64 None) (ap (map decision_known) c.reserve-3.ensures.items ∙ ap (λ (t : TrailView). t.decided) c.self.view_is);
}
