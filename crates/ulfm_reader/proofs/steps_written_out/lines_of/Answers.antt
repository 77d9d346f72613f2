use Rattle.std.proofs.Common.{◌≡◌, ◌+◌, ◌-◌, ◌++◌, List, length, map, take, drop, sym, ap, ◌∙◌, arith, length-append}
use Rattle.std.proofs.lemmas.List.{length-drop, length-map, take_all}
use Rattle.std.proofs.lemmas.Result.{err_from_is_err_and}
use Rattle.ulfm_reader.proofs.WrittenOut.{Line, Value, line_view, view}
use Rattle.ulfm_reader.proofs.Items.{items-longer, items-one}
use Rattle.ulfm_reader.specs.Blocks.{item_lines, items_behind}
use Rattle.ulfm_reader.specs.Lines.{lines_of}
use Rattle.ulfm_reader.proofs.steps_written_out.lines_of.Goals as goal

pub loop-place-preserved : goal.loop-place-preserved
loop-place-preserved c =
    let ranks = c.args.ranks in
    let i = c.loop-place.place in
    let lines = map line_view c.loop-place.lines.items in
    let items = c.args.items.now in
    let v = c.index-items-place.result in
    let whole : take (length items - (i + 1)) (drop (i + 1) items) ≡ drop (i + 1) items = take_all (length items - (i + 1)) (drop (i + 1) items) (omega (arith, length-drop (i + 1) items)) in
    let grown = c.in_ok-push_item.ensures.exact ∙ ap (λ (xs : List Value). lines ++ item_lines ranks i (map view xs) (view v)) whole in (
      ap (λ (ls : List Line). items_behind ranks (i + 1) ls (map view (drop (i + 1) items))) grown ∙ sym (items-one ranks i lines items v c.loop-place-test.true c.index-items-place.is) ∙ c.loop-place.invariant.0,
      omega (arith, c.in_ok-push_item.ensures.more, c.loop-place.invariant.1),
      c.in_ok-push_item.ensures.few,
    )

pub returns-in_err-push_item-clause-many : goal.returns-in_err-push_item-clause-many
returns-in_err-push_item-clause-many c =
    let p = err_from_is_err_and c.from_residual.result c.from_residual.ensures.1 in
    let ranks = c.args.ranks in
    let i = c.loop-place.place in
    let lines = c.loop-place.lines.items in
    let items = c.args.items.now in
    let v = c.index-items-place.result in
    let behind = map view (drop (i + 1) items) in
    let whole : take (length items - (i + 1)) (drop (i + 1) items) ≡ drop (i + 1) items = take_all (length items - (i + 1)) (drop (i + 1) items) (omega (arith, length-drop (i + 1) items)) in
    let all : items_behind ranks (i + 1) (map line_view lines ++ item_lines ranks i behind (view v)) behind ≡ lines_of ranks (map view items) =
    sym (items-one ranks i (map line_view lines) items v c.loop-place-test.true c.index-items-place.is) ∙ c.loop-place.invariant.0 in
    rw (p.1, p.2) (λ is. omega (
      arith,
      c.in_err-push_item.ensures.many is,
      ap (λ (xs : List Value). length (item_lines ranks i (map view xs) (view v))) whole,
      ap length all,
      items-longer ranks (i + 1) (map line_view lines ++ item_lines ranks i behind (view v)) behind,
      length-append (map line_view lines) (item_lines ranks i behind (view v)),
      length-map lines line_view,
    ))
