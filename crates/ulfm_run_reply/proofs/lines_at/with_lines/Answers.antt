use Rattle.std.proofs.Common.{◌++◌, ◌∷◌, [], List, ◌+◌, ◌∙◌, ap, append_assoc, map, subst, sym}
use Rattle.std.proofs.lemmas.List.{map-append}
use Rattle.std.proofs.lemmas.List.Elements.{All-push, All-rest}
use Rattle.std.specs.Vec.Iter.{into_iter_items}
use Rattle.ulfm_run_reply.specs.declared.lines_at.LinesAt.{LinesAt}
use Rattle.ulfm_run_reply.specs.Brief.{Lines, lines_seen, with_run}
use Rattle.ulfm_run_reply.specs.inside.Tallied.{AreFew, AreFewAt}
use Rattle.ulfm_run_reply.proofs.lines_at.with_lines.Goals as goal

pub loop-spot-preserved : goal.loop-spot-preserved
loop-spot-preserved c =
    let more = with_run c.args.form c.args.asked.now.names.items c.args.asked.now.job c.args.reports.now in
    let found = c.loop-spot.found.items in
    let one = c.in_ok-with_line.field-0 in
    let rest = into_iter_items c.next.new.self in
    let next = c.in-Some.ensures.steps.0 in
    let left = map more (map lines_seen rest) in
    let done = c.args.done in
    record {
      counted = ap (λ (xs : List LinesAt). map lines_seen xs ++ left) c.in_ok-push.ensures.items
          ∙ ap (λ (ls : List Lines). ls ++ left) (map-append lines_seen found (one ∷ []))
          ∙ append_assoc (map lines_seen found) (lines_seen one ∷ []) left
          ∙ ap (λ (l : Lines). map lines_seen found ++ l ∷ left) c.in_ok-with_line.ensures.counted
          ∙ sym (ap (λ (xs : List LinesAt). map lines_seen found ++ map more (map lines_seen xs)) next)
          ∙ c.loop-spot.invariant.counted;
      few = subst (AreFewAt (done + 1)) (sym c.in_ok-push.ensures.items)
          (All-push (λ (l : LinesAt). AreFew (done + 1) l.rows.items) found one c.loop-spot.invariant.few c.in_ok-with_line.ensures.few);
      left = All-rest (λ (l : LinesAt). AreFew done l.rows.items) c.in-Some.spot rest (into_iter_items c.loop-spot.spot-iterator) next c.loop-spot.invariant.left;
    }
