use Rattle.std.proofs.Common.{◌≡◌, ◌++◌, ◌∷◌, [], List, ℕ, Some, ◌∙◌, append_assoc, ap, arith, map, sym}
use Rattle.std.proofs.lemmas.List.{map-append}
use Rattle.std.proofs.lemmas.List.FromFn.{map-range_with_len_more}
use Rattle.std.specs.List.{range_with_len}
use Rattle.ulfm_run_reply.specs.Brief.{Lines, Spot, lines_seen}
use Rattle.ulfm_run_reply.specs.inside.Tallied.{unseen}
use Rattle.ulfm_run_reply.proofs.lines_at.push_spots.Goals as goal

-- a place behind others, without lines
abbrev behind : (before : List Lines) (spots : List Spot) (spot : Spot) → (before ++ map unseen spots) ++ unseen spot ∷ [] ≡ before ++ map unseen (spots ++ spot ∷ [])
behind before spots spot = append_assoc before (map unseen spots) (unseen spot ∷ []) ∙ sym (ap (λ (ys : List Lines). before ++ ys) (map-append unseen spots (spot ∷ [])))

pub loop-step-preserved : goal.loop-step-preserved
loop-step-preserved c =
    let k = c.loop-step.step in
    let at : ℕ → Spot = λ n. (c.args.rank, Some n) in
    let before = map lines_seen c.args.found.now.items in (
      c.in_ok-push_spot.ensures.seen
          ∙ ap (λ (known : List Lines). known ++ unseen (at k) ∷ []) c.loop-step.invariant.0
          ∙ behind before (map at (range_with_len 0 k)) (at k)
          ∙ ap (λ (spots : List Spot). before ++ map unseen spots) (sym (map-range_with_len_more at 0 k k (omega arith))),
      c.in_ok-push_spot.ensures.few,
    )
