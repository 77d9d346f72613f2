use Rattle.std.proofs.Common.{◌≡◌, ℕ, ◌+◌, List, [], ◌∷◌, ◌++◌, ap, sym, ◌∙◌, arith, flat_map, map, map-id}
use Rattle.std.proofs.lemmas.List.{flat_map_more, map-append}
use Rattle.std.proofs.lemmas.List.FromFn.{map-range_with_len_more}
use Rattle.std.specs.List.{range_with_len}
use Rattle.ulfm_run_reply.specs.Brief.{Lines, rank_spots}
use Rattle.ulfm_run_reply.specs.inside.Tallied.{unseen}
use Rattle.ulfm_run_reply.proofs.lines_at.spots_of.Goals as goal

pub loop-rank-preserved : goal.loop-rank-preserved
loop-rank-preserved c =
    let r = c.loop-rank.rank in
    let spots = rank_spots c.args.job.now in
    let more : range_with_len 0 (r + 1) ≡ range_with_len 0 r ++ r ∷ [] =
    sym (map-id (range_with_len 0 (r + 1))) ∙ map-range_with_len_more (λ k. k) 0 r r (omega arith) ∙ ap (λ (ks : List ℕ). ks ++ r ∷ []) (map-id (range_with_len 0 r)) in (
      c.in_ok-push_spots.ensures.seen
          ∙ ap (λ (known : List Lines). known ++ map unseen (spots r)) c.loop-rank.invariant.0
          ∙ sym (map-append unseen (flat_map spots (range_with_len 0 r)) (spots r))
          ∙ ap (map unseen) (flat_map_more spots [] (range_with_len 0 r) r ∙ ap (flat_map spots) (sym more)),
      c.in_ok-push_spots.ensures.few,
    )
