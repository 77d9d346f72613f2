use Rattle.std.proofs.Common.{◌++◌, ap, refl, ◌∙◌}
use Rattle.ulfm_match.proofs.Common.{in_order}
use Rattle.ulfm_match.proofs.Exists.{tracks_none}
use Rattle.ulfm_base.specs.Table.{is_marked}
use Rattle.ulfm_match.proofs.Pooled.{empty_pool}
use Rattle.ulfm_match.proofs.matcher.Matcher.new.Goals as goal

pub returns : goal.returns
returns c =
    tracks_none _ (ap (λ ys. in_order ys ++ c.new.result.recent.items) c.new.ensures.early ∙ c.new.ensures.recent)
    (ap (λ ys. in_order ys ++ c.new-2.result.recent.items) c.new-2.ensures.early ∙ c.new-2.ensures.recent) refl (λ k. ap (λ marks. is_marked marks k) c.new-3.ensures)

pub invariant_of-result : goal.invariant_of-result
invariant_of-result c = record {
  of_waiting = empty_pool _ c.new.ensures.unique c.new.ensures.early c.new.ensures.buckets c.new.ensures.recent;
  of_kept = empty_pool _ c.new-2.ensures.unique c.new-2.ensures.early c.new-2.ensures.buckets c.new-2.ensures.recent;
  room = λ e. cc;
}
