use Rattle.std.proofs.Common.{refl, ap, arith}
use Rattle.std.specs.List.{each_same}
use Rattle.std.proofs.lemmas.Map.Entries.{entries_from_clone}
use Rattle.ulfm_rank.proofs.Common.{Matching}
use Rattle.ulfm_rank.proofs.Whole.{holds_copied}
use Rattle.ulfm_rank.proofs.rank.Rank.copy.Goals as goal

pub invariant_of-result : goal.invariant_of-result
invariant_of-result c =
    let matching = c.in_ok-matching.ensures in
    let known = c.in_ok-known.ensures in
    let matcher = matching.matcher in
    let entries = entries_from_clone _ _ (λ x y e. e) (λ x y e. e) _ _ c.in_ok-requests.ensures.cases in
    let told = each_same _ _ c.in_ok-told.ensures.cases.0 in
    holds_copied c.self.inside c.self.invariant refl refl refl known.faults known.communicators (ap (λ (m : Matching). m.waiting) matcher) (ap (λ (m : Matching). m.kept) matcher) (ap (λ (m : Matching). m.count) matcher) (ap (λ (m : Matching). m.cleared) matcher) entries known.boxes matching.items told c.in_ok-rounds.ensures (omega (arith, matching.capacity, c.stop_places.ensures, c.len.ensures.len)) matching.countable
