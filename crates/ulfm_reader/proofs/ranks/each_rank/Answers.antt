use Rattle.std.proofs.Common.{rules, ◌≡◌, ◌∷◌, ◌++◌, [], ℤ, List, pos, ap, sym, ◌∙◌, arith}
use Rattle.std.proofs.lemmas.List.FromFn.{map-range_with_len_more}
use Rattle.ulfm_reader.proofs.ranks.each_rank.Goals as goal

pub loop-rank-preserved : goal.loop-rank-preserved
loop-rank-preserved c =
    let grown : c.push.new.self.items ≡ c.loop-rank.found.items ++ pos c.loop-rank.rank ∷ [] = search rules in
    grown ∙ ap (λ (found : List ℤ). found ++ pos c.loop-rank.rank ∷ []) c.loop-rank.invariant ∙ sym (map-range_with_len_more pos 0 c.loop-rank.rank c.loop-rank.rank (omega arith))
