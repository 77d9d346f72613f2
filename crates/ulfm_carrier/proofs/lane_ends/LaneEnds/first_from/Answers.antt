use Rattle.std.proofs.Common.{◌≡◌, ◌++◌, [], map, ap, sym, ◌∙◌, append-nil, slice_get}
use Rattle.ulfm_carrier.proofs.Common.{item_from, lane_taken, nil_from_length, seen_from}
use Rattle.ulfm_carrier.specs.Head.{head_in}
use Rattle.ulfm_carrier.proofs.Turns.{not_found}
use Rattle.ulfm_carrier.proofs.lane_ends.LaneEnds.first_from.Goals as goal

pub returns-then-not-has_item_from-clause-first : goal.returns-then-not-has_item_from-clause-first
returns-then-not-has_item_from-clause-first c =
    let s = c.args.source in let now = c.has_item_from.new.self in
    let none : seen_from now s ≡ [] = nil_from_length (seen_from now s) (not_found _ _ c.has_item_from.ensures.found c.if-not-has_item_from.true) in
    ap (λ l. slice_get (map head_in l) 0) (sym none)

pub returns-then-not-has_item_from-clause-own : goal.returns-then-not-has_item_from-clause-own
returns-then-not-has_item_from-clause-own c = λ is.
    let s = c.args.source in let now = c.has_item_from.new.self in
    let none : seen_from now s ≡ [] = nil_from_length (seen_from now s) (not_found _ _ c.has_item_from.ensures.found c.if-not-has_item_from.true) in
    c.has_item_from.ensures.own is ∙ ap (λ l. lane_taken now s ++ map (item_from c.args.self.now.me) l) none ∙ append-nil (lane_taken now s)
