use Rattle.std.proofs.Common.{◌≡◌, ◌<◌, ◌++◌, ◌∷◌, [], length, map, refl, ap, sym, ◌∙◌, arith, subst, append-nil}
use mathlib.Core.List.{IsPrefix}
use Rattle.ulfm_carrier.proofs.Common.{at, ComesFrom, IsOpenRing, item_from, lane_taken, nil_from_length, seen_from, seen_in, taken_by}
use Rattle.ulfm_carrier.specs.Head.{head_in, head_of}
use Rattle.ulfm_carrier.proofs.Places.{at_read, prefix_map, view_here, view_or, view_other}
use Rattle.ulfm_carrier.proofs.Rings.{taken_from, taken_more}
use Rattle.ulfm_carrier.proofs.Turns.{not_found}
use Rattle.ulfm_carrier.proofs.lane_ends.LaneEnds.pop_from.Goals.{After-index_mut-inlet}
use Rattle.ulfm_carrier.proofs.lane_ends.LaneEnds.pop_from.Goals as goal

-- the ring in which an item was found is there
inside : (c : After-index_mut-inlet) → c.args.source < length c.has_item_from.new.self.ins.items
inside c = let found = c.has_item_from.ensures.name in omega (arith, c.requires.source, found.2, found.3.rings.square, c.has_item_from.new.self.outs.ok, c.args.self.now.outs.ok)

there : (c : After-index_mut-inlet) → at c.has_item_from.new.self.ins.items c.args.source c.index_mut-inlet.result.now
there c = at_read c.has_item_from.new.self.ins.items c.args.source (inside c) c.index_mut-inlet.ensures.value

is_open : (c : After-index_mut-inlet) → IsOpenRing c.args.source c.index_mut-inlet.result.now
is_open c = c.has_item_from.ensures.name.3.rings.live c.args.source c.index_mut-inlet.result.now (there c)

pub take-item-requires-clause-live : goal.take-item-requires-clause-live
take-item-requires-clause-live c = (is_open c).1

pub returns-clause-name : goal.returns-clause-name
returns-clause-name c =
    let at = (goal.at.returns-clause-name c).After-index_mut-inlet in let found = c.has_item_from.ensures.name in let took = c.take-item.ensures in
    let t = taken_from _ _ _ c.take-item.new.self refl c.index_mut-inlet.ensures.value (inside at) took.name.0 took.name.1 took.same.0 took.same.1 found.3 in
    (t.0 ∙ found.0, found.1, found.2, t.1)

pub returns-clause-sender : goal.returns-clause-sender
returns-clause-sender c =
    let at = (goal.at.returns-clause-sender c).After-index_mut-inlet in
    subst (λ n. ComesFrom n c.take-item.result) (is_open at).0 c.take-item.ensures.taken.0

pub returns-clause-taken : goal.returns-clause-taken
returns-clause-taken c =
    let at = (goal.at.returns-clause-taken c).After-index_mut-inlet in
    let s = c.args.source in let ins = c.has_item_from.new.self.ins.items in let item = c.take-item.result in (
      taken_more s ins c.take-item.new.self item (inside at) c.index_mut-inlet.ensures.value c.take-item.ensures.taken.1 ∙ ap (λ l. l ++ item ∷ []) (c.has_item_from.ensures.taken s),
      λ p apart. view_other taken_by ins s p c.take-item.new.self [] apart ∙ c.has_item_from.ensures.taken p,
    )

pub returns-clause-first : goal.returns-clause-first
returns-clause-first c =
    let at = (goal.at.returns-clause-first c).After-index_mut-inlet in
    let e = c.args.self.now in let s = c.args.source in let now = c.has_item_from.new.self in let ins = now.ins.items in
    subst (IsPrefix (map head_in (seen_from e s)))
    (ap (map head_in) (view_or seen_in ins s [] (there at)) ∙ c.take-item.ensures.first ∙ ap (λ l. head_of c.take-item.result ∷ map head_in l) (sym (view_here seen_in ins s c.take-item.new.self [] (inside at))))
    (prefix_map head_in (seen_from e s) (seen_from now s) c.has_item_from.ensures.stays)

pub returns-clause-others_seen : goal.returns-clause-others_seen
returns-clause-others_seen c = λ p apart. view_other seen_in c.has_item_from.new.self.ins.items c.args.source p c.take-item.new.self [] apart ∙ c.has_item_from.ensures.others_seen p apart

pub returns-then-not-has_item_from-clause-nothing_seen : goal.returns-then-not-has_item_from-clause-nothing_seen
returns-then-not-has_item_from-clause-nothing_seen c =
    nil_from_length (seen_from c.has_item_from.new.self c.args.source) (not_found _ _ c.has_item_from.ensures.found c.if-not-has_item_from.true)

pub returns-then-not-has_item_from-clause-own : goal.returns-then-not-has_item_from-clause-own
returns-then-not-has_item_from-clause-own c = λ is.
    let s = c.args.source in let now = c.has_item_from.new.self in
    let none : seen_from now s ≡ [] = nil_from_length (seen_from now s) (not_found _ _ c.has_item_from.ensures.found c.if-not-has_item_from.true) in
    c.has_item_from.ensures.own is ∙ ap (λ l. lane_taken now s ++ map (item_from c.args.self.now.me) l) none ∙ append-nil (lane_taken now s)
