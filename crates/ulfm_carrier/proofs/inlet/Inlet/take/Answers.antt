use Rattle.std.proofs.Common.{◌≡◌, ◌∷◌, ap, sym, refl, ◌∙◌, map}
use Rattle.rtrb.specs.Ring.{known_items}
use Rattle.ulfm_base.specs.declared.item.Item.{Item}
use Rattle.ulfm_base.specs.declared.item.Item.TheVariants as item
use Rattle.ulfm_base.specs.declared.rank.WorldRank.{WorldRank}
use Rattle.ulfm_carrier.specs.Carried.{signed_by}
use Rattle.ulfm_carrier.specs.Head.{head_in, head_of}
use Rattle.ulfm_carrier.proofs.inlet.Inlet.take.Goals as goal

-- what is told of an item doesn't have its source
head_signed : (source : WorldRank) (x : Item) → head_of (signed_by source x) ≡ head_of x
head_signed source (item.Letter letter) = refl
head_signed source item.Gone = refl
head_signed source (item.Revoke context) = refl
head_signed source (item.Enter entrance) = refl

pub returns-clause-first : goal.returns-clause-first
returns-clause-first c =
    let known = c.pop_known.ensures.received.1 in
    let told = ap head_of c.sign.ensures ∙ head_signed c.args.self.now.source c.pop_known.result.item in
    ap (map head_in) known ∙ ap (λ h. h ∷ map head_in (known_items c.pop_known.new.self)) (sym told)
