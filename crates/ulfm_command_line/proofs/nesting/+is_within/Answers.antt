use Rattle.std.proofs.Common.{◌≡◌, true, false, nat_le, get_or, ◌∷◌, sym, ap, ◌∙◌, arith}
use Rattle.std.proofs.lemmas.Grind.{common_steps}
use Rattle.toml.specs.Data.{depth, items_depth, members_depth}
use Rattle.toml.specs.View.{items_view, members_view, view}
use Rattle.toml.proofs.Views.{Entry}
use Rattle.ulfm_command_line.proofs.Nested.{next_item, deep_item, next_member, deep_member}
use Rattle.ulfm_command_line.proofs.nesting.+is_within.Goals as goal

pub are_items_within-loop-item-preserved : goal.are_items_within-loop-item-preserved
are_items_within-loop-item-preserved c c' =
    let xs = c'.deref-item-items.result.now in
    let item = c'.item-item.result in
    let good : nat_le (depth (view item)) c'.args.most ≡ true = grind (arith, common_steps) in
    let at : get_or xs c'.loop-item.item-index item ≡ item = grind (arith, common_steps) in
    next_item xs c'.loop-item.item-index item c'.args.most c'.loop-item-test.true at good ∙ c'.loop-item.invariant

pub are_items_within-returns-then-not-is_within : goal.are_items_within-returns-then-not-is_within
are_items_within-returns-then-not-is_within c c' =
    let xs = c'.deref-item-items.result.now in
    let item = c'.item-item.result in
    let bad : nat_le (depth (view item)) c'.args.most ≡ false = grind (arith, common_steps) in
    let at : get_or xs c'.loop-item.item-index item ≡ item = grind (arith, common_steps) in
    let same : xs ≡ c'.args.items.now.items = grind (arith, common_steps) in
    sym (ap (λ vs. nat_le (items_depth (items_view vs)) c'.args.most) (sym same) ∙ sym c'.loop-item.invariant ∙ deep_item xs c'.loop-item.item-index item c'.args.most c'.loop-item-test.true at bad)

pub are_members_within-loop-key-preserved : goal.are_members_within-loop-key-preserved
are_members_within-loop-key-preserved c c' =
    let (can, finite, same) = c'.loop-key.invariant in
    let e : Entry = (c'.in-Some._key.now, c'.in-Some.member.now) in
    let iter : c'.loop-key._key-iterator ≡ e ∷ c'.next.new.self = grind (arith, common_steps) in
    let good : nat_le (depth (view e.1)) c'.args.most ≡ true = grind (arith, common_steps) in
    (tt, tt, next_member e c'.next.new.self c'.args.most good ∙ ap (λ es. nat_le (members_depth (members_view es)) c'.args.most) (sym iter) ∙ same)

pub are_members_within-returns-then-not-is_within : goal.are_members_within-returns-then-not-is_within
are_members_within-returns-then-not-is_within c c' =
    let (can, finite, same) = c'.loop-key.invariant in
    let e : Entry = (c'.in-Some._key.now, c'.in-Some.member.now) in
    let iter : c'.loop-key._key-iterator ≡ e ∷ c'.next.new.self = grind (arith, common_steps) in
    let bad : nat_le (depth (view e.1)) c'.args.most ≡ false = grind (arith, common_steps) in
    sym (sym same ∙ ap (λ es. nat_le (members_depth (members_view es)) c'.args.most) iter ∙ deep_member e c'.next.new.self c'.args.most bad)
