use Rattle.std.proofs.Common.{◌≡◌, nat_le, drop}
use Rattle.toml.specs.Data.{items_depth, members_depth}
use Rattle.toml.specs.View.{items_view, members_view}
use Rattle.ulfm_command_line.proofs.nesting.+is_within.Given as goal

abbrev pub invariant-are_items_within-loop-item : goal.invariant-are_items_within-loop-item
invariant-are_items_within-loop-item l = nat_le (items_depth (items_view (drop l.item-index l.item-items))) l.most ≡ nat_le (items_depth (items_view l.item-items)) l.most

abbrev pub invariant-are_members_within-loop-key : goal.invariant-are_members_within-loop-key
invariant-are_members_within-loop-key l =
    (goal.iterator-are_members_within-loop-key).can_next l._key-iterator ×
    (goal.iterator-are_members_within-loop-key).is_finite l._key-iterator ×
    (nat_le (members_depth (members_view l._key-iterator)) l.most ≡ nat_le (members_depth (members_view l.table.entries)) l.most)
