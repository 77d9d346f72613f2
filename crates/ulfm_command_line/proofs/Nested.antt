-- How deep values nest, one after the other.
use Rattle.std.proofs.Common.{◌≡◌, ◌<◌, ◌+◌, ℕ, max, true, false, nat_le, List, ◌∷◌, drop, get_or, length, sym, ap, ◌∙◌, arith}
use Rattle.std.proofs.lemmas.Bool.Decides.{nat_tests}
use Rattle.toml.proofs.Views.{Entry, items_view-drop}
use Rattle.toml.specs.Data.{depth, items_depth, members_depth}
use Rattle.toml.specs.View.{items_view, members_view, view}
use Rattle.toml.specs.declared.value.Value.{Value}

past : (d r most : ℕ) → nat_le d most ≡ true → nat_le (max d r) most ≡ nat_le r most
past d r most good = grind (arith, nat_tests, good)

past_none : (d r most : ℕ) → nat_le d most ≡ false → nat_le (max d r) most ≡ false
past_none d r most bad = grind (arith, nat_tests, bad)

-- an item that isn't too deep leaves it to those behind it
pub next_item : (xs : List Value) (i : ℕ) (x : Value) (most : ℕ) → i < length xs → get_or xs i x ≡ x → nat_le (depth (view x)) most ≡ true
    → nat_le (items_depth (items_view (drop (i + 1) xs))) most ≡ nat_le (items_depth (items_view (drop i xs))) most
next_item xs i x most inside at good =
    let here : nat_le (depth (view (get_or xs i x))) most ≡ true = ap (λ v. nat_le (depth (view v)) most) at ∙ good in
    sym (ap (λ ds. nat_le (items_depth ds) most) (items_view-drop xs i x inside) ∙ past (depth (view (get_or xs i x))) (items_depth (items_view (drop (i + 1) xs))) most here)

-- one that is too deep is enough
pub deep_item : (xs : List Value) (i : ℕ) (x : Value) (most : ℕ) → i < length xs → get_or xs i x ≡ x → nat_le (depth (view x)) most ≡ false
    → nat_le (items_depth (items_view (drop i xs))) most ≡ false
deep_item xs i x most inside at bad =
    let here : nat_le (depth (view (get_or xs i x))) most ≡ false = ap (λ v. nat_le (depth (view v)) most) at ∙ bad in
    ap (λ ds. nat_le (items_depth ds) most) (items_view-drop xs i x inside) ∙ past_none (depth (view (get_or xs i x))) (items_depth (items_view (drop (i + 1) xs))) most here

-- so of members
pub next_member : (e : Entry) (es : List Entry) (most : ℕ) → nat_le (depth (view e.1)) most ≡ true → nat_le (members_depth (members_view es)) most ≡ nat_le (members_depth (members_view (e ∷ es))) most
next_member e es most good = sym (past (depth (view e.1)) (members_depth (members_view es)) most good)

pub deep_member : (e : Entry) (es : List Entry) (most : ℕ) → nat_le (depth (view e.1)) most ≡ false → nat_le (members_depth (members_view (e ∷ es))) most ≡ false
deep_member e es most bad = past_none (depth (view e.1)) (members_depth (members_view es)) most bad
