-- Which tables are blocks of steps, and conditions of steps in iterations.
use Rattle.std.proofs.Common.{◌≡◌, ◌≢◌, ℕ, ℤ, ◌+◌, ◌<◌, ◌==◌, List, [], ◌∷◌, length, map, Bool, true, false, String, Global, Option, Some, None, refl, sym, ap, ◌∙◌, arith}
use Rattle.std.proofs.lemmas.Bool.Decides.{nat_tests}
use Rattle.std.proofs.lemmas.List.{length-map}
use Rattle.toml.specs.Data.{Data, Items, string, integer, float, boolean, datetime, array, table, as_array}
use Rattle.toml.specs.View.{items_of}
use Rattle.ulfm_reader.proofs.WrittenOut.{Value, items_view, members_view, view}
use Rattle.ulfm_reader.proofs.Values.{listed-view}
use Rattle.ulfm_reader.specs.Blocks.{block_by, block_of, keys_of, leads_on, members_len, times_in}
use Rattle.ulfm_reader.specs.Iterations.{referred_condition, referred_if}
use Rattle.ulfm_reader.specs.Members.{list_at, listed, text_at}
use Rattle.std.specs.Prelude.{codes}

-- as many members as entries
members_len-view : (es : List (String Global × Value)) → members_len (members_view es) ≡ length es
members_len-view [] = refl
members_len-view (e ∷ es) = ap (λ n. n + 1) (members_len-view es) ∙ (omega arith)

by-keys : (ds : List Data) (times : Option ℕ) (leads : Bool) (n : ℕ) → 0 < length ds → n ≡ keys_of times leads → block_by (Some ds) times leads n ≡ Some (record { times = times; steps = ds })
by-keys [] times leads n some is = absurd (omega (arith, some))
by-keys (d ∷ ds) times leads n some is = let test : (n == keys_of times leads) ≡ true = grind (arith, nat_tests) in rw test refl

by-others : (ds : List Data) (times : Option ℕ) (leads : Bool) (n : ℕ) → n ≢ keys_of times leads → block_by (Some ds) times leads n ≡ None
by-others [] times leads n not = refl
by-others (d ∷ ds) times leads n not = let test : (n == keys_of times leads) ≡ false = grind (arith, nat_tests) in rw test refl

empty : (vs : List Value) → length vs ≡ 0 → (times : Option ℕ) (leads : Bool) (n : ℕ) → block_by (Some (map view vs)) times leads n ≡ None
empty [] none times leads n = refl
empty (v ∷ vs) none times leads n = absurd (omega (arith, none))

module _ (behind : List Data) (es : List (String Global × Value)) (vs : List Value) where
  module _ (times : Option ℕ) (leads : Bool) (listed : Some (map view vs) ≡ list_at (codes "steps") (members_view es)) (often : times ≡ times_in (members_view es)) (on : leads ≡ leads_on behind (text_at (codes "on_error") (members_view es))) where
    parts : block_of behind (members_view es) ≡ block_by (Some (map view vs)) times leads (length es)
    parts =
        ap (λ (found : Option (List Data)). block_by found (times_in (members_view es)) (leads_on behind (text_at (codes "on_error") (members_view es))) (members_len (members_view es))) (sym listed)
        ∙ ap (λ (found : Option ℕ). block_by (Some (map view vs)) found (leads_on behind (text_at (codes "on_error") (members_view es))) (members_len (members_view es))) (sym often)
        ∙ ap (λ (found : Bool). block_by (Some (map view vs)) times found (members_len (members_view es))) (sym on)
        ∙ ap (block_by (Some (map view vs)) times leads) (members_len-view es)

    pub is-block : 0 < length vs → length es ≡ keys_of times leads → Some (record { times = times; steps = map view vs }) ≡ block_of behind (members_view es)
    is-block some is = sym (parts ∙ by-keys (map view vs) times leads (length es) (omega (arith, some, length-map vs view)) is)

    pub no-block : length es ≢ keys_of times leads → None ≡ block_of behind (members_view es)
    no-block not = sym (parts ∙ by-others (map view vs) times leads (length es) not)

  pub no-steps : Some (map view vs) ≡ list_at (codes "steps") (members_view es) → length vs ≡ 0 → None ≡ block_of behind (members_view es)
  no-steps listed none =
      let times = times_in (members_view es) in
      let leads = leads_on behind (text_at (codes "on_error") (members_view es)) in
      let steps : block_of behind (members_view es) ≡ block_by (Some (map view vs)) times leads (members_len (members_view es)) =
      ap (λ (found : Option (List Data)). block_by found times leads (members_len (members_view es))) (sym listed) in
      sym (steps ∙ empty vs none times leads (members_len (members_view es)))

-- a list of values as items
pub items_of-view : (vs : List Value) → items_of (map view vs) ≡ items_view vs
items_of-view [] = refl
items_of-view (v ∷ vs) = rw (items_of-view vs) refl

-- a list of values, each changed
pub items-changed : (change : Data → Data) (ds : Items) (vs found : List Value) → ds ≡ items_view vs → map view found ≡ map change (map view vs) → array (items_view found) ≡ array (items_of (map change (listed ds)))
items-changed change ds vs found same is =
    ap array (sym (items_of-view found) ∙ ap items_of is ∙ ap (λ (xs : List Data). items_of (map change xs)) (sym (listed-view vs)) ∙ ap (λ (xs : Items). items_of (map change (listed xs))) (sym same))

module _ (block : List Data) (rank : ℤ) (i : ℕ) where
  -- a list of conditions
  pub if-array : (d : Data) (vs found : List Value) → Some (items_view vs) ≡ as_array d → map view found ≡ map (referred_condition block rank i) (map view vs) → Some (array (items_view found)) ≡ referred_if block rank i (Some d)
  if-array (array ds) vs found same is = let these : ds ≡ items_view vs = cc in ap Some (items-changed (referred_condition block rank i) ds vs found these is)
  if-array (string s) vs found same is = absurd cc
  if-array (integer z) vs found same is = absurd cc
  if-array (float x) vs found same is = absurd cc
  if-array (boolean b) vs found same is = absurd cc
  if-array (datetime t) vs found same is = absurd cc
  if-array (table ms) vs found same is = absurd cc
