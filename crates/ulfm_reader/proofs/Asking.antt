-- The conditions and the expectations of a step, one after the other, and its name.
use Rattle.std.proofs.Common.{◌≡◌, ℕ, zero, suc, ◌+◌, ◌<◌, ◌≤◌, ◌==◌, List, [], ◌∷◌, ◌++◌, length, map, get_or, drop, replicate, ltb, leb, Bool, true, false, ◌&&◌, Option, Some, None, Result, Ok, Err, refl, ap, ◌∙◌, arith}
use Rattle.std.proofs.lemmas.List.{drop_all, at_drop_more}
use Rattle.toml.specs.Data.{Members, as_str, as_table}
use Rattle.toml.proofs.Views.{items_view-drop}
use Rattle.ulfm_reader.proofs.Common.{Condition, JobFault, Value, view, items_view, lists_of, nat_tests, order_of, ◌>>=◌}
use Rattle.ulfm_reader.proofs.Scripts.{orders-empty}
use Rattle.ulfm_job.specs.Begins.{begins}
use Rattle.ulfm_reader.specs.JobText.{blank, in_step}
use Rattle.ulfm_reader.specs.Reacting.{tables_onto, words_in, words_onto}
use Rattle.ulfm_reader.specs.declared.draft.Draft.{Draft as CodedDraft}
use Rattle.ulfm_job.specs.declared.fault.Fault.{Fault}
use Rattle.ulfm_job.specs.declared.fault.Fault.TheVariants.{BadKey}
use Rattle.ulfm_job.specs.declared.fault.JobFault.TheVariants as refused
use Rattle.ulfm_reader.specs.inside.Reading.{draft_view}

-- a list that isn't empty
pub few : (n : ℕ) → (n == 0) ≡ false → leb n 16 ≡ (ltb 0 n && leb n 16)
few zero e = absurd cc
few (suc n) e = let first : ltb 0 (suc n) ≡ true = grind (arith, nat_tests) in rw first refl

-- a text that ends doesn't begin with words that are left
pub ends-early : (words text : List ℕ) (i : ℕ) → i < length words → length text ≡ 0 → begins text (drop i words) ≡ false
ends-early words [] i lt e = at_drop_more (begins []) words i 0 lt
ends-early words (c ∷ text) i lt e = absurd (omega (arith, e))

module _ (is_good : List ℕ → Bool) where
  pub words-on : (before : List (List ℕ)) (vs : List Value) (v : Value) (words : List ℕ) (i : ℕ) → i < length vs → v ≡ get_or vs i v → Ok words ≡ words_in is_good (as_str (view v))
      → words_onto is_good before (items_view (drop i vs)) ≡ words_onto is_good (before ++ words ∷ []) (items_view (drop (i + 1) vs))
  unfolding words_onto
  words-on before vs v words i lt here read = rw (items_view-drop vs i v lt, ← here, ← read) refl

  pub words-end : (before : List (List ℕ)) (vs : List Value) (v : Value) (fault : Fault) (i : ℕ) → i < length vs → v ≡ get_or vs i v → Err fault ≡ words_in is_good (as_str (view v))
      → words_onto is_good before (items_view (drop i vs)) ≡ Err fault
  unfolding words_onto
  words-end before vs v fault i lt here read = rw (items_view-drop vs i v lt, ← here, ← read) refl

  pub words-done : (before : List (List ℕ)) (vs : List Value) (i : ℕ) → length vs ≤ i → words_onto is_good before (items_view (drop i vs)) ≡ Ok before
  unfolding words_onto
  words-done before vs i le = rw (drop_all i vs le) refl

pub in_step-ok : {A : Type 0} (k : ℕ) (r : Result A Fault) (x : A) → in_step k r ≡ Ok x → r ≡ Ok x
in_step-ok k (Ok y) x e = cc
in_step-ok k (Err f) x e = absurd cc

-- the fault of a first part is that of the whole
pub in_step-err : {A B : Type 0} (k : ℕ) (r : Result A Fault) (f : A → Result B Fault) (e : JobFault) → in_step k r ≡ Err e → in_step k (r >>= f) ≡ Err e
in_step-err k (Ok y) f e h = absurd cc
in_step-err k (Err g) f e h = cc

module _ (read : ℕ → List Condition → Option Members → Result (List Condition) Fault) (k : ℕ) where
  -- the tables that follow one give what they give after it
  tables-first : (before : List Condition) (vs : List Value) (v : Value) (i : ℕ) → i < length vs → v ≡ get_or vs i v
      → tables_onto read k before (items_view (drop i vs)) ≡ (read k before (as_table (view v)) >>= (λ more. tables_onto read (k + 1) more (items_view (drop (i + 1) vs))))
  unfolding tables_onto
  tables-first before vs v i lt here = rw (items_view-drop vs i v lt, ← here) refl

  -- the tables that follow one that was read
  pub tables-on : (before more : List Condition) (vs : List Value) (v : Value) (ms : Members) (place i : ℕ) → i < length vs → v ≡ get_or vs i v → Some ms ≡ as_table (view v)
      → in_step place (read k before (Some ms)) ≡ Ok more → tables_onto read k before (items_view (drop i vs)) ≡ tables_onto read (k + 1) more (items_view (drop (i + 1) vs))
  tables-on before more vs v ms place i lt here table said = tables-first before vs v i lt here ∙ rw (← table, in_step-ok place _ more said) refl

  -- the fault of one
  pub tables-end : (before : List Condition) (vs : List Value) (v : Value) (ms : Members) (e : JobFault) (place i : ℕ) → i < length vs → v ≡ get_or vs i v → Some ms ≡ as_table (view v)
      → in_step place (read k before (Some ms)) ≡ Err e → in_step place (tables_onto read k before (items_view (drop i vs))) ≡ Err e
  tables-end before vs v ms e place i lt here table said = ap (in_step place) (tables-first before vs v i lt here) ∙ rw (← table) (in_step-err place _ _ e said)

  -- what is no table
  pub tables-none : (before : List Condition) (vs : List Value) (v : Value) (place i : ℕ) → read k before None ≡ Err BadKey → i < length vs → v ≡ get_or vs i v → None ≡ as_table (view v)
      → in_step place (tables_onto read k before (items_view (drop i vs))) ≡ Err (refused.InStep BadKey place)
  tables-none before vs v place i bad lt here none = ap (in_step place) (tables-first before vs v i lt here) ∙ rw (← none, bad) refl

  pub tables-done : (before : List Condition) (vs : List Value) (i : ℕ) → length vs ≤ i → tables_onto read k before (items_view (drop i vs)) ≡ Ok before
  unfolding tables_onto
  tables-done before vs i le = rw (drop_all i vs le) refl

-- nothing was read
pub blank-view : (d : CodedDraft) (ranks : ℕ) → lists_of d.scripts.items ≡ replicate ranks [] → d.names.items ≡ [] → d.filed.items ≡ [] → d.namings.items ≡ [] → d.conditions.items ≡ [] → d.expected.items ≡ [] → d.provisos.items ≡ [] → draft_view d ≡ blank ranks
blank-view d ranks scripts names filed namings conditions expected provisos =
    let orders : map (map order_of) (lists_of d.scripts.items) ≡ replicate ranks [] = ap (map (map order_of)) scripts ∙ orders-empty ranks in
    cc (orders, names, filed, namings, conditions, expected, provisos)
