-- Where no error in an item leads to a step, no line gets a condition.
use Rattle.std.proofs.Common.{◌≡◌, ℕ, zero, suc, ◌+◌, ℤ, List, [], ◌∷◌, map, Bool, true, false, ◌||◌, Option, Some, None, is_some, refl, ap}
use Rattle.std.specs.List.{list_any, slice_get}
use Rattle.std.specs.Option.{option_and_then}
use Rattle.std.specs.Prelude.{if◌then◌else◌}
use Rattle.toml.specs.Data.{Data, Members, string, integer, float, boolean, datetime, array, table}
use Rattle.ulfm_reader.proofs.WrittenOut.{Line, Value, view}
use Rattle.ulfm_reader.specs.Blocks.{goal_in, name_in}
use Rattle.ulfm_reader.specs.Guards.{goal_of, guarded, guarded_for, guarded_from, guards_behind, guards_in, guards_with, number_in, open_guards, rank_in}
use Rattle.ulfm_reader.specs.Iterations.{is_rank}
use Rattle.ulfm_reader.specs.Ranks.{rank_of}
use Rattle.ulfm_reader.specs.declared.guard.Guard.{Guard}

none_here : (goal : Option (List ℕ)) (more : Bool) → (is_some goal || more) ≡ false → goal ≡ None
none_here None more none = refl
none_here (Some name) more none = absurd cc

none_behind : (goal : Option (List ℕ)) (more : Bool) → (is_some goal || more) ≡ false → more ≡ false
none_behind None more none = none
none_behind (Some name) more none = absurd cc

no_goal : (items : List Value) (k : ℕ) → list_any (λ v. is_some (goal_in (view v))) items ≡ false → option_and_then goal_in (slice_get (map view items) k) ≡ None
no_goal [] k none = refl
no_goal (v ∷ vs) zero none = none_here (goal_in (view v)) _ none
no_goal (v ∷ vs) (suc k) none = no_goal vs k (none_behind (goal_in (view v)) _ none)

unguarded : (b : Bool) (s t : List Guard) → s ≡ [] → t ≡ [] → (if b then s else t) ≡ []
unguarded true s t here there = here
unguarded false s t here there = there

module _ (items : List Value) (lines : List Line) (none : list_any (λ v. is_some (goal_in (view v))) items ≡ false) where
  on_line : (l : Line) (k n : ℕ) (guards : List Guard) → guards ≡ [] → guards_behind (map view items) lines l k n (open_guards (map view items) lines (name_in l.step) guards) ≡ []
  on_line l k n guards is = let leads_nowhere : goal_of (map view items) l ≡ None = no_goal items l.place none in rw (leads_nowhere, is) refl

  on_lines : (rank : ℤ) (k n : ℕ) (guards : List Guard) (found : Option Line) → guards ≡ [] → guards_with (map view items) lines rank k n guards found ≡ []
  on_lines rank k n guards None is = is
  on_lines rank k n guards (Some l) is = unguarded (is_rank rank (rank_in l.step)) (guards_behind (map view items) lines l k n (open_guards (map view items) lines (name_in l.step) guards)) guards (on_line l k n guards is) is

  none_before : (rank : ℤ) (k : ℕ) → guards_in (map view items) lines rank k ≡ []
  none_before rank zero = refl
  none_before rank (suc k) = on_lines rank k (number_in lines rank k) (guards_in (map view items) lines rank k) (slice_get lines k) (none_before rank k)

  as_members : (k : ℕ) (ms : Members) (rank : Option ℤ) → guarded_for (map view items) lines k ms rank ≡ ms
  as_members k ms None = refl
  as_members k ms (Some rank) = rw (none_before rank k) refl

  as_step : (k : ℕ) (d : Data) → guarded (map view items) lines k d ≡ d
  as_step k (table ms) = ap table (as_members k ms (rank_of ms))
  as_step k (string s) = refl
  as_step k (integer z) = refl
  as_step k (float x) = refl
  as_step k (boolean b) = refl
  as_step k (datetime t) = refl
  as_step k (array ds) = refl

  -- lines stay as they are
  pub as_lines : (k : ℕ) (ls : List Line) → guarded_from (map view items) lines k ls ≡ ls
  as_lines k [] = refl
  as_lines k (l ∷ ls) = rw (as_step k l.step, as_lines (k + 1) ls) refl
