-- Steps that are written out stay as they are when they are written out once more.
use Rattle.std.proofs.Common.{◌≡◌, ℕ, zero, suc, ◌+◌, ℤ, List, [], ◌∷◌, ◌++◌, All, Bool, true, false, Option, Some, None, refl, sym, ap, ◌∙◌}
use Rattle.std.proofs.lemmas.List.{append-nil, append_assoc}
use Rattle.std.proofs.lemmas.List.Elements.{All-head, All-tail}
use Rattle.std.specs.List.{slice_get}
use Rattle.std.specs.Option.{option_and_then}
use Rattle.std.specs.Prelude.{codes, if◌then◌else◌}
use Rattle.toml.specs.Data.{Data, Members, string, integer, float, boolean, datetime, array, table}
use Rattle.ulfm_reader.specs.Blocks.{block_in, goal_in, items_behind, name_in}
use Rattle.ulfm_reader.specs.Guards.{goal_of, guarded, guarded_for, guarded_from, guards_behind, guards_in, guards_with, number_in, open_guards, rank_in}
use Rattle.ulfm_reader.specs.Iterations.{is_rank}
use Rattle.ulfm_reader.specs.Line.{Line, line}
use Rattle.ulfm_reader.specs.Lines.{written_out}
use Rattle.ulfm_reader.specs.Ranks.{further, further_at, placed, placed_for, put_neighbour, rank_of, shared_by, with_neighbour, written_for, written_step}
use Rattle.ulfm_reader.specs.declared.guard.Guard.{Guard}
use Rattle.ulfm_program.proofs.Numbered.{IsPlainStep, numbered}

-- it is no block
no_block : (behind : List Data) (d : Data) → IsPlainStep d → block_in behind d ≡ None
no_block behind (table ms) is = rw is.steps refl
no_block behind (string s) is = absurd is
no_block behind (integer z) is = absurd is
no_block behind (float x) is = absurd is
no_block behind (boolean b) is = absurd is
no_block behind (datetime t) is = absurd is
no_block behind (array ds) is = absurd is

-- it stands for itself
itself : (ranks : ℕ) (d : Data) → IsPlainStep d → written_step ranks d ≡ d ∷ []
itself ranks (table ms) is =
    let shared : shared_by ranks (table ms) ≡ [] = rw is.rank refl in
    let rank : rank_of ms ≡ Some is.number = rw is.rank refl in
    let no_to : further_at ranks (codes "to") ms ≡ None = ap (option_and_then (further ranks)) is.to in
    let no_from : further_at ranks (codes "from") ms ≡ None = ap (option_and_then (further ranks)) is.from in
    let to : with_neighbour ranks is.number (codes "to") ms ≡ ms = ap (put_neighbour ranks is.number (codes "to") ms) no_to in
    let from : with_neighbour ranks is.number (codes "from") ms ≡ ms = ap (put_neighbour ranks is.number (codes "from") ms) no_from in
    let same : placed ranks ms ≡ ms = ap (placed_for ranks ms) rank ∙ ap (with_neighbour ranks is.number (codes "from")) to ∙ from in
    ap (written_for ranks (table ms)) shared ∙ ap (λ (ns : Members). table ns ∷ []) same
itself ranks (string s) is = absurd is
itself ranks (integer z) is = absurd is
itself ranks (float x) is = absurd is
itself ranks (boolean b) is = absurd is
itself ranks (datetime t) is = absurd is
itself ranks (array ds) is = absurd is

-- no error in it leads anywhere
no_goal : (d : Data) → IsPlainStep d → goal_in d ≡ None
no_goal (table ms) is = rw is.leads refl
no_goal (string s) is = absurd is
no_goal (integer z) is = absurd is
no_goal (float x) is = absurd is
no_goal (boolean b) is = absurd is
no_goal (datetime t) is = absurd is
no_goal (array ds) is = absurd is

-- the lines of such items
items_plain : (ranks place : ℕ) (lines : List Line) (ds : List Data) → All IsPlainStep ds → items_behind ranks place lines ds ≡ lines ++ numbered place ds
items_plain ranks place lines [] all = sym (append-nil lines)
items_plain ranks place lines (d ∷ ds) all =
    let one = All-head IsPlainStep d ds all in
    rw (no_block ds d one, itself ranks d one)
    (items_plain ranks (place + 1) (lines ++ line place d ∷ []) ds (All-tail IsPlainStep d ds all) ∙ append_assoc lines (line place d ∷ []) (numbered (place + 1) ds))

goals_none : (ds : List Data) (k : ℕ) → All IsPlainStep ds → option_and_then goal_in (slice_get ds k) ≡ None
goals_none [] k all = refl
goals_none (d ∷ ds) zero all = no_goal d (All-head IsPlainStep d ds all)
goals_none (d ∷ ds) (suc k) all = goals_none ds k (All-tail IsPlainStep d ds all)

module _ (items : List Data) (lines : List Line) (none : (k : ℕ) → option_and_then goal_in (slice_get items k) ≡ None) where
  on_line : (l : Line) (k n : ℕ) (guards : List Guard) → guards ≡ [] → guards_behind items lines l k n (open_guards items lines (name_in l.step) guards) ≡ []
  on_line l k n guards is = let leads_nowhere : goal_of items l ≡ None = none l.place in rw (leads_nowhere, is) refl

  on_lines : (rank : ℤ) (k n : ℕ) (guards : List Guard) (found : Option Line) → guards ≡ [] → guards_with items lines rank k n guards found ≡ []
  on_lines rank k n guards None is = is
  on_lines rank k n guards (Some l) is = by (is_rank rank (rank_in l.step))
    where
      by : (b : Bool) → (if b then guards_behind items lines l k n (open_guards items lines (name_in l.step) guards) else guards) ≡ []
      by true = on_line l k n guards is
      by false = is

  none_before : (rank : ℤ) (k : ℕ) → guards_in items lines rank k ≡ []
  none_before rank zero = refl
  none_before rank (suc k) = on_lines rank k (number_in lines rank k) (guards_in items lines rank k) (slice_get lines k) (none_before rank k)

  as_members : (k : ℕ) (ms : Members) (rank : Option ℤ) → guarded_for items lines k ms rank ≡ ms
  as_members k ms None = refl
  as_members k ms (Some rank) = rw (none_before rank k) refl

  as_step : (k : ℕ) (d : Data) → guarded items lines k d ≡ d
  as_step k (table ms) = ap table (as_members k ms (rank_of ms))
  as_step k (string s) = refl
  as_step k (integer z) = refl
  as_step k (float x) = refl
  as_step k (boolean b) = refl
  as_step k (datetime t) = refl
  as_step k (array ds) = refl

  as_lines : (k : ℕ) (ls : List Line) → guarded_from items lines k ls ≡ ls
  as_lines k [] = refl
  as_lines k (l ∷ ls) = rw (as_step k l.step, as_lines (k + 1) ls) refl

-- such steps, written out
pub written_again : (ranks : ℕ) (ds : List Data) → All IsPlainStep ds → written_out ranks ds ≡ numbered 0 ds
written_again ranks ds all = as_lines ds (items_behind ranks 0 [] ds) (λ k. goals_none ds k all) 0 (items_behind ranks 0 [] ds) ∙ items_plain ranks 0 [] ds all
