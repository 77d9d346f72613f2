-- Words on ends and on the items that they carry.
use Rattle.std.specs.Prelude.{◌≡◌, ℕ, List, [], ◌++◌, ◌≤◌, ◌-◌, length, map, take, Option, None, Some}
use Rattle.std.specs.declared.alloc.Global.{Global}
use Rattle.std.specs.declared.vec.Vec.{Vec}
use Rattle.ulfm_base.specs.declared.rank.WorldRank.{WorldRank}
use Rattle.ulfm_base.specs.declared.item.Item.{Item}
use Rattle.ulfm_base.specs.Lists.{at}
use Rattle.ulfm_base.specs.Items.{items_from}

-- what was taken, without what a gathering took last
abbrev pub shown : {X : Type 0} → Option ℕ → List X → List X
shown None now = now
shown (Some count) now = take (length now - count) now

-- the ends of the one list have the names and show the lists of the ends of the other
pub record Keeps {E N : Type 0} (name : E → N) (pushed taken : E → ℕ → List Item) (before after : List E) : Type 0 where
  pub names : map name after ≡ map name before
  pub pushed_to : (k : ℕ) (e f : E) → at before k e → at after k f → (p : ℕ) → pushed f p ≡ pushed e p
  pub taken_from : (k : ℕ) (e f : E) → at before k e → at after k f → (p : ℕ) → taken f p ≡ taken e p

-- There is an inbox for each end, and for each ordered pair of ends what was pushed is what was taken and then what is
-- left. Nothing is left of others.
pub record IsGathered {E : Type 0} (pushed taken : E → ℕ → List Item) (ends : List E) (inboxes : List (Vec (WorldRank × Item) Global)) : Type 0 where
  pub inbox_for_each : length inboxes ≡ length ends
  pub flows : (s d : ℕ) (sender receiver : E) (inbox : Vec (WorldRank × Item) Global) → at ends s sender → at ends d receiver → at inboxes d inbox → pushed sender d ≡ taken receiver s ++ items_from s inbox.items
  pub no_others : (s d : ℕ) (inbox : Vec (WorldRank × Item) Global) → at inboxes d inbox → length ends ≤ s → items_from s inbox.items ≡ []

-- an end of this many, not gathered yet, by which nothing was pushed and nothing taken
pub record IsFresh {E : Type 0} (count : E → ℕ) (pushed taken : E → ℕ → List Item) (ready : E → Type 0) (n : ℕ) (e : E) : Type 0 where
  pub is_ready : ready e
  pub counted : count e ≡ n
  pub nothing_pushed : (p : ℕ) → pushed e p ≡ []
  pub nothing_taken : (p : ℕ) → taken e p ≡ []

-- these are ends with which nothing was done yet
abbrev pub AllFresh : {E : Type 0} → (E → ℕ) → (E → ℕ → List Item) → (E → ℕ → List Item) → (E → Type 0) → List E → Type 0
AllFresh {E} count pushed taken ready ends = (k : ℕ) (e : E) → at ends k e → IsFresh count pushed taken ready (length ends) e
