-- What goes from rank to rank, as reports and ends tell it, and what is left in inboxes.
use Rattle.std.specs.Prelude.{◌≡◌, ℕ, List, ◌++◌, map}
use Rattle.std.specs.declared.alloc.Global.{Global}
use Rattle.std.specs.declared.vec.Vec.{Vec}
use Rattle.ulfm_base.specs.declared.rank.WorldRank.{WorldRank}
use Rattle.ulfm_base.specs.declared.item.Item.{Item}
use Rattle.ulfm_base.specs.Items.{items_from}
use Rattle.ulfm_base.specs.Lists.{at}
use Rattle.ulfm_log.specs.Facts.{took}
use Rattle.ulfm_log.specs.State.{State}
use Rattle.ulfm_answer.specs.Report.{Report}
use Rattle.ulfm_report_laws.specs.Flow.{Inboxes}

-- what is left in each inbox
abbrev pub contents : List (Vec (WorldRank × Item) Global) → Inboxes
contents inboxes = map (λ (v : Vec (WorldRank × Item) Global). v.items) inboxes

-- What the log of d took from s is what its end took from s. This, and then what is left of s in the inbox of d, is what
-- the end of s pushed to d.
pub record PairMatchesLogs {E : Type 0} (pushed taken : E → ℕ → List Item) (s d : ℕ) (receiver : State)
    (out inlet : E) (left : List Item) : Type 0 where
  pub same_taken : taken inlet s ≡ took receiver.log s
  pub same_pushed : pushed out d ≡ took receiver.log s ++ left

-- what was pushed and taken between each ordered pair of ranks is what the logs say
abbrev pub EndsMatchLogs : {E : Type 0} → (E → ℕ → List Item) → (E → ℕ → List Item) → List Report → List E
    → List (Vec (WorldRank × Item) Global) → Type 0
EndsMatchLogs {E} pushed taken reports ends inboxes =
    (s d : ℕ) (receiver : Report) (out inlet : E) (inbox : Vec (WorldRank × Item) Global)
    → at reports d receiver → at ends s out → at ends d inlet → at inboxes d inbox
    → PairMatchesLogs pushed taken s d receiver.rank out inlet (items_from s inbox.items)
