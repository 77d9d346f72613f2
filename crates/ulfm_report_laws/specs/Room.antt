-- Room on the way from rank to rank, as logs tell of it (ULFM, stops).
use Rattle.std.specs.Prelude.{ℕ, Bool, false, not, ◌==◌, ◌<◌, ◌≤◌, List, drop, if◌then◌else◌}
use Rattle.std.specs.List.{count_by}
use Rattle.ulfm_base.specs.Lists.{at}
use Rattle.ulfm_log.specs.declared.entry.Entry.{Entry}
use Rattle.ulfm_log.specs.declared.entry.Entry.TheVariants.{Stopped, Took}
use Rattle.ulfm_log.specs.Facts.{is_gone_item}
use Rattle.ulfm_answer.specs.Report.{Report}
use Rattle.ulfm_report_laws.specs.Order.{HaveOneOrder}

-- an entry takes an item of the rank s that went out before the stop of s: each but the notice of the stop
abbrev pub takes_sent : ℕ → Entry → Bool
takes_sent s (Took from item) = if from.number == s then not (is_gone_item item) else false
takes_sent s _ = false

-- how many of these a log takes behind its first `count` entries
abbrev pub taken_behind : ℕ → ℕ → List Entry → ℕ
taken_behind s count log = count_by (takes_sent s) (drop count log)

-- As the rank s comes to place k of its log, no more than so many items that the rank d takes of it are under way: the first `count`
-- entries of d all come earlier, and behind them it takes no more.
pub record HasRoomFor (time : ℕ → ℕ → ℕ) (capacity s k d : ℕ) (log : List Entry) : Type 0 where
  pub count : ℕ
  pub earlier : (j : ℕ) → j < count → time d j < time s k
  pub few : taken_behind s count log ≤ capacity

-- Where a rank stops, what it sent to another one is taken earlier, is lost, or is on the way, where so many places are for it.
abbrev pub StopsHaveRoom : List Report → (ℕ → ℕ → ℕ) → ℕ → Type 0
StopsHaveRoom reports time capacity =
    (s k d : ℕ) (sender receiver : Report) → at reports s sender → at sender.rank.log k Stopped → at reports d receiver
    → HasRoomFor time capacity s k d receiver.rank.log

-- All logs have one order that rings of so many places allow. A rank that stops loses what waits to go out, so what is taken of it later, its
-- notice aside, stood in a ring as it stopped. All else may wait at its sender until it is taken, and needs no second place.
abbrev pub HaveRoom : List Report → ℕ → Type 0
HaveRoom reports capacity = (order : HaveOneOrder reports) × StopsHaveRoom reports order.time capacity
