-- What calls by C do that move one step at a time, or look ahead.
use Rattle.std.specs.Prelude.{◌≡◌, ◌≤◌, ℕ, ◌⊎◌, Option, min}
use Rattle.ulfm_base.specs.declared.error.CallError.{CallError}
use Rattle.ulfm_base.specs.declared.error.CallError.TheVariants.{BadRank}
use Rattle.ulfm_c.specs.Calls.{Answers, number_of}
use Rattle.ulfm_c.specs.NextItem.{next_item}
use Rattle.ulfm_c.specs.Letters.{IsAsked}
use Rattle.ulfm_c.specs.Progress.{TellsWhether}
use Rattle.ulfm_c.specs.declared.next_item.CNextItem.{CNextItem}
use Rattle.ulfm_carrier.specs.declared.head.Head.{Head}
use Rattle.ulfm_c.specs.Ahead.{IsOutlook, LooksAt}
use Rattle.ulfm_c.specs.declared.outlook.Outlook.{Outlook}
use Rattle.ulfm_c.specs.declared.outlook.Outlook.TheVariants.{Over, NotYet, Pending}
use Rattle.ulfm_c.specs.Turning.{IsTakeRefusal, LeavesRoom, Pushes, TakesFrom}
use Rattle.ulfm_c.specs.View.{ProcessView, ReadyView}
use Rattle.ulfm_rank.specs.Checks.{IsTestRefusal}

-- what waits is pushed, and it is told whether anything went
abbrev pub PushCall : ProcessView → ProcessView → ℕ → ℕ → Type 0
PushCall old new moved code = (code ≡ 0) × TellsWhether moved (Pushes old new)

-- an item of a rank, past 255 as 255, is taken, and it is told whether there was one: where there was none, the next take has room; or it is refused
abbrev pub TakeCall : ReadyView → ReadyView → ℕ → ℕ → ℕ → ℕ → Type 0
TakeCall old new source before took code =
    Answers old.view new.view code (took ≡ before) (TellsWhether took (TakesFrom old.view new.view (min source 255)) × (took ≡ 0 → LeavesRoom old new))
    (IsTakeRefusal old (min source 255))

-- there is no such rank
abbrev pub IsNoRank : ProcessView → ℕ → CallError → Type 0
IsNoRank p source e = (e ≡ BadRank) × (p.rank.ranks ≤ source)

-- the first item of a rank is told, or it is refused
abbrev pub NextCall : ProcessView → ProcessView → ℕ → CNextItem → CNextItem → ℕ → Type 0
NextCall old new source before first code =
    Answers old new code (first ≡ before) ((head : Option Head) × LooksAt old new (min source 255) head × (first ≡ next_item head)) (IsNoRank old (min source 255))

-- the code of what a test would come to
abbrev pub number_of_outlook : Outlook → ℕ
number_of_outlook Over = 0
number_of_outlook NotYet = 17
number_of_outlook Pending = 18

-- the code that a test of the request would answer is told, and nothing changes
abbrev pub WouldCall : ProcessView → ProcessView → ℕ → ℕ → ℕ → Type 0
WouldCall old new request told code =
    (code ≡ 0) × (new ≡ old)
    × (((outlook : Outlook) × IsAsked old request × IsOutlook old request outlook × (told ≡ number_of_outlook outlook))
    ⊎ ((e : CallError) × IsTestRefusal old.rank.log request e × (told ≡ number_of e)))
