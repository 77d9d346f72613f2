-- Ranks with their inboxes, and what may happen to them next.
use Rattle.std.specs.Prelude.{◌≡◌, ◌≢◌, ℕ, zero, suc, true, false, List, [], ◌∷◌, ◌++◌, ◌<◌, ◌≤◌, ◌⊎◌, length, map, if◌then◌else◌, None, is_none, slice_index_or, slice_set, replicate}
use Rattle.ulfm_base.specs.declared.rank.WorldRank.{WorldRank}
use Rattle.ulfm_base.specs.declared.context.Context.{Context}
use Rattle.ulfm_base.specs.declared.item.Item.{Item}
use Rattle.ulfm_base.specs.Items.{items_from}
use Rattle.ulfm_board.specs.Known.{Known, nothing_known}
use Rattle.ulfm_log.specs.declared.entry.Entry.TheVariants.{Took}
use Rattle.ulfm_log.specs.Facts.{is_stopped}
use Rattle.ulfm_log.specs.State.{State, logged, outbox, GoesOut}
use Rattle.ulfm_job.specs.declared.step.Step.{Step}
use Rattle.ulfm_script.specs.Player.{Player, start_player, with_rank, IsFree, IsCalled, GivesUpStep, SkipsStep}
use Rattle.ulfm_script.specs.Deciding.{IsReadyToDecide, IsDecided}
use Rattle.ulfm_answer.specs.Report.{Report}
use Rattle.ulfm_world.specs.declared.event.Event.{Event}
use Rattle.ulfm_world.specs.declared.event.Event.TheVariants.{Call, Push, Take, TakeFrom, Decide, Leave, Skip}
use Rattle.ulfm_world.specs.declared.event.Outcome.{Outcome}
use Rattle.ulfm_world.specs.declared.event.Outcome.TheVariants.{Answered, NotYet, Moved}
use Rattle.ulfm_world.specs.declared.event.Refused.{Refused}
use Rattle.ulfm_world.specs.declared.event.Refused.TheVariants.{NothingToPush, InboxFull, InboxEmpty, NotReady, Stopped, OutOfMemory, NoSuchRank}
use Rattle.ulfm_world.specs.declared.room.Room.{Room}
use Rattle.ulfm_world.specs.Room.{HasRoom, IsFull}

-- The players, an inbox for each with the senders of its items, the room for them, and by the numbers of topics what is decided.
pub record World : Type 0 where
  pub players : List Player
  pub inboxes : List (List (WorldRank × Item))
  pub room : Room
  pub decided : Known

-- a player where there is none
abbrev pub no_player : Player
no_player = start_player 0 0

-- the player at a place
abbrev pub player_in : List Player → ℕ → Player
player_in players r = slice_index_or players r no_player

-- the player r
abbrev pub player_at : World → ℕ → Player
player_at w r = player_in w.players r

-- the rank r
abbrev pub rank_at : World → ℕ → State
rank_at w r = (player_in w.players r).rank

-- the inbox of d
abbrev pub inbox_at : World → ℕ → List (WorldRank × Item)
inbox_at w d = slice_index_or w.inboxes d []

-- the rank r runs
abbrev pub IsRunning : World → ℕ → Type 0
IsRunning w r = is_stopped (rank_at w r).log ≡ false

-- the rank r has stopped
abbrev pub HasStopped : World → ℕ → Type 0
HasStopped w r = is_stopped (rank_at w r).log ≡ true

-- the world with other players
abbrev pub with_players : World → List Player → World
with_players w players = record { players = players; inboxes = w.inboxes; room = w.room; decided = w.decided }

-- the world with another player r
abbrev pub with_player : World → ℕ → Player → World
with_player w r player = with_players w (slice_set w.players r player)

-- the world with another inbox of d
abbrev pub with_inbox : World → ℕ → List (WorldRank × Item) → World
with_inbox w d items = record { players = w.players; inboxes = slice_set w.inboxes d items; room = w.room; decided = w.decided }

-- the world with other decisions
abbrev pub with_decided : World → Known → World
with_decided w decided = record { players = w.players; inboxes = w.inboxes; room = w.room; decided = decided }

-- the first k of n players that start
abbrev pub start_players : ℕ → ℕ → List Player
start_players n zero = []
start_players n (suc k) = start_players n k ++ start_player k n ∷ []

-- n ranks that start, with empty inboxes of this room, and nothing decided
abbrev pub start_world : ℕ → Room → World
start_world n room = record { players = start_players n n; inboxes = replicate n []; room = room; decided = nothing_known }

-- one poll of a step by the player r, where no other step stands open
pub record Calls (old : List Player) (r : ℕ) (step : Step) (new : List Player) : Type 0 where
  pub inside : r < length old
  pub running : is_stopped (player_in old r).rank.log ≡ false
  pub free : IsFree (player_in old r) step
  pub after : Player
  pub called : IsCalled (player_in old r) step after
  pub only : new ≡ slice_set old r after

-- The open shrink of a communicator by the player r, or its open agreement on it, has a proposal, is decided, and answered: the
-- proposal is the decision where there was none.
pub record DecidesStep (old : List Player) (known : Known) (r : ℕ) (comm : Context)
    (new : List Player) (later : Known) : Type 0 where
  pub inside : r < length old
  pub running : is_stopped (player_in old r).rank.log ≡ false
  pub after : Player
  pub decided : IsDecided (player_in old r) comm None known after later
  pub only : new ≡ slice_set old r after

-- the player r gives its open step up
pub record GivesUp (old : List Player) (r : ℕ) (new : List Player) : Type 0 where
  pub inside : r < length old
  pub running : is_stopped (player_in old r).rank.log ≡ false
  pub after : Player
  pub left : GivesUpStep (player_in old r) after
  pub only : new ≡ slice_set old r after

-- the player r skips a step, where none stands open
pub record Skips (old : List Player) (r : ℕ) (step : Step) (new : List Player) : Type 0 where
  pub inside : r < length old
  pub running : is_stopped (player_in old r).rank.log ≡ false
  pub after : Player
  pub skipped : SkipsStep (player_in old r) step after
  pub only : new ≡ slice_set old r after

-- the first item of the outbox of s towards d goes to the end of the inbox of d
pub record Pushes (old : World) (s d : ℕ) (new : World) : Type 0 where
  pub inside_s : s < length old.players
  pub inside_d : d < length old.players
  pub room : HasRoom old.room s (inbox_at old d)
  pub sender : WorldRank
  pub is_sender : sender.number ≡ s
  pub item : Item
  pub after : State
  pub leaves : GoesOut (rank_at old s) after d item
  pub only : new ≡ with_inbox (with_player old s (with_rank (player_at old s) after)) d (inbox_at old d ++ (sender, item) ∷ [])

-- an item of the inbox of r goes to its log, past those before it, none of which is of its sender
pub record Takes (old : World) (r : ℕ) (passed : List (WorldRank × Item)) (new : World) : Type 0 where
  pub inside : r < length old.players
  pub running : IsRunning old r
  pub source : WorldRank
  pub item : Item
  pub rest : List (WorldRank × Item)
  pub found : inbox_at old r ≡ passed ++ (source, item) ∷ rest
  pub of_others : items_from source.number passed ≡ []
  pub only : new ≡ with_inbox (with_player old r (with_rank (player_at old r) (logged (rank_at old r) (Took source item)))) r (passed ++ rest)

-- the first item of the sender s in the inbox of r goes to its log
pub record TakesFrom (old : World) (r s : ℕ) (new : World) : Type 0 where
  pub inside_s : s < length old.players
  pub passed : List (WorldRank × Item)
  pub takes : Takes old r passed new
  pub is_source : takes.source.number ≡ s

-- one step of the world
abbrev pub Happens : World → Event → World → Type 0
Happens old (Call r step) new = (players : List Player) × Calls old.players r step players × (new ≡ with_players old players)
Happens old (Push s d) new = Pushes old s d new
Happens old (Take r) new = Takes old r [] new
Happens old (TakeFrom r s) new = TakesFrom old r s new
Happens old (Decide r comm) new =
    (players : List Player) × (later : Known) × DecidesStep old.players old.decided r comm players later
    × (new ≡ with_decided (with_players old players) later)
Happens old (Leave r) new = (players : List Player) × GivesUp old.players r players × (new ≡ with_players old players)
Happens old (Skip r step) new = (players : List Player) × Skips old.players r step players × (new ≡ with_players old players)

-- what is told of an event that happened, by the world after it
abbrev pub outcome_of : World → Event → Outcome
outcome_of new (Call r _) = if is_none (player_at new r).current then Answered else NotYet
outcome_of new (Decide r _) = Answered
outcome_of new _ = Moved

-- so many polls of a step by the player r, one after another, each of which leaves it open
abbrev pub CallsInVain : ℕ → World → ℕ → Step → World → Type 0
CallsInVain zero old r asked new = new ≡ old
CallsInVain (suc n) old r asked new =
    (mid : World) × Happens old (Call r asked) mid × (outcome_of mid (Call r asked) ≡ NotYet) × CallsInVain n mid r asked new

-- the rank r is one of the world
abbrev pub IsInside : World → ℕ → Type 0
IsInside w r = r < length w.players

-- the rank r is one of the world, and runs
abbrev pub IsLive : World → ℕ → Type 0
IsLive w r = IsInside w r × IsRunning w r

-- Why an event is refused, in the order of the checks. Out of memory has no cause that a world shows. It refuses no further
-- poll of an open step, whose answer has its room, no skip while one is open, and no decision: one that finds no memory to be
-- adopted is answered so.
abbrev pub IsRefused : World → Event → Refused → Type 0
IsRefused w (Call r asked) NoSuchRank = length w.players ≤ r
IsRefused w (Call r asked) Stopped = IsInside w r × HasStopped w r
IsRefused w (Call r asked) NotReady = IsLive w r × (IsFree (player_at w r) asked → ⊥)
IsRefused w (Call r asked) OutOfMemory = IsLive w r × ((player_at w r).current ≡ None)
IsRefused w (Push s d) NoSuchRank = (length w.players ≤ s) ⊎ (length w.players ≤ d)
IsRefused w (Push s d) NothingToPush = IsInside w s × IsInside w d × (outbox (rank_at w s) d ≡ [])
IsRefused w (Push s d) InboxFull = IsInside w s × IsInside w d × (outbox (rank_at w s) d ≢ []) × IsFull w.room s (inbox_at w d)
IsRefused w (Push s d) OutOfMemory = IsInside w s × IsInside w d × (outbox (rank_at w s) d ≢ []) × HasRoom w.room s (inbox_at w d)
IsRefused w (Take r) NoSuchRank = length w.players ≤ r
IsRefused w (Take r) Stopped = IsInside w r × HasStopped w r
IsRefused w (Take r) InboxEmpty = IsLive w r × (inbox_at w r ≡ [])
IsRefused w (Take r) OutOfMemory = IsLive w r × (inbox_at w r ≢ [])
IsRefused w (TakeFrom r s) NoSuchRank = (length w.players ≤ r) ⊎ (length w.players ≤ s)
IsRefused w (TakeFrom r s) Stopped = IsInside w r × IsInside w s × HasStopped w r
IsRefused w (TakeFrom r s) InboxEmpty = IsLive w r × IsInside w s × (items_from s (inbox_at w r) ≡ [])
IsRefused w (TakeFrom r s) OutOfMemory = IsLive w r × IsInside w s × (items_from s (inbox_at w r) ≢ [])
IsRefused w (Decide r comm) NoSuchRank = length w.players ≤ r
IsRefused w (Decide r comm) Stopped = IsInside w r × HasStopped w r
IsRefused w (Decide r comm) NotReady = IsLive w r × (IsReadyToDecide (player_at w r) comm → ⊥)
IsRefused w (Leave r) NoSuchRank = length w.players ≤ r
IsRefused w (Leave r) Stopped = IsInside w r × HasStopped w r
IsRefused w (Leave r) NotReady = IsLive w r × ((player_at w r).current ≡ None)
IsRefused w (Skip r asked) NoSuchRank = length w.players ≤ r
IsRefused w (Skip r asked) Stopped = IsInside w r × HasStopped w r
IsRefused w (Skip r asked) NotReady = IsLive w r × ((player_at w r).current ≢ None)
IsRefused w (Skip r asked) OutOfMemory = IsLive w r × ((player_at w r).current ≡ None)
IsRefused w _ _ = ⊥

-- an event happens, or is refused for a cause and changes nothing
abbrev pub Applied : World → Event → World → Type 0
Applied old event new = Happens old event new ⊎ ((why : Refused) × IsRefused old event why × (new ≡ old))

-- a whole schedule
abbrev pub Run : World → List Event → World → Type 0
Run old [] new = new ≡ old
Run old (event ∷ events) new = (mid : World) × Applied old event mid × Run mid events new

-- some schedule leads from one world to the other
abbrev pub Reaches : World → World → Type 0
Reaches old new = (events : List Event) × Run old events new

-- a world that some schedule of at most 8 ranks leads to
pub record IsReached (w : World) : Type 0 where
  pub ranks : ℕ
  pub room : Room
  pub few : ranks ≤ 8
  pub schedule : Reaches (start_world ranks room) w

-- what a player reports where each of its turns had room for an item
abbrev pub report_of : Player → Report
report_of p = record { rank = p.rank; steps = p.done; starved = 0 }

-- what the ranks of a world report
abbrev pub reports_in : World → List Report
reports_in w = map report_of w.players
