-- What posts, letters and notices do to a tracked history and to the table of requests and messages beside it.
use Rattle.std.specs.Prelude.{◌≡◌, ℕ, Bool, false, List, [], ◌∷◌, ◌++◌, length, Option, Some, None, if◌then◌else◌, nat_eq}
use Rattle.std.specs.Option.{option_map}
use Rattle.ulfm_base.specs.declared.envelope.Letter.{Letter}
use Rattle.ulfm_base.specs.declared.item.Item.{Item}
use Rattle.ulfm_base.specs.declared.item.Item.TheVariants.{Letter as Mail}
use Rattle.ulfm_base.specs.declared.pattern.Pattern.{Pattern}
use Rattle.ulfm_match.specs.History.{MatchEvent, Come, Clear, count_before}
use Rattle.ulfm_match.specs.Pairing.{Pairing}
use Rattle.ulfm_match.specs.State.{Matching, is_cleared, Tracks}
use Rattle.ulfm_log.specs.declared.entry.Entry.{Entry}
use Rattle.ulfm_rank.specs.declared.request.Fate.{Fate}
use Rattle.ulfm_rank.specs.declared.request.Request.{Request}
use Rattle.ulfm_rank.specs.History.{post_events, item_events}
use Rattle.ulfm_rank.specs.Standing.{IsOfGroup, IsTable}

-- the table with one more request
abbrev pub Adds : ℕ → Request → (ℕ → Option Request) → (ℕ → Option Request) → Type 0
Adds id request find find' = (k : ℕ) → find' k ≡ (if nat_eq id k then Some request else find k)

-- the table without the request of this number
abbrev pub Removes : ℕ → (ℕ → Option Request) → (ℕ → Option Request) → Type 0
Removes id find find' = (k : ℕ) → find' k ≡ (if nat_eq id k then None else find k)

-- the request of this number has another fate
abbrev pub changed : ℕ → Fate → ℕ → Request → Request
changed id fate k request = if nat_eq id k then record { pattern = request.pattern; fate = fate } else request

-- each request is changed
abbrev pub Changes : (ℕ → Request → Request) → (ℕ → Option Request) → (ℕ → Option Request) → Type 0
Changes change find find' = (k : ℕ) → find' k ≡ option_map (change k) (find k)

-- a receive was posted
abbrev pub TracksAdmit : Bool → Pattern → Matching → Fate → Matching → Type 0
TracksAdmit gone pattern old fate new =
    (history : List MatchEvent) (pairing : Pairing) → Tracks history pairing old →
    (pairing' : Pairing) × Tracks (history ++ post_events gone history pattern) pairing' new
    × ((n : ℕ) (entries : List Entry) (find find' : ℕ → Option Request) → IsOfGroup n entries pattern → IsTable n entries history pairing find → Adds (count_before history (length history)) (record { pattern = pattern; fate = fate }) find find' →
    IsTable n entries (history ++ post_events gone history pattern) pairing' find')

-- a letter came
abbrev pub TracksDelivery : Letter → Matching → (ℕ → Option Request) → Matching → (ℕ → Option Request) → Type 0
TracksDelivery letter old find new find' =
    (n : ℕ) (entries : List Entry) (history : List MatchEvent) (pairing : Pairing) → Tracks history pairing old → IsTable n entries history pairing find →
    (pairing' : Pairing) × Tracks (history ++ Come letter ∷ []) pairing' new × IsTable n entries (history ++ Come letter ∷ []) pairing' find'

-- the context c was revoked for the first time
abbrev pub TracksRevocation : ℕ → Matching → (ℕ → Option Request) → Matching → (ℕ → Option Request) → Type 0
TracksRevocation c old find new find' =
    (n : ℕ) (entries : List Entry) (history : List MatchEvent) (pairing : Pairing) → Tracks history pairing old → IsTable n entries history pairing find →
    Tracks (history ++ Clear c ∷ []) pairing new × IsTable n entries (history ++ Clear c ∷ []) pairing find'

-- the context of a letter wasn't cleared, unless it was revoked before
abbrev pub IsOpenFor : Bool → Matching → Item → Type 0
IsOpenFor revoked matcher item = (letter : Letter) → item ≡ Mail letter → revoked ≡ false → is_cleared matcher letter.envelope.context.number ≡ false

-- an item was taken from the rank s
abbrev pub TracksItem : Bool → ℕ → Item → Matching → (ℕ → Option Request) → Matching → (ℕ → Option Request) → Type 0
TracksItem revoked s item old find new find' =
    (n : ℕ) (entries : List Entry) (history : List MatchEvent) (pairing : Pairing) → Tracks history pairing old → IsTable n entries history pairing find →
    (pairing' : Pairing) × Tracks (history ++ item_events revoked history s item) pairing' new × IsTable n entries (history ++ item_events revoked history s item) pairing' find'
