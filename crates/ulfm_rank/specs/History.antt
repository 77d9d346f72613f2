-- The history of posts, arrivals, ends and clears that a log tells.
use Rattle.std.specs.Prelude.{ℕ, suc, Bool, false, List, [], ◌∷◌, ◌++◌, ◌==◌, length, if◌then◌else◌}
use Rattle.ulfm_base.specs.declared.item.Item.{Item}
use Rattle.ulfm_base.specs.declared.item.Item.TheVariants.{Letter as Mail, Gone, Revoke, Enter}
use Rattle.ulfm_base.specs.declared.pattern.Source.{Source}
use Rattle.ulfm_base.specs.declared.pattern.Source.TheVariants.{One, Any}
use Rattle.ulfm_base.specs.declared.pattern.Pattern.{Pattern}
use Rattle.ulfm_base.specs.Pattern.{names}
use Rattle.ulfm_match.specs.History.{MatchEvent, Post, Come, End, Clear, count_before}
use Rattle.ulfm_log.specs.declared.entry.Entry.{Entry}
use Rattle.ulfm_log.specs.declared.entry.Entry.TheVariants.{Posted, Probed, Cancelled, Revoked, Took}
use Rattle.ulfm_log.specs.Log.{gathered}
use Rattle.ulfm_log.specs.Facts.{is_gone, is_revoked, revoked_before}

-- the source names a rank that is known to have failed
abbrev pub names_gone : List Entry → Source → Bool
names_gone log (One rank) = is_gone log rank.number
names_gone log (Any members) = false

-- an end of the receive at place k, where the test holds of its place and pattern
abbrev pub end_at : (ℕ → Pattern → Bool) → ℕ → MatchEvent → List MatchEvent
end_at test k (Post pattern) = if test k pattern then End k ∷ [] else []
end_at test k _ = []

-- an end of each receive of which the test holds; the first event here stands at place k
abbrev pub ends_from : (ℕ → Pattern → Bool) → ℕ → List MatchEvent → List MatchEvent
ends_from test k [] = []
ends_from test k (event ∷ history) = end_at test k event ++ ends_from test (suc k) history

-- an end of each receive posted so far that names s
abbrev pub ends_of : ℕ → List MatchEvent → List MatchEvent
ends_of s history = ends_from (λ _ pattern. names pattern.source s) 0 history

-- the end of the receive of this number
abbrev pub end_numbered : ℕ → List MatchEvent → List MatchEvent
end_numbered id history = ends_from (λ k _. count_before history k == id) 0 history

-- the first revocation of a context clears it
abbrev pub cleared : List Entry → ℕ → List MatchEvent
cleared before c = if is_revoked before c then [] else Clear c ∷ []

-- what an item that is taken from s gives, whose context was revoked before or wasn't
abbrev pub item_events : Bool → List MatchEvent → ℕ → Item → List MatchEvent
item_events revoked history s (Mail letter) = if revoked then [] else Come letter ∷ []
item_events revoked history s Gone = ends_of s history
item_events revoked history s (Revoke context) = if revoked then [] else Clear context.number ∷ []
item_events revoked history s (Enter entrance) = []

-- what a post gives: the receive ends at once where its source is known to have failed
abbrev pub post_events : Bool → List MatchEvent → Pattern → List MatchEvent
post_events failed history pattern = Post pattern ∷ (if failed then End (length history) ∷ [] else [])

-- what an entry gives, after the entries before it and their history
abbrev pub events_by : List Entry → List MatchEvent → Entry → List MatchEvent
events_by before history (Posted pattern) = post_events (names_gone before pattern.source) history pattern
events_by before history (Probed id pattern) = Post pattern ∷ End (length history) ∷ []
events_by before history (Cancelled id) = end_numbered id.number history
events_by before history (Revoked context) = cleared before context.number
events_by before history (Took from item) = item_events (revoked_before before item) history from.number item
events_by before history _ = []

-- the history of a log, read off entry by entry
abbrev pub history_of : List Entry → List MatchEvent
history_of log = gathered [] events_by log
