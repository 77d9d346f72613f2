-- What a log owes to each rank: its letters, and word of revocations and of entrances into shrinks and agreements (ULFM,
-- revoke, shrink and agree).
use Rattle.std.specs.Prelude.{ℕ, Bool, List, [], ◌∷◌, ◌==◌, not, ◌&&◌, if◌then◌else◌}
use Rattle.ulfm_base.specs.declared.entrance.Entrance.{Entrance}
use Rattle.ulfm_base.specs.declared.context.Context.{Context}
use Rattle.ulfm_base.specs.declared.item.Item.{Item}
use Rattle.ulfm_base.specs.declared.item.Item.TheVariants.{Letter as Mail, Revoke, Enter}
use Rattle.ulfm_base.specs.Group.{is_member}
use Rattle.ulfm_log.specs.declared.entry.Entry.{Entry}
use Rattle.ulfm_log.specs.declared.entry.Entry.TheVariants.{Sent, Revoked, Entered, Took}
use Rattle.ulfm_log.specs.Log.{gathered, by_before}
use Rattle.ulfm_log.specs.Facts.{is_gone, is_revoked}
use Rattle.ulfm_log.specs.Communicators.{members_of}

-- d is another rank, and isn't known to have failed
abbrev pub is_addressed : ℕ → List Entry → ℕ → Bool
is_addressed me before d = not (me == d) && not (is_gone before d)

-- the first revocation of a context is passed on
abbrev pub passed_on : ℕ → List Entry → Context → ℕ → List Item
passed_on me before context d = if is_revoked before context.number then [] else (if is_addressed me before d then Revoke context ∷ [] else [])

-- what a taken item makes its taker owe to d
abbrev pub owed_by_item : ℕ → List Entry → ℕ → Item → List Item
owed_by_item me before d (Revoke context) = passed_on me before context d
owed_by_item me before d _ = []

-- an entrance is announced to the other members
abbrev pub announced : ℕ → ℕ → List Entry → Entrance → ℕ → List Item
announced n me before entrance d = if is_member (members_of n before entrance.topic.context.number) d && is_addressed me before d then Enter entrance ∷ [] else []

-- what an entry owes to d, after the entries before it
abbrev pub owed_by : ℕ → ℕ → ℕ → List Entry → Entry → List Item
owed_by n me d _ (Sent to letter) = if to.number == d then Mail letter ∷ [] else []
owed_by n me d before (Revoked context) = passed_on me before context d
owed_by n me d before (Entered entrance) = announced n me before entrance d
owed_by n me d before (Took from item) = owed_by_item me before d item
owed_by n me d _ _ = []

-- what the log of the rank `me` of n owes to d, in order
abbrev pub owed : ℕ → ℕ → List Entry → ℕ → List Item
owed n me log d = gathered [] (by_before (owed_by n me d)) log
