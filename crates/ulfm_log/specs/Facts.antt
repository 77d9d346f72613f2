-- What a log tells: which ranks are known to have failed, what was acknowledged, which contexts are revoked,
-- which numbers are those of messages, which requests and messages are released, whether the rank stopped, and what it
-- took from each rank (ULFM, `MPI_Comm_get_failed`, `MPI_Comm_ack_failed`, `MPI_Comm_revoke`; MPI 4.0, 3.7.3 on
-- requests, 3.8.2 on messages).
use Rattle.std.specs.Prelude.{◌≡◌, ⊤, ℕ, Bool, true, false, List, [], ◌∷◌, ◌==◌, length, min, max, if◌then◌else◌}
use Rattle.std.specs.List.{list_any, flat_map}
use Rattle.ulfm_base.specs.declared.item.Item.{Item}
use Rattle.ulfm_base.specs.declared.item.Item.TheVariants.{Letter as Mail, Gone, Revoke}
use Rattle.ulfm_base.specs.Group.{is_member, intersection}
use Rattle.ulfm_log.specs.declared.entry.Entry.{Entry}
use Rattle.ulfm_log.specs.declared.entry.Entry.TheVariants.{Sent, Released, Probed, Received, Cancelled, Acknowledged, Revoked, Stopped, Took}
use Rattle.ulfm_log.specs.Log.{gathered, by_found}
use Rattle.ulfm_base.specs.declared.rank_set.RankSet.{RankSet}
use Rattle.ulfm_base.specs.RankSet.{has}

-- an item says that its sender stopped
abbrev pub is_gone_item : Item → Bool
is_gone_item Gone = true
is_gone_item _ = false

-- an entry tells that the rank s is gone
abbrev pub tells_gone : ℕ → Entry → Bool
tells_gone s (Took from item) = if from.number == s then is_gone_item item else false
tells_gone s _ = false

-- the rank s is known to have failed
abbrev pub is_gone : List Entry → ℕ → Bool
is_gone log s = list_any (tells_gone s) log

-- the sender of a notice, where it isn't among those that were known
abbrev pub newly_known : List ℕ → Entry → List ℕ
newly_known known (Took from item) = if is_gone_item item then (if is_member known from.number then [] else from.number ∷ []) else []
newly_known _ _ = []

-- the ranks that are known to have failed, in the order of the first notice from each
abbrev pub known_of : List Entry → List ℕ
known_of log = gathered [] (by_found newly_known) log

-- those of them that are members of a group, in the same order
abbrev pub known_in : List Entry → List ℕ → List ℕ
known_in log group = intersection (known_of log) group

-- an item revokes the context c
abbrev pub item_revokes : ℕ → Item → Bool
item_revokes c (Revoke context) = context.number == c
item_revokes c _ = false

-- an entry revokes the context c, by the rank's own call or by a notice that it took
abbrev pub revokes : ℕ → Entry → Bool
revokes c (Revoked context) = context.number == c
revokes c (Took from item) = item_revokes c item
revokes c _ = false

-- the context c is revoked
abbrev pub is_revoked : List Entry → ℕ → Bool
is_revoked log c = list_any (revokes c) log

-- the context of a letter or of a revocation was revoked before
abbrev pub revoked_before : List Entry → Item → Bool
revoked_before log (Mail letter) = is_revoked log letter.envelope.context.number
revoked_before log (Revoke context) = is_revoked log context.number
revoked_before log _ = false

-- the total acknowledged of c after an entry, where it was `total` before
abbrev pub acknowledged_by : ℕ → ℕ → Entry → ℕ
acknowledged_by c total (Acknowledged context raised) = if context.number == c then raised else total
acknowledged_by c total _ = total

-- the last total that is acknowledged of c, or this one
abbrev pub acknowledged_from : ℕ → ℕ → List Entry → ℕ
acknowledged_from c total [] = total
acknowledged_from c total (e ∷ rest) = acknowledged_from c (acknowledged_by c total e) rest

-- the last total that was answered for c, or 0
abbrev pub acknowledged_of : List Entry → ℕ → ℕ
acknowledged_of log c = acknowledged_from c 0 log

-- what an acknowledgement of the first n failures of this group answers: never fewer than before
abbrev pub ack_answer : List Entry → List ℕ → ℕ → ℕ → ℕ
ack_answer log group c n = max (acknowledged_of log c) (min n (length (known_in log group)))

-- an entry releases the request or message of this number
abbrev pub releases : ℕ → Entry → Bool
releases k (Released id answer) = id.number == k
releases k (Received id answer) = id.number == k
releases k (Cancelled id) = id.number == k
releases k _ = false

-- the request or message of this number was released
abbrev pub is_released : List Entry → ℕ → Bool
is_released log k = list_any (releases k) log

-- an entry is that of the probe which found the message of this number
abbrev pub probes : ℕ → Entry → Bool
probes k (Probed id pattern) = id.number == k
probes k _ = false

-- this is the number of a message, released or not
abbrev pub is_probed : List Entry → ℕ → Bool
is_probed log k = list_any (probes k) log

-- an entry is the stop
abbrev pub is_stop : Entry → Bool
is_stop Stopped = true
is_stop _ = false

-- the rank stopped
abbrev pub is_stopped : List Entry → Bool
is_stopped log = list_any is_stop log

-- the items of s that an entry took
abbrev pub took_by : ℕ → Entry → List Item
took_by s (Took from item) = if from.number == s then item ∷ [] else []
took_by s _ = []

-- what the log took from s, in order
abbrev pub took : List Entry → ℕ → List Item
took log s = flat_map (took_by s) log

-- a letter that an entry sent bears the number of its rank
abbrev pub IsSigned : ℕ → Entry → Type 0
IsSigned me (Sent to letter) = letter.envelope.source.number ≡ me
IsSigned me _ = ⊤

-- these are the ranks that are known to have failed
abbrev pub Knows : List Entry → RankSet → Type 0
Knows log known = (r : ℕ) → has known r ≡ is_gone log r
