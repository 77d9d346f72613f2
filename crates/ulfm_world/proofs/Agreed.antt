-- What every world keeps of its topics, and that ranks have one group for each context.
use Rattle.std.proofs.Common.{◌≡◌, ℕ, ◌<◌, true, false, List, length, ap, sym, subst, ◌∙◌, arith, Some}
use Rattle.std.specs.Prelude.{All, ⊤}
use Rattle.ulfm_board.specs.Known.{Known}
use Rattle.ulfm_world.proofs.Common.{Topic, Contribution, Decision, is_member, known_at, Entry, Adopted, Player, Step, topic_of, Report, at, IsWorld, same_Some, get_or_from_slice_get, slice_get_within, group_of, own_set, Keeps, has, is_gone, AdoptOne, EntersEachOnce, World, rank_at, player_at, HasStopped, report_of, reports_in, entry_at, gone_stopped, listed_own}
use Rattle.ulfm_log.specs.Proposal.{listed_of, has_adopted}
use Rattle.ulfm_report_laws.proofs.OneGroup.{same_group}
use Rattle.ulfm_report_laws.proofs.Proposing.{AllKeep}
use Rattle.ulfm_world.proofs.Read.{many_reports, report_there, report_inside, report_is, each_report, flowing-world}

-- a decision that is adopted is the one that is held, and its new group has the rank
abbrev pub IsAdopted : Known → ℕ → Entry → Type 0
IsAdopted decided me (Adopted d) = (known_at decided d.topic ≡ Some d) × (is_member d.fresh me ≡ true)
IsAdopted decided me _ = ⊤

-- a decision that is held on a topic: a rank has the old group, each listed rank brought what is listed for it, and each
-- excluded rank has stopped
pub record IsHeld (n : ℕ) (w : World) (t : Topic) (d : Decision) : Type 0 where
  pub about : d.topic ≡ t
  pub proposer : ℕ
  pub inside : proposer < n
  pub group : group_of n (rank_at w proposer).log t.context.number ≡ Some d.old
  pub listed : (r : ℕ) (brought : Contribution) → entry_at d.entries r ≡ Some brought → own_set (rank_at w r).log t ≡ Some brought
  pub stopped : (r : ℕ) → has d.excluded r ≡ true → HasStopped w r

-- a player adopted no decision on the topic of its open step
abbrev pub HasNotAdopted : Player → Type 0
HasNotAdopted p = (asked : Step) (topic : Topic) → p.current ≡ Some asked → topic_of p.rank.log asked ≡ Some topic → has_adopted p.rank.log topic ≡ false

-- what a world of n ranks keeps of its topics
pub record Settled (n : ℕ) (w : World) : Type 0 where
  pub size : length w.players ≡ n
  pub keeps : (r : ℕ) → r < n → Keeps n r (rank_at w r).log
  pub once : (r : ℕ) → r < n → EntersEachOnce (rank_at w r).log
  pub held : (t : Topic) (d : Decision) → known_at w.decided t ≡ Some d → IsHeld n w t d
  pub adopted : (r : ℕ) → r < n → All (IsAdopted w.decided r) (rank_at w r).log
  pub unadopted : (r : ℕ) → r < n → HasNotAdopted (player_at w r)

-- decisions that ranks adopted on one topic are equal
pub adopt-one : {n : ℕ} {w : World} → Settled n w → AdoptOne (reports_in w)
adopt-one {w} settled r s told other d e p q first second same =
    let held : (x : ℕ) (report : Report) (k : ℕ) (decision : Decision) → at (reports_in w) x report → at report.rank.log k (Adopted decision) → known_at w.decided decision.topic ≡ Some decision = λ x report k decision here stands.
    let log : List Entry = (rank_at w x).log in
    let there : at log k (Adopted decision) = subst (λ (a : Report). at a.rank.log k (Adopted decision)) (report_is w x here) stands in
    (rw (get_or_from_slice_get log k (Adopted decision) (Adopted decision) there) at (settled.adopted x (omega (arith, report_inside w x here, settled.size)) k (Adopted decision) (slice_get_within log k (Adopted decision) there))).0 in
    same_Some d e (sym (held r told first.0 d p first.1) ∙ ap (λ (t : Topic). known_at w.decided t) same ∙ held s other second.0 e q second.1)

-- ranks that made the communicator of a context have one group for it
pub one_group : (n : ℕ) (w : World) (r s c : ℕ) {g h : List ℕ} → Settled n w → r < n → s < n → group_of n (rank_at w r).log c ≡ Some g → group_of n (rank_at w s).log c ≡ Some h → g ≡ h
one_group n w r s c settled i j made other =
    same_group (reports_in w) (adopt-one settled) n r s c (report_there w r (omega (arith, i, settled.size))) (report_there w s (omega (arith, j, settled.size))) made other

-- what a rank lists another with is what the other's own entrance brings
pub listed_entry : {n : ℕ} (w : World) (r s : ℕ) (c : Topic) {set : Contribution} → IsWorld w → Settled n w → r < n → s < n → listed_of r (rank_at w r).log c s ≡ Some set → own_set (rank_at w s).log c ≡ Some set
listed_entry w r s c {set} h settled i j listed =
    listed_own (flowing-world h) r s c set (report_there w r (omega (arith, i, settled.size))) (report_there w s (omega (arith, j, settled.size)))
    (rw (many_reports w ∙ settled.size) (settled.keeps s j).owes_own) listed

pub known_stopped : {n : ℕ} (w : World) (s d : ℕ) → IsWorld w → Settled n w → s < n → d < n → is_gone (rank_at w d).log s ≡ true → HasStopped w s
known_stopped w s d h settled i j gone =
    gone_stopped (flowing-world h) s d (report_of (player_at w s)) (report_of (player_at w d)) (report_there w s (omega (arith, i, settled.size))) (report_there w d (omega (arith, j, settled.size))) gone

-- what the logs of a world keep of topics
pub all_keep : (n : ℕ) (w : World) → Settled n w → AllKeep (reports_in w)
all_keep n w settled = each_report (λ r told. Keeps (length (reports_in w)) r told.rank.log) w (λ r i.
    rw (many_reports w ∙ settled.size) (settled.keeps r (omega (arith, i, settled.size))))
