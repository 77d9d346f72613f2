-- What a world keeps of its topics when one rank does something.
use Rattle.std.proofs.Common.{◌≡◌, ℕ, ◌<◌, true, List, [], ◌∷◌, ◌++◌, length, set, refl, ap, ◌∙◌, arith, inl, inr, ◌⊎◌, Some, length-set, All}
use Rattle.ulfm_board.specs.Known.{Known}
use Rattle.ulfm_world.proofs.Common.{Topic, Contribution, Decision, known_at, Entry, Player, World, player_in, player_at, rank_at, cases_eq, or_left, All-weaker, group_of, Fits, own_set, own_stays, Keeps, keeps-push, is_stop, is_stopped, EntersEachOnce, any-push, Adopted}
use Rattle.ulfm_world.proofs.Changed.{player-same, player-other}
use Rattle.ulfm_log.proofs.Grouped.{group_stays}
use Rattle.ulfm_report_laws.proofs.Once.{once-push}
use Rattle.ulfm_world.proofs.Agreed.{HasNotAdopted, IsAdopted, IsHeld, Settled}

-- a log stays, or gets one entry that the rank may add
abbrev pub Grows : ℕ → ℕ → List Entry → List Entry → Type 0
Grows n me old new = (new ≡ old) ⊎ ((e : Entry) × Fits n me old e × (new ≡ old ++ e ∷ []))

pub keeps-grown : (n me : ℕ) {old new : List Entry} → Keeps n me old → Grows n me old new → Keeps n me new
keeps-grown n me h (inl same) = rw same h
keeps-grown n me {old} h (inr more) = rw more.2 (keeps-push n me old more.0 h more.1)

once-grown : (n me : ℕ) {old new : List Entry} → Keeps n me old → EntersEachOnce old → Grows n me old new → EntersEachOnce new
once-grown n me h once (inl same) = rw same once
once-grown n me {old} h once (inr more) = rw more.2 (once-push n me old more.0 h.enters_once once more.1)

own-grown : (n me : ℕ) {old new : List Entry} (c : Topic) {known : Contribution} → Grows n me old new → own_set old c ≡ Some known → own_set new c ≡ Some known
own-grown n me c (inl same) h = ap (λ (x : List Entry). own_set x c) same ∙ h
own-grown n me {old} c {known} (inr more) h = ap (λ (x : List Entry). own_set x c) more.2 ∙ own_stays old more.0 c known h

stopped-grown : (n me : ℕ) {old new : List Entry} → Grows n me old new → is_stopped old ≡ true → is_stopped new ≡ true
stopped-grown n me (inl same) h = ap is_stopped same ∙ h
stopped-grown n me {old} (inr more) h = ap is_stopped more.2 ∙ any-push is_stop old more.0 ∙ or_left (is_stopped old) (is_stop more.0) h

group-grown : (n me : ℕ) {old new : List Entry} (c : ℕ) {g : List ℕ} → Grows n me old new → group_of n old c ≡ Some g → group_of n new c ≡ Some g
group-grown n me c (inl same) h = ap (λ (x : List Entry). group_of n x c) same ∙ h
group-grown n me {old} c {g} (inr more) h = ap (λ (x : List Entry). group_of n x c) more.2 ∙ group_stays n old more.0 c g h

-- what held of each player holds of each after a change of one
pub each_at : (ps : List Player) (r : ℕ) (p : Player) (P : ℕ → Player → Player → Type 0) → r < length ps → P r (player_in ps r) p → ((x : ℕ) → P x (player_in ps x) (player_in ps x)) → (x : ℕ) → P x (player_in ps x) (player_in (set ps r p) x)
each_at ps r p P inside changed unchanged x = elim (cases_eq x r) [
  | inl same ↦ rw (player-same ps r x p same inside) (rw same changed)
  | inr other ↦ rw (player-other ps r x p other) (unchanged x)
]

-- every log grew as it may
abbrev pub AllGrew : ℕ → World → World → Type 0
AllGrew n w w' = (x : ℕ) → Grows n x (rank_at w x).log (rank_at w' x).log

-- what may be held still may
pub held-grown : (n : ℕ) (w w' : World) (c : Topic) (d : Decision) → AllGrew n w w' → IsHeld n w c d → IsHeld n w' c d
held-grown n w w' c d grew h = record {
  about = h.about;
  proposer = h.proposer;
  inside = h.inside;
  group = group-grown n h.proposer c.context.number (grew h.proposer) h.group;
  listed = λ r known listed. own-grown n r c (grew r) (h.listed r known listed);
  stopped = λ r out. stopped-grown n r (grew r) (h.stopped r out);
}

-- one rank's change: its log grew, what it adopted is held, and it adopted no decision on the topic of its open step
pub record Moved (n : ℕ) (decided : Known) (r : ℕ) (old new : Player) : Type 0 where
  pub grows : Grows n r old.rank.log new.rank.log
  pub adopted : All (IsAdopted decided r) new.rank.log
  pub unadopted : HasNotAdopted new

-- decisions that were held stay
abbrev pub StillHeld : Known → Known → Type 0
StillHeld decided later = (c : Topic) (d : Decision) → known_at decided c ≡ Some d → known_at later c ≡ Some d

later_adopted : (decided later : Known) (me : ℕ) → StillHeld decided later → (e : Entry) → IsAdopted decided me e → IsAdopted later me e
later_adopted decided later me still (Adopted d) h = (still d.topic d h.0, h.1)
later_adopted decided later me still _ h = tt

pub all_later : (decided later : Known) (me : ℕ) (log : List Entry) → StillHeld decided later → All (IsAdopted decided me) log → All (IsAdopted later me) log
all_later decided later me log still all = All-weaker (IsAdopted decided me) (IsAdopted later me) (later_adopted decided later me still) log all

-- a change of one player, in which each decision that is held then may be held before
pub settled-moved : {n : ℕ} (w w' : World) {r : ℕ} {p : Player} → Settled n w → r < n → w'.players ≡ set w.players r p → StillHeld w.decided w'.decided → ((c : Topic) (d : Decision) → known_at w'.decided c ≡ Some d → IsHeld n w c d) → Moved n w'.decided r (player_at w r) p → Settled n w'
settled-moved {n} w w' {r} {p} h i only still held moved =
    let inside : r < length w.players = omega (arith, i, h.size) in
    let at : (x : ℕ) → Grows n x (rank_at w x).log (player_in (set w.players r p) x).rank.log = each_at w.players r p (λ (x : ℕ) (a b : Player). Grows n x a.rank.log b.rank.log) inside moved.grows (λ x. inl refl) in
    let grew : AllGrew n w w' = rw only at in
    let adopted : (x : ℕ) → x < n → All (IsAdopted w'.decided x) (player_in (set w.players r p) x).rank.log =
    λ x. each_at w.players r p (λ (x : ℕ) (a b : Player). (x < n → All (IsAdopted w'.decided x) a.rank.log) → x < n → All (IsAdopted w'.decided x) b.rank.log) inside (λ was k. moved.adopted) (λ x was. was) x (λ k. all_later w.decided w'.decided x (rank_at w x).log still (h.adopted x k)) in
    let unadopted : (x : ℕ) → x < n → HasNotAdopted (player_in (set w.players r p) x) =
    λ x. each_at w.players r p (λ (x : ℕ) (a b : Player). (x < n → HasNotAdopted a) → x < n → HasNotAdopted b) inside (λ was k. moved.unadopted) (λ x was. was) x (h.unadopted x) in
    record {
      size = ap length only ∙ length-set w.players r p ∙ h.size;
      keeps = λ x k. keeps-grown n x (h.keeps x k) (grew x);
      once = λ x k. once-grown n x (h.keeps x k) (h.once x k) (grew x);
      held = λ c d known. held-grown n w w' c d grew (held c d known);
      adopted = λ x k. rw only (adopted x k);
      unadopted = λ x k. rw only (unadopted x k);
    }
