-- What a player's log and its answered steps become, where each entry is due.
use Rattle.std.proofs.Common.{◌≡◌, ℕ, ◌<◌, Bool, true, false, cond, List, [], ◌∷◌, ◌++◌, length, set, refl, ap, sym, subst, ◌∙◌, arith, inl, inr, ◌⊎◌, Some, length-set, append-nil, length-append}
use Rattle.ulfm_board.specs.Known.{Known}
use Rattle.ulfm_log.specs.declared.entry.Entry.TheVariants.{Entered}
use Rattle.ulfm_script.specs.Calls.{AnswersStep}
use Rattle.ulfm_script.proofs.Polls.{answers_plain, opens_adds}
use Rattle.ulfm_script.proofs.Says.{IsApart}
use Rattle.ulfm_world.proofs.Common.{Adopted, Decision, Entry, Flow, IsCalled, IsWorld, Item, Own, Player, State, StaysOpen, Step, StepAnswer, StepReport, Takes, Took, Topic, World, WorldRank, answered, awaits_decision, cases_eq, eq-eqb, inbox_at, items_from, known_at, logged, player_at, player_in, polled, rank_at, report_of, step_report, took, with_rank}
use Rattle.ulfm_report_laws.specs.Order.{Owe}
use Rattle.ulfm_report_laws.proofs.Owing.{owed_arrived}
use Rattle.ulfm_world.proofs.Changed.{player-same, player-other}
use Rattle.ulfm_world.proofs.KeepsCalls.{posted-taken}
use Rattle.ulfm_world.proofs.Ordered.{AreOrdered, GoesOn, IsDue, IsMade, made_come, made_still}
use Rattle.ulfm_world.proofs.Ordering.{ordered_grown}
use Rattle.ulfm_world.proofs.Senders.{from-passed}
use Rattle.ulfm_world.proofs.Read.{report_there, flowing-world}

-- the log of the player r
abbrev pub log_in : List Player → ℕ → List Entry
log_in players r = (player_in players r).rank.log

-- the answered steps of the player r
abbrev pub steps_in : List Player → ℕ → List StepReport
steps_in players r = (player_in players r).done

-- a decision was proposed by a player
abbrev pub Made : List Player → Decision → Type 0
Made players d = IsMade (length players) (log_in players) (log_in players) (steps_in players) d

-- the logs of players have one order, and each decision that is held was proposed
pub record HaveOrder (players : List Player) (decided : Known) : Type 0 where
  pub ordered : AreOrdered (length players) (log_in players) (steps_in players)
  pub held : (topic : Topic) (d : Decision) → known_at decided topic ≡ Some d → Made players d

-- a log stays, or gets an entry that is due, where this is what becomes of the players
abbrev pub Grows : List Player → List Player → ℕ → List Entry → Type 0
Grows players later r new = (new ≡ log_in players r) ⊎ ((e : Entry) × (new ≡ log_in players r ++ e ∷ []) × IsDue (length players) (log_in players) (log_in later) (steps_in later) r e)

-- the player r goes on as p: its log grows, and further steps may be answered
pub record IsGrown (players : List Player) (r : ℕ) (p : Player) : Type 0 where
  pub inside : r < length players
  pub log : Grows players (set players r p) r p.rank.log
  pub steps : GoesOn (player_in players r).done p.done

-- what goes on at one player goes on at each
pub each_goes_on : {X : Type 0} (f : Player → List X) (players : List Player) (r : ℕ) (p : Player) → r < length players → GoesOn (f (player_in players r)) (f p) → (x : ℕ) → GoesOn (f (player_in players x)) (f (player_in (set players r p) x))
each_goes_on f players r p inside more x = elim (cases_eq x r) [
  | inl one ↦ (more.0, ap f (player-same players r x p one inside) ∙ more.1 ∙ ap (λ i. f (player_in players i) ++ more.0) (sym one))
  | inr other ↦ ([], ap f (player-other players r x p other) ∙ sym (append-nil (f (player_in players x))))
]

pub grows_on : (players later : List Player) (r : ℕ) (new : List Entry) → Grows players later r new → GoesOn (log_in players r) new
grows_on players later r new (inl same) = ([], same ∙ sym (append-nil (log_in players r)))
grows_on players later r new (inr more) = (more.0 ∷ [], more.1)

-- each log goes on
logs_go_on : (players : List Player) (r : ℕ) (p : Player) → IsGrown players r p → (x : ℕ) → GoesOn (log_in players x) (log_in (set players r p) x)
logs_go_on players r p g = each_goes_on (λ (q : Player). q.rank.log) players r p g.inside (grows_on players (set players r p) r p.rank.log g.log)

-- what was proposed at a place that a log had come to
pub made-now : (players : List Player) (r : ℕ) (p : Player) {d : Decision} → IsGrown players r p → IsMade (length players) (log_in players) (log_in (set players r p)) (steps_in (set players r p)) d → Made (set players r p) d
made-now players r p {d} g m =
    let more = logs_go_on players r p g in
    subst (λ n. IsMade n (log_in (set players r p)) (log_in (set players r p)) (steps_in (set players r p)) d) (sym (length-set players r p))
    (made_come (λ x. omega (arith, ap length (more x).1, length-append (log_in players x) (more x).0)) m)

-- what was proposed stays proposed
pub made-set : (players : List Player) (r : ℕ) (p : Player) {d : Decision} → IsGrown players r p → Made players d → Made (set players r p) d
made-set players r p g m = made-now players r p g (made_still (logs_go_on players r p g) (each_goes_on (λ (q : Player). q.done) players r p g.inside g.steps) m)

-- one player's log grew
pub ordered-set : (players : List Player) (r : ℕ) (p : Player) → IsGrown players r p → AreOrdered (length players) (log_in players) (steps_in players) → AreOrdered (length (set players r p)) (log_in (set players r p)) (steps_in (set players r p))
ordered-set players r p g o =
    let here : log_in (set players r p) r ≡ p.rank.log = ap (λ (q : Player). q.rank.log) (player-same players r r p refl g.inside) in
    subst (λ n. AreOrdered n (log_in (set players r p)) (steps_in (set players r p))) (sym (length-set players r p))
    (ordered_grown r o (record {
      here = elim (g.log) [ inl same ↦ inl (here ∙ same) | inr more ↦ inr (more.0, here ∙ more.1, more.2) ];
      others = λ s other. ap (λ (q : Player). q.rank.log) (player-other players r s p other);
      steps = each_goes_on (λ (q : Player). q.done) players r p g.inside g.steps;
    }))

-- where nothing is decided
pub order-set : (players : List Player) (decided : Known) (r : ℕ) (p : Player) → IsGrown players r p → HaveOrder players decided → HaveOrder (set players r p) decided
order-set players decided r p g h = record { ordered = ordered-set players r p g h.ordered; held = λ topic d known. made-set players r p g (h.held topic d known) }

-- an entry by a call takes and adopts nothing
due_apart : {me : ℕ} (n : ℕ) (old new : ℕ → List Entry) (later : ℕ → List StepReport) (r : ℕ) (e : Entry) → Own me e → IsApart e → IsDue n old new later r e
due_apart n old new later r (Took source item) own apart =
    let s = source.number in
    let one : item ∷ [] ≡ [] = ap (λ (b : Bool). cond b (item ∷ []) []) (sym (eq-eqb s s refl)) ∙ own.takes_none s in
    absurd (let many : 1 ≡ 0 = ap (λ (xs : List Item). length xs) one in omega (arith, many))
due_apart n old new later r (Adopted d) own apart = absurd apart
due_apart n old new later r _ own apart = tt

grows-answered : (players later : List Player) (r : ℕ) (asked : Step) (answer : StepAnswer) (new : State) → AnswersStep (player_in players r).done (player_in players r).rank asked answer new → Grows players later r new.log
grows-answered players later r asked answer new h = elim (answers_plain (player_in players r).done (player_in players r).rank asked answer new h) [
  | inl same ↦ inl (ap (λ (s : State). s.log) same.0)
  | inr one ↦ inr (one.0, ap (λ (s : State). s.log) one.2, due_apart (length players) (log_in players) (log_in later) (steps_in later) r one.0 one.1.own one.1.apart)
]

grows-opened : (players later : List Player) (r : ℕ) (waits : Bool) (asked : Step) (new : State) → StaysOpen waits (player_in players r).done (player_in players r).rank asked new → Grows players later r new.log
grows-opened players later r true asked new h = inl (ap (λ (s : State). s.log) h)
grows-opened players later r false asked new h = elim (opens_adds (player_in players r).done (player_in players r).rank asked new h) [
  | inl same ↦ inl (ap (λ (s : State). s.log) same)
  | inr entry ↦ inr (Entered entry.1.enters.entrance, ap (λ (s : State). s.log) entry.1.enters.only, tt)
]

pub grown-called : (players : List Player) (r : ℕ) (asked : Step) (new : Player) → r < length players → IsCalled (player_in players r) asked new → IsGrown players r new
grown-called players r asked new inside (inl a) =
    let old = player_in players r in
    subst (IsGrown players r) (sym a.only) (
    let p = answered (with_rank old a.rank) asked a.answer (length old.rank.log) in
    record {
      inside = inside;
      log = grows-answered players (set players r p) r asked a.answer a.rank a.answers;
      steps = (step_report asked a.answer (length old.rank.log) old.polls ∷ [], refl);
    })
grown-called players r asked new inside (inr o) =
    let old = player_in players r in
    subst (IsGrown players r) (sym o.only) (
    let p = polled (with_rank old o.rank) asked (length old.rank.log) in
    record {
      inside = inside;
      log = grows-opened players (set players r p) r (awaits_decision old.current) asked o.rank o.stays;
      steps = ([], sym (append-nil old.done));
    })

-- an item that is taken is owed by its sender
takes-owed : (w : World) (r : ℕ) (passed : List (WorldRank × Item)) {w' : World} → IsWorld w → (t : Takes w r passed w') → (t.source.number < length w.players) × Owe t.source.number r (log_in w.players t.source.number) (log_in w.players r) t.item
takes-owed w r passed h t =
    let s = t.source.number in
    let posted = posted-taken w r passed h t in
    let rest = items_from s (passed ++ t.rest) in
    let waits : items_from s (inbox_at w r) ≡ t.item ∷ rest =
    ap (λ (xs : List (WorldRank × Item)). items_from s xs) t.found
    ∙ sym (from-passed s passed (t.source, t.item) t.rest t.of_others)
    ∙ ap (λ (b : Bool). cond b (t.item ∷ []) [] ++ rest) (eq-eqb s s refl) in
    let flow : Flow (rank_at w s) s r (took (rank_at w r).log s ++ items_from s (inbox_at w r)) =
    (flowing-world h).flow s r (report_of (player_at w s)) (report_of (player_at w r)) (report_there w s posted.0) (report_there w r t.inside) in
    (posted.0, owed_arrived s r (rank_at w r).log t.item rest (subst (λ (xs : List Item). Flow (rank_at w s) s r (took (rank_at w r).log s ++ xs)) waits flow))

pub order-takes : (w : World) (r : ℕ) (passed : List (WorldRank × Item)) (w' : World) → IsWorld w → HaveOrder w.players w.decided → Takes w r passed w' → HaveOrder w'.players w'.decided
order-takes w r passed w' h all k =
    subst (λ (x : World). HaveOrder x.players x.decided) (sym k.only)
    (order-set w.players w.decided r (with_rank (player_at w r) (logged (rank_at w r) (Took k.source k.item)))
    (record { inside = k.inside; log = inr (Took k.source k.item, refl, takes-owed w r passed h k); steps = ([], sym (append-nil (player_at w r).done)) }) all)

-- a player whose log stays
pub grown-idle : (players : List Player) (r : ℕ) (p : Player) → r < length players → p.rank.log ≡ log_in players r → GoesOn (player_in players r).done p.done → IsGrown players r p
grown-idle players r p inside same more = record { inside = inside; log = inl same; steps = more }
