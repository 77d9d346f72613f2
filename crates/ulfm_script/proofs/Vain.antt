-- A poll in vain is followed by polls in vain, as long as nothing else happens.
use Rattle.std.proofs.Common.{◌≡◌, ℕ, suc, ◌+◌, ◌^◌, ◌-◌, Bool, true, false, List, refl, ap, sym, subst, ◌∙◌, ◌⊎◌, arith, inl, inr, Option, Some, None, length, min}
use Rattle.ulfm_script.specs.Player.{IsPolledInVain, polled_on}
use Rattle.ulfm_script.proofs.Common.{Agree, awaits_decision, is_joint, IsFree, LeavesOpen, Player, polled, PollOpens, Probe, Shrink, State, StaysOpen, Step, StepReport, Wait, with_rank}

-- a poll that left a step open leaves it so again
stays_again : (done : List StepReport) (old : State) (asked : Step) (new : State) → LeavesOpen done old asked new → StaysOpen (is_joint asked) done new asked new
stays_again done old (Shrink comm again) new h = refl
stays_again done old (Agree flag comm) new h = refl
stays_again done old (Wait req) new h = subst (λ (s : State). LeavesOpen done s (Wait req) new) (sym h.only) h
stays_again done old (Probe source tag comm) new h = subst (λ (s : State). LeavesOpen done s (Probe source tag comm) new) (sym h.2) h
stays_again done old _ new h = absurd h

-- a step that stood open before a poll that left it so stands open after it
stays_still : (joint : Bool) (done : List StepReport) (old : State) (asked : Step) (new : State) → is_joint asked ≡ joint → StaysOpen joint done old asked new → StaysOpen (is_joint asked) done new asked new
stays_still true done old asked new is h = subst (λ b. StaysOpen b done new asked new) (sym is) refl
stays_still false done old asked new is h = stays_again done old asked new h

still_open : (current : Option Step) (done : List StepReport) (old : State) (asked : Step) (new : State) → (current ≡ None) ⊎ (current ≡ Some asked) → StaysOpen (awaits_decision current) done old asked new → StaysOpen (is_joint asked) done new asked new
still_open current done old asked new (inl none) h = stays_again done old asked new (subst (λ (o : Option Step). StaysOpen (awaits_decision o) done old asked new) none h)
still_open current done old asked new (inr same) h = stays_still (is_joint asked) done old asked new refl (subst (λ (o : Option Step). StaysOpen (awaits_decision o) done old asked new) same h)

-- after a poll that left its step open the next one is in vain
pub vain-after : (old : Player) (asked : Step) (new : Player) → IsFree old asked → PollOpens old asked new → IsPolledInVain new asked
vain-after old asked new free o = rw o.only (record { waits = refl; stays = still_open old.current old.done old.rank asked o.rank free o.stays })

-- a poll in vain leaves the step open
pub vain-opens : (p : Player) (asked : Step) → IsPolledInVain p asked → PollOpens p asked (polled p asked (length p.rank.log))
vain-opens p asked h = record { rank = p.rank; stays = h.stays; only = refl }

-- and the next one is in vain
pub vain-next : (p : Player) (asked : Step) → IsPolledInVain p asked → IsPolledInVain (polled p asked (length p.rank.log)) asked
vain-next p asked h = record { waits = refl; stays = subst (λ (o : Option Step). StaysOpen (awaits_decision o) p.done p.rank asked p.rank) h.waits h.stays }

-- the first of several polls in vain
pub vain-one : (p : Player) (asked : Step) → IsPolledInVain p asked → polled_on p 1 ≡ polled p asked (length p.rank.log)
vain-one p asked h = λ i. record { rank = p.rank; done = p.done; current = h.waits i; at = length p.rank.log; polls = min (p.polls + 1) (2 ^ 32 - 1) }

-- and those after it
pub vain-more : (p : Player) (asked : Step) (n : ℕ) → IsPolledInVain p asked → polled_on p (suc n) ≡ polled_on (polled p asked (length p.rank.log)) n
vain-more p asked n h =
    let polls : min (p.polls + suc n) (2 ^ 32 - 1) ≡ min (min (p.polls + 1) (2 ^ 32 - 1) + n) (2 ^ 32 - 1) = omega arith in
    λ i. record { rank = p.rank; done = p.done; current = h.waits i; at = length p.rank.log; polls = polls i }

-- a further poll that leaves the step open changes nothing at the rank
same_rank : (done : List StepReport) (old : State) (asked : Step) (new : State) → StaysOpen (is_joint asked) done old asked new → new ≡ old
same_rank done old (Shrink comm again) new h = h
same_rank done old (Agree flag comm) new h = h
same_rank done old (Wait req) new h = h.only
same_rank done old (Probe source tag comm) new h = h.2
same_rank done old _ new h = absurd h

pub vain-again : (p : Player) (asked : Step) (new : Player) → p.current ≡ Some asked → PollOpens p asked new → new ≡ polled p asked (length p.rank.log)
vain-again p asked new waits o =
    let same : o.rank ≡ p.rank = same_rank p.done p.rank asked o.rank (subst (λ (c : Option Step). StaysOpen (awaits_decision c) p.done p.rank asked o.rank) waits o.stays) in
    o.only ∙ ap (λ (s : State). polled (with_rank p s) asked (length p.rank.log)) same

-- so does a first poll that leaves open what no ranks decide together
pub first-again : (p : Player) (asked : Step) (new : Player) → p.current ≡ None → is_joint asked ≡ false → PollOpens p asked new → new ≡ polled p asked (length p.rank.log)
first-again p asked new none lone o =
    let stays : StaysOpen false p.done p.rank asked o.rank = subst (λ (c : Option Step). StaysOpen (awaits_decision c) p.done p.rank asked o.rank) none o.stays in
    let same : o.rank ≡ p.rank = same_rank p.done p.rank asked o.rank (subst (λ (b : Bool). StaysOpen b p.done p.rank asked o.rank) (sym lone) stays) in
    o.only ∙ ap (λ (s : State). polled (with_rank p s) asked (length p.rank.log)) same
