-- A player that goes on through its script.
use Rattle.std.proofs.Common.{◌≡◌, ℕ, ◌+◌, ◌-◌, ◌*◌, ◌^◌, ◌<◌, ◌≤◌, min, Bool, true, false, cond, List, [], ◌∷◌, ◌++◌, length, map, take, drop, refl, ap, sym, subst, ◌∙◌, arith, append-nil, append_assoc, length-append, inl, inr, ◌⊎◌, Option, Some, None, MatchOption, slice_get}
use Rattle.std.proofs.Math.Seq.{take-append_seam}
use Rattle.std.proofs.lemmas.List.{length-drop, map_push, length-map, nil_from_length, take-append-drop}
use Rattle.ulfm_script.proofs.Common.{All-nil, All-push, is_stopped, same_Some, slice_get_within, State, Step, StepReport, false≢true, Player, with_rank, polled, IsFree, start_player, has_stop, FollowsSoFar, polls_left}
use Rattle.ulfm_script.specs.Script.{reported_step, steps_done, is_played_stop, through_stop, IsPatient}

split_next : (xs rest script : List Step) (s : Step) → xs ++ rest ≡ script → slice_get script (length xs) ≡ Some s → (more : List Step) × (rest ≡ s ∷ more)
split_next xs rest script s e h = next xs rest s (rw e h)
  where
    next : (xs rest : List Step) (s : Step) → slice_get (xs ++ rest) (length xs) ≡ Some s → (more : List Step) × (rest ≡ s ∷ more)
    next [] [] s h = let bad : ⊥ = cc in absurd bad
    next [] (y ∷ ys) s h = (ys, ap (λ z. z ∷ ys) (same_Some y s h))
    next (x ∷ xs) rest s h = next xs rest s h

stop_one : (b c d : Bool) → (c ≡ false → d ≡ false) → cond b true c ≡ false → cond b true d ≡ false
stop_one true c d f e = e
stop_one false c d f e = f e

has_stop-push : (xs : List StepReport) (s : StepReport) → has_stop xs ≡ false → is_played_stop s ≡ false → has_stop (xs ++ s ∷ []) ≡ false
has_stop-push [] s h k = rw k refl
has_stop-push (x ∷ xs) s h k = stop_one (is_played_stop x) (has_stop xs) (has_stop (xs ++ s ∷ [])) (λ e. has_stop-push xs s e k) h

through_one : (b c : Bool) (ys zs ws : List Step) → (c ≡ false → zs ≡ ws) → cond b true c ≡ false → cond b ys zs ≡ ws
through_one true c ys zs ws f e = absurd (false≢true (sym e))
through_one false c ys zs ws f e = f e

through-stop : (xs : List StepReport) (s : StepReport) (rest : List Step) → has_stop xs ≡ false → is_played_stop s ≡ true → through_stop (xs ++ s ∷ []) (map reported_step xs ++ s.step ∷ rest) ≡ map reported_step xs ++ s.step ∷ []
through-stop [] s rest h k = rw k refl
through-stop (x ∷ xs) s rest h k = through_one (is_played_stop x) (has_stop xs) (x.step ∷ []) (x.step ∷ through_stop (xs ++ s ∷ []) (map reported_step xs ++ s.step ∷ rest)) (x.step ∷ (map reported_step xs ++ s.step ∷ [])) (λ e. ap (λ (ys : List Step). x.step ∷ ys) (through-stop xs s rest e k)) h

-- a script that was answered without a stop is gone through as a whole
pub through-none : (xs : List StepReport) (rest : List Step) → has_stop xs ≡ false → through_stop xs (map reported_step xs ++ rest) ≡ map reported_step xs ++ rest
through-none [] rest h = refl
through-none (x ∷ xs) rest h = through_one (is_played_stop x) (has_stop xs) (x.step ∷ []) (x.step ∷ through_stop xs (map reported_step xs ++ rest)) (x.step ∷ (map reported_step xs ++ rest)) (λ e. ap (λ (ys : List Step). x.step ∷ ys) (through-none xs rest e)) h

polls_below : (o : Option Step) (p t : ℕ) (P : Step → Type 0) → MatchOption o (p ≡ 0) (λ s. P s × (p < t)) → 0 < t → p < t
polls_below None p t P h k = omega (arith, h, k)
polls_below (Some s) p t P h k = h.1

pub polls_small : (script : List Step) (turns : ℕ) (p : Player) → FollowsSoFar script turns p → 0 < turns → p.polls < turns
polls_small script turns p h k = polls_below p.current p.polls turns (λ s. slice_get script (length p.done) ≡ Some s) h.current k

-- the player with one more answer, whose rank is r now
abbrev pub closed : Player → State → StepReport → Player
closed p r x = record { rank = r; done = p.done ++ x ∷ []; current = None; at = 0; polls = 0 }

-- an answered step
pub follows-closed : (script : List Step) (turns : ℕ) (old : Player) (r : State) (x : StepReport) → FollowsSoFar script turns old → is_stopped old.rank.log ≡ false → slice_get script (length old.done) ≡ Some x.step → is_stopped r.log ≡ is_played_stop x → IsPatient turns x → FollowsSoFar script turns (closed old r x)
follows-closed script turns old r x h running next stop patient =
    let xs : List Step = steps_done old in
    let l : length xs ≡ length old.done = length-map old.done reported_step in
    let following : (more : List Step) × (h.rest ≡ x.step ∷ more) = split_next xs h.rest script x.step h.split (ap (slice_get script) l ∙ next) in
    let grown : map reported_step (old.done ++ x ∷ []) ≡ xs ++ x.step ∷ [] = map_push reported_step old.done x in
    let whole : xs ++ x.step ∷ following.0 ≡ script = ap (λ (ys : List Step). xs ++ ys) (sym following.1) ∙ h.split in
    record {
      rest = following.0;
      split = ap (λ (ys : List Step). ys ++ following.0) grown ∙ append_assoc xs (x.step ∷ []) following.0 ∙ whole;
      patient = All-push (IsPatient turns) old.done x h.patient patient;
      current = refl;
      running = λ k. has_stop-push old.done x (h.running running) (sym stop ∙ k);
      stopped = λ k. (grown ∙ sym (through-stop old.done x following.0 (h.running running) (sym stop ∙ k)) ∙ ap (through_stop (old.done ++ x ∷ [])) whole, refl);
    }

-- a step that stays open
pub follows-polled : (script : List Step) (turns : ℕ) (old : Player) (r : State) (asked : Step) (at : ℕ) → FollowsSoFar script turns old → is_stopped old.rank.log ≡ false → is_stopped r.log ≡ false → slice_get script (length old.done) ≡ Some asked → (polled (with_rank old r) asked at).polls < turns → FollowsSoFar script turns (polled (with_rank old r) asked at)
follows-polled script turns old r asked at h ran running next few = record {
  rest = h.rest;
  split = h.split;
  patient = h.patient;
  current = (next, few);
  running = λ k. h.running ran;
  stopped = λ k. absurd (false≢true (sym running ∙ k));
}

left_numbers : (turns L k p : ℕ) → k < L → p ≤ turns → (turns + 1) * (L - (k + 1)) < (turns + 1) * (L - k) - p
left_numbers turns L k p h q =
    let e : L - k ≡ (L - (k + 1)) + 1 = omega (arith, h) in
    rw e (omega (arith, q))

-- an answered step leaves fewer polls
pub left-closed : (script : List Step) (turns : ℕ) (old : Player) (r : State) (x : StepReport) → old.polls < turns → length old.done < length script → polls_left script turns (closed old r x) < polls_left script turns old
left-closed script turns old r x few inside =
    let l : length (old.done ++ x ∷ []) ≡ length old.done + 1 = omega (arith, length-append old.done (x ∷ [])) in
    rw l (omega (arith, left_numbers turns (length script) (length old.done) old.polls inside (omega (arith, few))))

-- so does a poll that leaves its step open
pub left_polled : (turns L k p : ℕ) → k < L → p < turns → turns < 2 ^ 32 → (turns + 1) * (L - k) - (min (p + 1) (2 ^ 32 - 1)) < (turns + 1) * (L - k) - p
left_polled turns L k p h q t =
    let e : L - k ≡ (L - (k + 1)) + 1 = omega (arith, h) in
    let m : min (p + 1) (2 ^ 32 - 1) ≡ p + 1 = omega (arith, q, t) in
    rw (e, m) (omega (arith, q))

-- a player whose rank alone changed, and runs or has stopped as before
pub follows-rank : (script : List Step) (turns : ℕ) (p : Player) (r : State) → is_stopped r.log ≡ is_stopped p.rank.log → FollowsSoFar script turns p → FollowsSoFar script turns (with_rank p r)
follows-rank script turns p r stop h = record {
  rest = h.rest;
  split = h.split;
  patient = h.patient;
  current = h.current;
  running = λ k. h.running (sym stop ∙ k);
  stopped = λ k. h.stopped (sym stop ∙ k);
}

-- no other step than the next one stands open
pub next-free : (script : List Step) (turns : ℕ) (p : Player) (asked : Step) → FollowsSoFar script turns p → slice_get script (length p.done) ≡ Some asked → IsFree p asked
next-free script turns p asked h next = free p.current h.current
  where
    free : (o : Option Step) → MatchOption o (p.polls ≡ 0) (λ s. (slice_get script (length p.done) ≡ Some s) × (p.polls < turns)) → (o ≡ None) ⊎ (o ≡ Some asked)
    free None k = inl refl
    free (Some s) k = inr (sym k.0 ∙ next)

-- the step that stands open comes next
pub next_open : (script : List Step) (turns : ℕ) (p : Player) (asked open_step : Step) → FollowsSoFar script turns p → slice_get script (length p.done) ≡ Some asked → p.current ≡ Some open_step → asked ≡ open_step
next_open script turns p asked open_step h next current =
    let here : (slice_get script (length p.done) ≡ Some open_step) × (p.polls < turns) = rw current at h.current in
    same_Some asked open_step (sym next ∙ here.0)

-- a running player that has no step left went through its whole script
pub answered_running : (script : List Step) (turns : ℕ) (p : Player) → FollowsSoFar script turns p → is_stopped p.rank.log ≡ false → length script ≤ length p.done → steps_done p ≡ through_stop p.done script
answered_running script turns p h running all =
    let none : h.rest ≡ [] = nil_from_length h.rest (omega (arith, all, ap length h.split, length-append (steps_done p) h.rest, length-map p.done reported_step)) in
    let whole : steps_done p ≡ script = sym (append-nil (steps_done p)) ∙ ap (λ (xs : List Step). steps_done p ++ xs) (sym none) ∙ h.split in
    whole ∙ sym h.split ∙ sym (through-none p.done h.rest (h.running running)) ∙ ap (through_stop p.done) h.split

-- past the end of a script no step stands open
pub none_open : (script : List Step) (turns : ℕ) (p : Player) → FollowsSoFar script turns p → length script ≤ length p.done → p.current ≡ None
none_open script turns p h all = none p.current h.current
  where
    none : (o : Option Step) → MatchOption o (p.polls ≡ 0) (λ s. (slice_get script (length p.done) ≡ Some s) × (p.polls < turns)) → o ≡ None
    none None k = refl
    none (Some s) k = absurd (omega (arith, all, slice_get_within script (length p.done) s k.0))

-- a player that starts
pub follows-start : (script : List Step) (turns me n : ℕ) → FollowsSoFar script turns (start_player me n)
follows-start script turns me n = record {
  rest = script;
  split = refl;
  patient = All-nil (IsPatient turns);
  current = refl;
  running = λ k. refl;
  stopped = λ k. absurd (false≢true k);
}

-- a script through which so many steps were gone is these, and others behind them
front-of : (xs rest script other : List Step) (n : ℕ) → xs ++ rest ≡ script → length xs ≡ n → take n other ≡ take n script → xs ++ drop n other ≡ other
front-of xs rest script other n split many same =
    let front : take n script ≡ xs = ap (take n) (sym split) ∙ ap (λ (k : ℕ). take k (xs ++ rest)) (sym many) ∙ take-append_seam xs rest in
    ap (λ (ys : List Step). ys ++ drop n other) (sym (same ∙ front)) ∙ take-append-drop n other

-- a stop that was played ends both
through-same : (xs : List StepReport) (one other : List Step) → has_stop xs ≡ true → through_stop xs (map reported_step xs ++ one) ≡ through_stop xs (map reported_step xs ++ other)
through-same [] one other h = absurd (false≢true h)
through-same (x ∷ xs) one other h =
    by (is_played_stop x) h (λ more. ap (λ (ys : List Step). x.step ∷ ys) (through-same xs one other more))
  where
    past : List Step → List Step
    past script = x.step ∷ through_stop xs (map reported_step xs ++ script)

    by : (b : Bool) → cond b true (has_stop xs) ≡ true → (has_stop xs ≡ true → past one ≡ past other) → cond b (x.step ∷ []) (past one) ≡ cond b (x.step ∷ []) (past other)
    by true h rest = refl
    by false h rest = rest h

-- a player between two steps that goes through a script goes through each of the same length that begins with the same steps
pub follows-moved : (one other : List Step) (turns : ℕ) (p : Player) → FollowsSoFar one turns p → p.current ≡ None → length other ≡ length one → take (length p.done) other ≡ take (length p.done) one → FollowsSoFar other turns p
follows-moved one other turns p h none long same =
    let many : length (steps_done p) ≡ length p.done = length-map p.done reported_step in
    let split : steps_done p ++ drop (length p.done) other ≡ other = front-of (steps_done p) h.rest one other (length p.done) h.split many same in
    record {
      rest = drop (length p.done) other;
      split = split;
      patient = h.patient;
      current = subst (λ (o : Option Step). MatchOption o (p.polls ≡ 0) (λ asked. (slice_get other (length p.done) ≡ Some asked) × (p.polls < turns))) (sym none) (subst (λ (o : Option Step). MatchOption o (p.polls ≡ 0) (λ asked. (slice_get one (length p.done) ≡ Some asked) × (p.polls < turns))) none h.current);
      running = h.running;
      stopped = λ k. (by (has_stop p.done) refl split k, none);
    }
  where
    rests : has_stop p.done ≡ false → is_stopped p.rank.log ≡ true → length one ≡ length p.done
    rests runs k =
        let all : steps_done p ≡ one = (h.stopped k).0 ∙ ap (through_stop p.done) (sym h.split) ∙ through-none p.done h.rest runs ∙ h.split in
        sym (ap length all) ∙ length-map p.done reported_step

    by : (b : Bool) → has_stop p.done ≡ b → steps_done p ++ drop (length p.done) other ≡ other → is_stopped p.rank.log ≡ true → steps_done p ≡ through_stop p.done other
    by true is split k = (h.stopped k).0 ∙ ap (through_stop p.done) (sym h.split) ∙ through-same p.done h.rest (drop (length p.done) other) is ∙ ap (through_stop p.done) split
    by false is split k =
        let over : drop (length p.done) other ≡ [] = nil_from_length (drop (length p.done) other) (omega (arith, rests is k, long, length-drop (length p.done) other)) in
        sym (append-nil (steps_done p)) ∙ ap (λ (ys : List Step). steps_done p ++ ys) (sym over) ∙ sym (through-none p.done (drop (length p.done) other) is) ∙ ap (through_stop p.done) split
