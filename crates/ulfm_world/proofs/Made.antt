-- In every run each decision is made once, and each rank that it excludes had stopped then.
use Rattle.std.proofs.Common.{◌≡◌, ℕ, ◌≤◌, List, [], ◌∷◌, refl, ap, sym, ◌∙◌, inl, inr, Option, Some, None}
use Rattle.ulfm_world.proofs.Common.{Context, Topic, Decision, known_at, Event, Call, Push, Take, Decide, Leave, Skip, World, start_world, Happens, IsWorld, none-some, same_Some, Applied, Run, Room, TakeFrom}
use Rattle.ulfm_board.specs.Known.{Known}
use Rattle.ulfm_world.specs.Safe.{decided_at}
use Rattle.ulfm_world.specs.Made.{WasMadeSafely, MadeSafely}
use Rattle.ulfm_world.proofs.Adopting.{still_known}
use Rattle.ulfm_world.proofs.Agreed.{Settled}
use Rattle.ulfm_world.proofs.Decided.{settles-safely}
use Rattle.ulfm_world.proofs.Grown.{StillHeld}
use Rattle.ulfm_world.proofs.Moving.{settled-happens}
use Rattle.ulfm_world.proofs.Runs.{keeps-applied, each_applied}
use Rattle.ulfm_world.proofs.Safe.{settled-start}
use Rattle.ulfm_world.proofs.Starts.{world-start}

same_held : (w w' : World) → w'.decided ≡ w.decided → StillHeld w.decided w'.decided
same_held w w' same c d known = ap (λ (ks : Known). known_at ks c) same ∙ known

-- what is decided stays decided
held-happens : (w : World) (event : Event) (w' : World) → Happens w event w' → StillHeld w.decided w'.decided
held-happens w (Call r asked) w' k = same_held w w' (ap (λ (x : World). x.decided) k.2)
held-happens w (Push s d) w' k = same_held w w' (ap (λ (x : World). x.decided) k.only)
held-happens w (Take r) w' k = same_held w w' (ap (λ (x : World). x.decided) k.only)
held-happens w (TakeFrom r s) w' k = same_held w w' (ap (λ (x : World). x.decided) k.takes.only)
held-happens w (Decide r comm) w' k = λ c d known. ap (λ (x : World). known_at x.decided c) k.3 ∙ elim (k.2.decided.decision.outcome) [
  | inl a ↦ still_known w.decided k.1 k.2.decided.decision.proposal a.held a.board_answers c d known
  | inr b ↦ ap (λ (ks : Known). known_at ks c) b.known_stay ∙ known
]
held-happens w (Leave r) w' k = same_held w w' (ap (λ (x : World). x.decided) k.2)
held-happens w (Skip r asked) w' k = same_held w w' (ap (λ (x : World). x.decided) k.2)

held-applied : (w : World) (event : Event) (w' : World) → Applied w event w' → StillHeld w.decided w'.decided
held-applied w event w' (inl k) = held-happens w event w' k
held-applied w event w' (inr e) = same_held w w' (ap (λ (x : World). x.decided) e.2)

held-run : (events : List Event) (w w' : World) → Run w events w' → StillHeld w.decided w'.decided
held-run [] w w' k c d known = same_held w w' (ap (λ (x : World). x.decided) k) c d known
held-run (event ∷ events) w w' k c d known = held-run events k.0 w' k.2 c d (held-applied w event k.0 k.1 c d known)

-- an event that decided on a topic
record DecidedBy (w : World) (event : Event) (w' : World) (c : Topic) : Type 0 where
  pub rank : ℕ
  pub comm : Context
  pub is : event ≡ Decide rank comm
  pub decides : Happens w (Decide rank comm) w'

undecided_still : (w w' : World) (c : Topic) {d : Decision} → w'.decided ≡ w.decided → decided_at w c ≡ None → decided_at w' c ≡ Some d → ⊥
undecided_still w w' c {d} same none known = none-some d (sym (ap (λ (ks : Known). known_at ks c) same ∙ none) ∙ known)

decides-happens : (w : World) (event : Event) (w' : World) (c : Topic) (d : Decision) → Happens w event w' → decided_at w c ≡ None → decided_at w' c ≡ Some d → DecidedBy w event w' c
decides-happens w (Call r asked) w' c d k none known = absurd (undecided_still w w' c (ap (λ (x : World). x.decided) k.2) none known)
decides-happens w (Push s r) w' c d k none known = absurd (undecided_still w w' c (ap (λ (x : World). x.decided) k.only) none known)
decides-happens w (Take r) w' c d k none known = absurd (undecided_still w w' c (ap (λ (x : World). x.decided) k.only) none known)
decides-happens w (TakeFrom r s) w' c d k none known = absurd (undecided_still w w' c (ap (λ (x : World). x.decided) k.takes.only) none known)
decides-happens w (Decide r comm) w' c d k none known =
    record {
      rank = r;
      comm = comm;
      is = refl;
      decides = k;
    }
decides-happens w (Leave r) w' c d k none known = absurd (undecided_still w w' c (ap (λ (x : World). x.decided) k.2) none known)
decides-happens w (Skip r asked) w' c d k none known = absurd (undecided_still w w' c (ap (λ (x : World). x.decided) k.2) none known)

decides-applied : (w : World) (event : Event) (w' : World) (c : Topic) (d : Decision) → Applied w event w' → decided_at w c ≡ None → decided_at w' c ≡ Some d → DecidedBy w event w' c
decides-applied w event w' c d (inl k) none known = decides-happens w event w' c d k none known
decides-applied w event w' c d (inr e) none known = absurd (undecided_still w w' c (ap (λ (x : World). x.decided) e.2) none known)

module _ (n : ℕ) (c : Topic) (d : Decision) where
  -- the event that comes next decides, and what it decides stays
  now : (event : Event) (events : List Event) (v m w : World) (e : Decision) → IsWorld v → Settled n v → Applied v event m → Run m events w → decided_at v c ≡ None → decided_at m c ≡ Some e → decided_at w c ≡ Some d → WasMadeSafely v (event ∷ events) w c d
  now event events v m w e h settled k run none known held =
      let by = decides-applied v event m c e k none known in
      let mine : decided_at m c ≡ Some d = known ∙ ap Some (same_Some e d (sym (held-run events m w run c e known) ∙ held)) in
      record {
        front = [];
        rank = by.rank;
        comm = by.comm;
        rest = events;
        whole = ap (λ (x : Event). x ∷ events) (sym by.is);
        before = v;
        after = m;
        came = refl;
        undecided = none;
        decides = by.decides;
        held = mine;
        went_on = run;
        safe = settles-safely v h settled by.rank by.comm m c d by.decides mine;
      }

  -- the event that comes next decides, or a later one
  step : (event : Event) (events : List Event) (v m w : World) → IsWorld v → Settled n v → Applied v event m → Run m events w → decided_at v c ≡ None → decided_at w c ≡ Some d → (decided_at m c ≡ None → WasMadeSafely m events w c d) → WasMadeSafely v (event ∷ events) w c d
  step event events v m w h settled k run none held later = pick (decided_at m c) refl
    where
      pick : (o : Option Decision) → decided_at m c ≡ o → WasMadeSafely v (event ∷ events) w c d
      pick (Some e) known = now event events v m w e h settled k run none known held
      pick None still =
          let made = later still in
          record {
            front = event ∷ made.front;
            rank = made.rank;
            comm = made.comm;
            rest = made.rest;
            whole = ap (λ (xs : List Event). event ∷ xs) made.whole;
            before = made.before;
            after = made.after;
            came = (m, k, made.came);
            undecided = made.undecided;
            decides = made.decides;
            held = made.held;
            went_on = made.went_on;
            safe = made.safe;
          }

  made-run : (events : List Event) {v : World} (w : World) → IsWorld v → Settled n v → Run v events w → decided_at v c ≡ None → decided_at w c ≡ Some d → WasMadeSafely v events w c d
  made-run [] w h settled k none held = absurd (none-some d (sym (ap (λ (x : World). decided_at x c) k ∙ none) ∙ held))
  made-run (event ∷ events) {v} w h settled k none held =
      step event events v k.0 w h settled k.1 k.2 none held (λ still. made-run events w (keeps-applied event h k.1) (each_applied (Settled n) (λ u x u' i held happens. settled-happens n u i held x u' happens) v event h settled k.1) k.2 still held)

-- in each run from the start
pub made-safely : (n : ℕ) (room : Room) (events : List Event) (w : World) → n ≤ 8 → Run (start_world n room) events w → MadeSafely (start_world n room) events w
made-safely n room events w small k c d held = made-run n c d events w (world-start n room small) (settled-start n room) k refl held
