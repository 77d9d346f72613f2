-- A rank and its end stay together while items go from one to the other.
use Rattle.std.proofs.Common.{◌≡◌, ◌≢◌, ℕ, ◌<◌, cond, List, [], ◌∷◌, ◌++◌, refl, ap, sym, subst, ◌∙◌, arith, inl, inr, append-nil, All}
use Rattle.ulfm_base.proofs.Places.{get_or-blank}
use Rattle.ulfm_rank.specs.Joined.{IsJoined}
use Rattle.ulfm_log.specs.State.{start_state_with}
use Rattle.ulfm_rank.specs.inside.Quiet.{Quiet}
use Rattle.ulfm_rank.proofs.Common.{All-nil, Entry, Item, Took, WorldRank, cases_eq, eq-eqb, ne_eqb, no_mark, IsSigned, IsState, State, logged, went_out, GoesOut, took}
use Rattle.ulfm_log.proofs.Logs.{took-push}
use Rattle.ulfm_rank.proofs.Quiet.{calm-took, out_other}
use Rattle.ulfm_log.proofs.States.{leaves-by}

module _ {E : Type 0} {place count : E → ℕ} {pushed taken : E → ℕ → List Item} {ready : E → Type 0} where
  -- the rank starts, at an end by which nothing was pushed and nothing taken
  pub joined-start : {keeps : _} {me n : ℕ} (r : State) {e : E} → r ≡ start_state_with keeps me n → IsState r → ready e → place e ≡ me → count e ≡ n → ((p : ℕ) → pushed e p ≡ []) → ((p : ℕ) → taken e p ≡ []) → IsJoined place count pushed taken ready r e
  joined-start {keeps} {me} {n} r starts sound is_ready at counted none_pushed none_taken =
      let log : r.log ≡ [] = ap (λ (s : State). s.log) starts in
      record {
        is_ready = is_ready;
        placed = at ∙ ap (λ (s : State). s.me) (sym starts);
        counted = counted ∙ ap (λ (s : State). s.ranks) (sym starts);
        sound = sound;
        signed = subst (λ (l : List Entry). All (IsSigned r.me) l) (sym log) (All-nil (IsSigned r.me));
        sent = λ d k. none_pushed d ∙ subst (λ (s : State). [] ≡ went_out s d) (sym starts) (sym (out-start d));
        took = λ s. none_taken s ∙ ap (λ (l : List Entry). took l s) (sym log);
        within = λ s k. ap (λ (l : List Entry). took l s) log;
      }
    where
      out-start : (d : ℕ) → went_out (start_state_with keeps me n) d ≡ []
      out-start d = rw (get_or-blank n d no_mark) refl

  -- the rank does what takes nothing, and lets nothing go out
  pub joined-quiet : {old : State} (new : State) {e : E} → IsJoined place count pushed taken ready old e → Quiet old new → IsJoined place count pushed taken ready new e
  joined-quiet {old} new h q = record {
    is_ready = h.is_ready;
    placed = h.placed ∙ sym q.calm.me;
    counted = h.counted ∙ sym q.calm.ranks;
    sound = q.calm.sound;
    signed = subst (λ (m : ℕ). All (IsSigned m) new.log) (sym q.calm.me) (q.calm.signed h.signed);
    sent = λ d k. h.sent d (omega (arith, k, q.calm.ranks)) ∙ sym (q.calm.out d (omega (arith, k, q.calm.ranks)));
    took = λ s. h.took s ∙ sym (q.took s);
    within = λ s k. q.took s ∙ h.within s (omega (arith, k, q.calm.ranks));
  }

  -- the end pushed what left the outbox
  pub joined-pushed : {old new : State} {e : E} (f : E) {d : ℕ} {item : Item} → IsJoined place count pushed taken ready old e → d < old.ranks → GoesOut old new d item → place f ≡ place e → count f ≡ count e → ready f → ((p : ℕ) → taken f p ≡ taken e p) → ((p : ℕ) → p ≢ d → pushed f p ≡ pushed e p) → pushed f d ≡ pushed e d ++ item ∷ [] → IsJoined place count pushed taken ready new f
  joined-pushed {old} {new} f {d} {item} h inside leaves place_same count_same is_ready taken_same others here =
      let went = leaves-by h.sound inside leaves in
      let me : new.me ≡ old.me = ap (λ (s : State). s.me) leaves.marked in
      let ranks : new.ranks ≡ old.ranks = ap (λ (s : State). s.ranks) leaves.marked in
      let log : new.log ≡ old.log = ap (λ (s : State). s.log) leaves.marked in
      let S : ℕ → List Entry → Type 0 = λ m l. All (IsSigned m) l in
      record {
        is_ready = is_ready;
        placed = place_same ∙ h.placed ∙ sym me;
        counted = count_same ∙ h.counted ∙ sym ranks;
        sound = went.keeps h.sound;
        signed = subst (λ m. S m new.log) (sym me) (subst (λ (l : List Entry). S old.me l) (sym log) h.signed);
        sent = λ x k. elim (cases_eq x d) [
          | inl same ↦ ap (pushed f) same ∙ here ∙ ap (λ (xs : List Item). xs ++ item ∷ []) (h.sent d inside) ∙ sym went.out ∙ ap (went_out new) (sym same)
          | inr other ↦ others x other ∙ h.sent x (omega (arith, k, ranks)) ∙ sym (out_other old new d x item leaves other)
        ];
        took = λ s. taken_same s ∙ h.took s ∙ ap (λ (l : List Entry). took l s) (sym log);
        within = λ s k. ap (λ (l : List Entry). took l s) log ∙ h.within s (omega (arith, k, ranks));
      }

  -- the end refused what left the outbox, and it is back there
  pub joined-returned : {old : State} {e : E} (f : E) (d : ℕ) → IsJoined place count pushed taken ready old e → place f ≡ place e → count f ≡ count e → ready f → ((p : ℕ) → taken f p ≡ taken e p) → ((p : ℕ) → p ≢ d → pushed f p ≡ pushed e p) → pushed f d ≡ pushed e d → IsJoined place count pushed taken ready old f
  joined-returned {e = e} f d h place_same count_same is_ready taken_same others here = record {
    is_ready = is_ready;
    placed = place_same ∙ h.placed;
    counted = count_same ∙ h.counted;
    sound = h.sound;
    signed = h.signed;
    sent = λ x k. elim (cases_eq x d) [
      | inl at ↦ ap (pushed f) at ∙ here ∙ ap (pushed e) (sym at) ∙ h.sent x k
      | inr other ↦ others x other ∙ h.sent x k
    ];
    took = λ s. taken_same s ∙ h.took s;
    within = h.within;
  }

  -- the log took what the end popped
  pub joined-taken : {old : State} {e : E} (f : E) (source : WorldRank) (item : Item) → source.number < old.ranks → IsJoined place count pushed taken ready old e → place f ≡ place e → count f ≡ count e → ready f → ((p : ℕ) → pushed f p ≡ pushed e p) → taken f source.number ≡ taken e source.number ++ item ∷ [] → ((p : ℕ) → p ≢ source.number → taken f p ≡ taken e p) →
      IsJoined place count pushed taken ready (logged old (Took source item)) f
  joined-taken {old} f source item below h place_same count_same is_ready pushed_same here others =
      let calm = calm-took old source item h.sound in
      record {
        is_ready = is_ready;
        placed = place_same ∙ h.placed;
        counted = count_same ∙ h.counted;
        sound = calm.sound;
        signed = calm.signed h.signed;
        sent = λ x k. pushed_same x ∙ h.sent x k ∙ sym (calm.out x k);
        took = λ s. elim (cases_eq s source.number) [
          | inl at ↦
              ap (taken f) at ∙ here ∙ ap (λ (xs : List Item). xs ++ item ∷ []) (h.took source.number)
              ∙ ap (λ i. took old.log i ++ item ∷ []) (sym at)
              ∙ ap (λ b. took old.log s ++ cond b (item ∷ []) []) (sym (eq-eqb source.number s (sym at)))
              ∙ sym (took-push old.log (Took source item) s)
          | inr other ↦
              others s other ∙ h.took s
              ∙ sym (append-nil (took old.log s))
              ∙ ap (λ b. took old.log s ++ cond b (item ∷ []) []) (sym (ne_eqb source.number s (λ x. other (sym x))))
              ∙ sym (took-push old.log (Took source item) s)
        ];
        within = λ s k.
            took-push old.log (Took source item) s
            ∙ ap (λ b. took old.log s ++ cond b (item ∷ []) []) (ne_eqb source.number s (λ x. absurd (omega (arith, x, k, below))))
            ∙ append-nil (took old.log s)
            ∙ h.within s k;
      }
