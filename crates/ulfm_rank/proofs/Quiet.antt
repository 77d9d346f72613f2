-- What one more entry leaves of a rank.
use Rattle.std.proofs.Common.{◌≢◌, get_or-set_other, ◌≡◌, ℕ, ◌≤◌, [], ◌++◌, length, take, refl, ap, sym, ◌∙◌, arith, append-nil, length-append}
use Rattle.std.proofs.lemmas.List.{take-append-le}
use Rattle.ulfm_rank.proofs.Common.{WorldRank, Item, Entry, Took, owed_by, or_parts, All-push, State, IsState, logged, owes, went_out, mark_at, notice, GoesOut, marked, no_mark, took, took_by, is_stop, is_stopped, IsSigned}
use Rattle.ulfm_log.proofs.Logs.{owes-logged, took-push, stopped-push}
use Rattle.ulfm_rank.specs.inside.Quiet.{Calm, Quiet}

pub calm-same : (r : State) → IsState r → Calm r r
calm-same r h = record { me = refl; ranks = refl; sound = h; out = λ d k. refl; signed = λ s. s }

pub quiet-same : (r : State) → IsState r → Quiet r r
quiet-same r h = record { calm = calm-same r h; took = λ s. refl }

sound-logged : (r : State) (e : Entry) → IsState r → IsState (logged r e)
sound-logged r e h = record {
  small = h.small;
  me = h.me;
  sized = h.sized;
  within = λ d k. omega (arith, h.within d k, ap length (owes-logged r e d), length-append (owes r d) (owed_by r.ranks r.me d r.log e));
  no_notice = λ s d k. h.no_notice (or_parts (is_stopped r.log) (is_stop e) (sym (stopped-push r.log e) ∙ s)).0 d k;
  no_own_notice = h.no_own_notice;
}

out-logged : (r : State) (e : Entry) (d : ℕ) → (mark_at r d).items_out ≤ length (owes r d) → went_out (logged r e) d ≡ went_out r d
out-logged r e d within =
    ap (λ xs. take (mark_at r d).items_out xs ++ notice (mark_at r d).notice_out)
    (owes-logged r e d)
    ∙ ap (λ xs. xs ++ notice (mark_at r d).notice_out) (take-append-le (mark_at r d).items_out (owes r d) (owed_by r.ranks r.me d r.log e) within)

pub calm-logged : (r : State) (e : Entry) → IsState r → IsSigned r.me e → Calm r (logged r e)
calm-logged r e h signed = record {
  me = refl;
  ranks = refl;
  sound = sound-logged r e h;
  out = λ d k. out-logged r e d (h.within d k);
  signed = λ all. All-push (IsSigned r.me) r.log e all signed;
}

-- an entry of a rank's own: it takes nothing, and a letter that it sends is signed
pub record Own (me : ℕ) (e : Entry) : Type 0 where
  pub signed : IsSigned me e
  pub takes_none : (s : ℕ) → took_by s e ≡ []

pub quiet-logged : (r : State) (e : Entry) → IsState r → Own r.me e → Quiet r (logged r e)
quiet-logged r e h own = record {
  calm = calm-logged r e h own.signed;
  took = λ s. took-push r.log e s ∙ ap (λ xs. took r.log s ++ xs) (own.takes_none s) ∙ append-nil (took r.log s);
}

pub calm-took : (r : State) (source : WorldRank) (item : Item) → IsState r → Calm r (logged r (Took source item))
calm-took r source item h = calm-logged r (Took source item) h tt

-- what went out to another rank
pub out_other : (old new : State) (d x : ℕ) (item : Item) → GoesOut old new d item → x ≢ d → went_out new x ≡ went_out old x
out_other old new d x item k other = rw k.marked (rw (get_or-set_other old.marks d x (marked old (mark_at old d)) no_mark other) refl)
