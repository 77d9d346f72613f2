-- The ends that a notice gives.
use Rattle.std.proofs.Common.{◌≡◌, ◌≢◌, ℕ, zero, suc, ◌+◌, ◌≤◌, ◌⊎◌, inl, inr, Bool, true, false, cond, List, [], ◌∷◌, ◌++◌, length, refl, ap, sym, ◌∙◌, subst, Option, Some, arith, length-append, slice_get, Contains, ◌&&◌}
use Rattle.ulfm_rank.proofs.Common.{Pattern, Entry, Fate, Waiting, Paired, Found, Failed, Cleared, Request, and_parts, names, Pairing, IsWaiting, LawfulPairing, same_pattern, letter_within, Became, IsTable, slice_get_within, is_waiting, over_named, Changes, MatchEvent, Post, Come, End, Clear, PostAt, StandsBetween, ends_of, get_front, EndsNamed}
use Rattle.ulfm_match.proofs.Decide.{Contains-none, Contains-head, Contains-tail, Contains-cons_cases}
use Rattle.ulfm_rank.proofs.Endings.{sound_from, complete_from}
use Rattle.ulfm_rank.proofs.Tables.{first_on, refated, same_kind, table_change, waiting_receive}

pub ends_named : (s : ℕ) (h : List MatchEvent) → EndsNamed h s (ends_of s h)
ends_named s h = record {
  sound = λ x c. let r = sound_from (λ _ p. names p.source s) 0 h x c in (r.0, r.1, r.2 ∙ ap End (let g : 0 + r.0 ≡ r.0 = omega arith in g), r.3, r.4);
  complete = λ i p at n. subst (λ m. Contains (ends_of s h) (End m)) (let g : 0 + i ≡ i = omega arith in g) (complete_from (λ _ p. names p.source s) 0 h i p at n);
}

from_get : (es : List MatchEvent) (k : ℕ) (x : MatchEvent) → slice_get es k ≡ Some x → Contains es x
from_get [] k x at = cc
from_get (y ∷ ys) zero x at = subst (Contains (y ∷ ys)) (let f : y ≡ x = cc in f) (Contains-head y ys)
from_get (y ∷ ys) (suc k) x at = Contains-tail y ys x (from_get ys k x at)

to_get : (es : List MatchEvent) (x : MatchEvent) → Contains es x → (k : ℕ) × (slice_get es k ≡ Some x)
to_get [] x c = absurd (Contains-none x c)
to_get (y ∷ ys) x c = elim (Contains-cons_cases y ys x c) [ inl e ↦ (0, ap Some e) | inr d ↦ let r = to_get ys x d in (suc r.0, r.1) ]

split : (h es : List MatchEvent) (k : ℕ) (x : MatchEvent) → slice_get (h ++ es) k ≡ Some x → (slice_get h k ≡ Some x) ⊎ ((length h ≤ k) × Contains es x)
split [] es k x at = inr (omega arith, from_get es k x at)
split (y ∷ g) es zero x at = inl at
split (y ∷ g) es (suc k) x at = elim (split g es k x at) [ inl a ↦ inl a | inr b ↦ inr (let l = b.0 in omega (arith, l), b.1) ]

get_after : (h es : List MatchEvent) (j : ℕ) (x : MatchEvent) → slice_get es j ≡ Some x → slice_get (h ++ es) (length h + j) ≡ Some x
get_after [] es j x at = subst (λ m. slice_get es m ≡ Some x) (let g : j ≡ 0 + j = omega arith in g) at
get_after (y ∷ h) es j x at = subst (λ m. slice_get (y ∷ h ++ es) m ≡ Some x) (let g : suc (length h + j) ≡ suc (length h) + j = omega arith in g) (get_after h es j x at)

module _ (n s : ℕ) (log : List Entry) (h es : List MatchEvent) (r : Pairing) (law : LawfulPairing h r) (ends : EndsNamed h s es) (find find' : ℕ → Option Request) (t : IsTable n log h r find) where
  only_ends : (x : MatchEvent) → ((i : ℕ) → x ≢ End i) → Contains es x → ⊥
  only_ends x never c = let e = ends.sound x c in never e.0 e.2

  stands_front : (x : MatchEvent) (i m : ℕ) → ((i : ℕ) → x ≢ End i) → StandsBetween (h ++ es) x i m → StandsBetween h x i (length h)
  stands_front x i m never st =
      elim (split h es st.place x st.is) [
        | inl a ↦ record { place = st.place; after = st.after; before = slice_get_within h st.place x a; is = a }
        | inr b ↦ absurd (only_ends x never b.1)
      ]

  waits_on : (i : ℕ) (p : Pattern) → (names p.source s ≡ true → ⊥) → IsWaiting h r i p (length h) → IsWaiting (h ++ es) r i p (length (h ++ es))
  waits_on i p unnamed w =
      let la = length-append h es in
      record {
        live = record {
          posted = get_front h es i (Post p) w.live.posted;
          before = let b = w.live.before in omega (arith, la, b);
          not_ended = λ st. elim (split h es st.place (End i) st.is) [
            | inl a ↦ w.live.not_ended (record { place = st.place; after = st.after; before = slice_get_within h st.place (End i) a; is = a })
            | inr b ↦
                let e = ends.sound (End i) b.1 in
                let same : i ≡ e.0 = (let g = e.2 in cc) in
                let pat = same_pattern h e.0 p e.1 (subst (λ k. PostAt h k p) same w.live.posted) e.3 in
                unnamed (subst (λ (q : Pattern). names q.source s ≡ true) (sym pat) e.4)
          ];
          not_cleared = λ st. w.live.not_cleared (stands_front (Clear p.context.number) i (length (h ++ es)) (λ j e. cc) st);
        };
        unpaired = λ b l q. w.unpaired b (letter_within h r law i b q) q;
      }

  falls : (i : ℕ) (p : Pattern) → names p.source s ≡ true → IsWaiting h r i p (length h) → Became (h ++ es) r i p Failed
  falls i p named w =
      let c = ends.complete i p w.live.posted named in
      let g = to_get es (End i) c in
      let b = w.live.before in (
        λ b q. w.unpaired b (letter_within h r law i b q) q,
        record {
          place = length h + g.0;
          after = omega (arith, b);
          is = get_after h es g.0 (End i) g.1;
          first = λ st. w.live.not_cleared (stands_front (Clear p.context.number) i (length h + g.0) (λ j e. cc) st);
        },
      )

  became_over : (i : ℕ) (p : Pattern) (o : Fate) → Became h r i p o → Became (h ++ es) r i p (over_named s (record { pattern = p; fate = o })).fate
  became_over i p Waiting w = pick (names p.source s) refl
    where
      pick : (b : Bool) → names p.source s ≡ b → Became (h ++ es) r i p (cond {A = Request} (true && b) (record { pattern = p; fate = Failed }) (record { pattern = p; fate = Waiting })).fate
      pick true e = falls i p e w
      pick false e = waits_on i p (λ f. let g = e in cc) w
  became_over i p (Paired l) g = record { place = g.place; pairs = g.pairs; came = get_front h es g.place (Come l) g.came }
  became_over i p (Found l) g = record { place = g.place; pairs = g.pairs; came = get_front h es g.place (Come l) g.came }
  became_over i p Failed w = (w.0, first_on h es i (End i) (Clear p.context.number) w.1)
  became_over i p Cleared w = (w.0, first_on h es i (Clear p.context.number) (End i) w.1)

  pub table_over : Changes (λ k. over_named s) find find' → IsTable n log (h ++ es) r find'
  table_over found = table_change n log h es r r find find' t
      (λ i p at. elim (split h es i (Post p) at) [ inl old ↦ old | inr new ↦ absurd (only_ends (Post p) (λ j e. cc) new.1) ])
      (λ k. over_named s) found (λ k q. refated (is_waiting q.fate && names q.pattern.source s) Failed q) (λ k q f st. became_over st.place q.pattern q.fate st.fate) (λ k q f st. same_kind (is_waiting q.fate && names q.pattern.source s) Failed q refl (λ e. waiting_receive q.fate (and_parts (is_waiting q.fate) (names q.pattern.source s) e).0))
