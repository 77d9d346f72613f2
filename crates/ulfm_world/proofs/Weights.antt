-- What one more entry changes of what a rank may still send.
use Rattle.std.proofs.Common.{◌≡◌, ℕ, ◌+◌, ◌*◌, ◌<◌, ◌≤◌, Bool, true, false, cond, eqb, List, [], ◌∷◌, ◌++◌, length, drop, refl, ap, ◌∙◌, arith, inl, inr, append-nil, length-append, ◌||◌}
use Rattle.std.proofs.lemmas.Bool.{eqb-true, false≢true, or_cases}
use Rattle.ulfm_world.specs.inside.Rounds.{all_contexts, fresh_of}
use Rattle.ulfm_world.proofs.Common.{WorldRank, Context, Item, Entry, Took, cases_Bool, eq-eqb, or_right, Adds, is_stop, is_stopped, is_revoked, revokes, any-push, drop-append-le, out_at, fresh_at, owes-logged, stopped-push, owed_by_few, State, IsState, logged, owes, outbox, mark_at, or-false}
use Rattle.ulfm_base.specs.declared.item.Item.TheVariants.{Letter as Mail, Gone, Revoke, Enter}
use Rattle.ulfm_log.specs.Owed.{owed_by}
use Rattle.ulfm_base.proofs.Among.{world_member}
use Rattle.ulfm_base.specs.Group.{is_member}
use Rattle.ulfm_world.proofs.Sums.{sum-within, sum-le}

after_stop : (a b : Bool) → length (cond a [] (cond b [] (Gone ∷ []))) ≤ 1
after_stop true b = omega arith
after_stop false true = omega arith
after_stop false false = omega arith

-- an entry leaves at most one item more in an outbox
outbox_more : (r : State) (e : Entry) (d : ℕ) → IsState r → d < r.ranks → is_stopped r.log ≡ false → 2 * length (outbox (logged r e) d) ≤ 2 * length (outbox r d) + 2
outbox_more r e d h inside running = elim (cases_Bool (is_stop e)) [
  | inl stop ↦
      let stops : is_stopped (r.log ++ e ∷ []) ≡ true = stopped-push r.log e ∙ or_right (is_stopped r.log) (is_stop e) stop in
      rw stops (omega (arith, after_stop (eqb r.me d) (mark_at r d).notice_out))
  | inr go ↦
      let runs : is_stopped (r.log ++ e ∷ []) ≡ false = stopped-push r.log e ∙ ap (λ b. b || is_stop e) running ∙ go in
      let more : drop (mark_at r d).items_out (owes (logged r e) d) ≡ drop (mark_at r d).items_out (owes r d) ++ owed_by r.ranks r.me d r.log e =
      ap (drop (mark_at r d).items_out) (owes-logged r e d) ∙ drop-append-le (mark_at r d).items_out (owes r d) (owed_by r.ranks r.me d r.log e) (h.within d inside) in
      rw (runs, running) (omega (arith, ap (λ (xs : List Item). length xs) more, length-append (drop (mark_at r d).items_out (owes r d)) (owed_by r.ranks r.me d r.log e), owed_by_few r.ranks r.me d r.log e))
]

out-logged : (n : ℕ) (r : State) (e : Entry) → IsState r → n ≡ r.ranks → is_stopped r.log ≡ false → out_at n (logged r e) ≤ out_at n r + 16
out-logged n r e h size running =
    omega (arith, h.small, size, sum-within n 2 (λ d. 2 * length (outbox (logged r e) d)) (λ d. 2 * length (outbox r d)) (λ d k. outbox_more r e d h (omega (arith, k, size)) running))

fresh_more : (log : List Entry) (e : Entry) (c : ℕ) → fresh_at (log ++ e ∷ []) c ≤ fresh_at log c
fresh_more log e c = rw (any-push (revokes c) log e) (one (is_revoked log c) (revokes c e))
  where
    one : (a b : Bool) → cond (a || b) 0 17 ≤ cond a 0 17
    one true b = omega arith
    one false true = omega arith
    one false false = omega arith

fresh-logged : (contexts : List ℕ) (log : List Entry) (e : Entry) → fresh_of contexts (log ++ e ∷ []) ≤ fresh_of contexts log
fresh-logged [] log e = omega arith
fresh-logged (c ∷ contexts) log e = omega (arith, fresh_more log e c, fresh-logged contexts log e)

-- a first revocation
fresh_falls : (contexts : List ℕ) (log : List Entry) (e : Entry) (c : ℕ) → is_member contexts c ≡ true → is_revoked log c ≡ false → revokes c e ≡ true → fresh_of contexts (log ++ e ∷ []) + 17 ≤ fresh_of contexts log
fresh_falls [] log e c inside fresh now = absurd (false≢true inside)
fresh_falls (d ∷ contexts) log e c inside fresh now = elim (or_cases (eqb d c) (is_member contexts c) inside) [
  | inl here ↦
      let revoked : is_revoked (log ++ e ∷ []) c ≡ true = any-push (revokes c) log e ∙ or_right (is_revoked log c) (revokes c e) now in
      let after : fresh_at (log ++ e ∷ []) d ≡ 0 = ap (fresh_at (log ++ e ∷ [])) (eqb-true d c here) ∙ ap (λ (b : Bool). cond b 0 17) revoked in
      let before : fresh_at log d ≡ 17 = ap (fresh_at log) (eqb-true d c here) ∙ ap (λ (b : Bool). cond b 0 17) fresh in
      omega (arith, after, before, fresh-logged contexts log e)
  | inr there ↦ omega (arith, fresh_more log e d, fresh_falls contexts log e c there fresh now)
]

-- an entry that owes nothing
out_same : (n : ℕ) (r : State) (e : Entry) → is_stop e ≡ false → ((d : ℕ) → owed_by r.ranks r.me d r.log e ≡ []) → out_at n (logged r e) ≤ out_at n r
out_same n r e go none =
    sum-le n (λ d. 2 * length (outbox (logged r e) d)) (λ d. 2 * length (outbox r d))
    (λ d k.
    let stop : is_stopped (r.log ++ e ∷ []) ≡ is_stopped r.log = stopped-push r.log e ∙ ap (λ b. is_stopped r.log || b) go ∙ or-false (is_stopped r.log) in
    let same : owes (logged r e) d ≡ owes r d = owes-logged r e d ∙ ap (λ (xs : List Item). owes r d ++ xs) (none d) ∙ append-nil (owes r d) in
    rw (stop, same) (omega arith))

took_light : (contexts : List ℕ) (n : ℕ) (r : State) (source : WorldRank) (item : Item) → ((d : ℕ) → owed_by r.ranks r.me d r.log (Took source item) ≡ []) → out_at n (logged r (Took source item)) + fresh_of contexts (logged r (Took source item)).log ≤ out_at n r + fresh_of contexts r.log
took_light contexts n r source item none = omega (arith, out_same n r (Took source item) refl none, fresh-logged contexts r.log (Took source item))

took_revoke : (contexts : List ℕ) (b : Bool) (n : ℕ) (r : State) (source : WorldRank) (context : Context) → is_member contexts context.number ≡ true → IsState r → n ≡ r.ranks → is_stopped r.log ≡ false → is_revoked r.log context.number ≡ b
    → out_at n (logged r (Took source (Revoke context))) + fresh_of contexts (logged r (Took source (Revoke context))).log ≤ out_at n r + fresh_of contexts r.log
took_revoke contexts true n r source context inside h size running was = took_light contexts n r source (Revoke context) (λ d. rw was refl)
took_revoke contexts false n r source context inside h size running fresh =
    omega (arith, out-logged n r (Took source (Revoke context)) h size running, fresh_falls contexts r.log (Took source (Revoke context)) context.number inside fresh (eq-eqb context.number context.number refl))

-- an entry of the rank's own adds little
pub adds_weight : (contexts : List ℕ) (n : ℕ) {r : State} {stops : Bool} {new : State} → IsState r → n ≡ r.ranks → is_stopped r.log ≡ false → Adds r stops new → out_at n new + fresh_of contexts new.log ≤ (out_at n r + fresh_of contexts r.log) + 16
adds_weight contexts n h size running (inl same) = rw same.0 (omega arith)
adds_weight contexts n {r} h size running (inr one) = rw one.only (omega (arith, out-logged n r one.entry h size running, fresh-logged contexts r.log one.entry))

-- an item that is taken adds nothing to what the rank may still send, where the context of a revocation is one of these
pub out-took : (contexts : List ℕ) (n : ℕ) {r : State} (source : WorldRank) (item : Item) → ((c : Context) → item ≡ Revoke c → is_member contexts c.number ≡ true) → IsState r → n ≡ r.ranks → is_stopped r.log ≡ false
    → out_at n (logged r (Took source item)) + fresh_of contexts (logged r (Took source item)).log ≤ out_at n r + fresh_of contexts r.log
out-took contexts n {r} source (Revoke context) among h size running = took_revoke contexts (is_revoked r.log context.number) n r source context (among context refl) h size running refl
out-took contexts n {r} source (Mail letter) among h size running = took_light contexts n r source (Mail letter) (λ d. refl)
out-took contexts n {r} source Gone among h size running = took_light contexts n r source Gone (λ d. refl)
out-took contexts n {r} source (Enter entrance) among h size running = took_light contexts n r source (Enter entrance) (λ d. refl)

-- each context is one of all
pub among_all : (context : Context) → is_member all_contexts context.number ≡ true
unfolding all_contexts
among_all context = world_member 0 35184372088832 context.number (omega arith) (omega (arith, context.in_range))
