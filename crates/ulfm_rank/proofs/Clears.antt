-- The table after a revocation.
use Rattle.std.proofs.Common.{◌≡◌, ◌≢◌, ℕ, ◌≤◌, Bool, true, false, cond, List, [], ◌∷◌, ◌++◌, length, refl, ap, sym, ◌∙◌, Option, Some, arith, ◌&&◌, ◌==◌, eqb-true}
use Rattle.ulfm_rank.proofs.Common.{Pattern, MatchEvent, Clear, Pairing, LawfulPairing, Entry, Fate, Waiting, Paired, Found, Failed, Cleared, Request, and_parts, eq-eqb, false≢true, letter_within, Became, IsTable, get_new, stands_back, is_waiting, over_context, Changes}
use Rattle.ulfm_rank.proofs.Tables.{became_keeps, no_post, refated, same_kind, table_change, waiting_receive}

module _ (n c : ℕ) (log : List Entry) (h : List MatchEvent) (r : Pairing) (law : LawfulPairing h r) where
  still : (i : ℕ) (p : Pattern) (o : Fate) → (o ≡ Waiting → p.context.number ≢ c) → Became h r i p o → Became (h ++ Clear c ∷ []) r i p o
  still i p o ne b = became_keeps h (Clear c) r r law (λ i b q. q) i p o (λ b q. q) (λ e. (λ g. cc, λ g. ne e (let f : p.context.number ≡ c = cc in f))) b

  became_cleared : (i : ℕ) (p : Pattern) (o : Fate) → Became h r i p o → Became (h ++ Clear c ∷ []) r i p (over_context c (record { pattern = p; fate = o })).fate
  became_cleared i p Waiting w = pick (p.context.number == c) refl
    where
      pick : (b : Bool) → (p.context.number == c) ≡ b → Became (h ++ Clear c ∷ []) r i p (cond {A = Request} (true && b) (record { pattern = p; fate = Cleared }) (record { pattern = p; fate = Waiting })).fate
      pick true e = (
        λ b q. w.unpaired b (letter_within h r law i b q) q,
        record {
          place = length h;
          after = w.live.before;
          is = get_new h (Clear c) ∙ ap (λ k. Some (Clear k)) (sym (eqb-true p.context.number c e));
          first = λ st. w.live.not_ended (stands_back h (Clear c) (let m : length h ≤ length h = omega arith in m) st);
        },
      )
      pick false e = still i p Waiting (λ f g. false≢true (sym e ∙ eq-eqb p.context.number c g)) w
  became_cleared i p (Paired l) b = still i p (Paired l) (λ e. cc) b
  became_cleared i p (Found l) b = still i p (Found l) (λ e. cc) b
  became_cleared i p Failed b = still i p Failed (λ e. cc) b
  became_cleared i p Cleared b = still i p Cleared (λ e. cc) b

  pub table_cleared : (find find' : ℕ → Option Request) → IsTable n log h r find → Changes (λ k. over_context c) find find' → IsTable n log (h ++ Clear c ∷ []) r find'
  table_cleared find find' t change =
      table_change n log h (Clear c ∷ []) r r find find' t (no_post h (Clear c) (λ q e. cc)) (λ k. over_context c) change (λ k q. refated (is_waiting q.fate && (q.pattern.context.number == c)) Cleared q) (λ k q f s. became_cleared s.place q.pattern q.fate s.fate) (λ k q f s. same_kind (is_waiting q.fate && (q.pattern.context.number == c)) Cleared q refl (λ e. waiting_receive q.fate (and_parts (is_waiting q.fate) (q.pattern.context.number == c) e).0))
