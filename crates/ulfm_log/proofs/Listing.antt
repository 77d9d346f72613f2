-- Who a rank lists on a topic as its log grows.
use Rattle.std.proofs.Common.{◌≡◌, ℕ, Bool, true, false, cond, List, [], ◌∷◌, ◌++◌, refl, ap, eq-eqb, ◌==◌}
use Rattle.ulfm_log.proofs.Common.{Entry, or_else, first_given, entry_of, heard_of, listed_of, told_of, Topic}
use Rattle.ulfm_log.proofs.Firsts.{first-push}

pub listed-push : (me : ℕ) (log : List Entry) (c : Topic) (r : ℕ) (e : Entry) → listed_of me (log ++ e ∷ []) c r ≡ or_else (listed_of me log c r) (told_of me c r e)
listed-push me log c r e = pick (r == me)
  where
    pick : (b : Bool) → cond b (first_given (entry_of c) (log ++ e ∷ [])) (first_given (heard_of c r) (log ++ e ∷ [])) ≡ or_else (cond b (first_given (entry_of c) log) (first_given (heard_of c r) log)) (cond b (entry_of c e) (heard_of c r e))
    pick true = first-push (entry_of c) log e
    pick false = first-push (heard_of c r) log e

pub listed-own : (me : ℕ) (log : List Entry) (c : Topic) → listed_of me log c me ≡ first_given (entry_of c) log
listed-own me log c = ap (λ b. cond b (first_given (entry_of c) log) (first_given (heard_of c me) log)) (eq-eqb me me refl)
