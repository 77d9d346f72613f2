use Rattle.std.proofs.Common.{[], ◌∷◌, ◌++◌, refl, sym, subst}
use Rattle.ulfm_rank.proofs.Common.{Took, HasFaults}
use Rattle.ulfm_rank.proofs.Known.{faults_learned, faults_revoked, faults_taken}
use Rattle.ulfm_rank.proofs.failures.learn.Goals as goal

pub returns-in-Gone : goal.returns-in-Gone
returns-in-Gone c log held =
    subst (λ i. HasFaults (log ++ Took c.args.source i ∷ []) c.learn.new.self) (sym c.in-Gone.is)
    (faults_learned c.learn.new.self c.args.source held c.learn.ensures.is_known_from_now_on c.learn.ensures.totals_stay c.learn.ensures.marks_stay)

pub returns-in-Revoke : goal.returns-in-Revoke
returns-in-Revoke c log held =
    subst (λ i. HasFaults (log ++ Took c.args.source i ∷ []) c.revoke.new.self) (sym c.in-Revoke.is)
    (faults_revoked c.revoke.new.self (Took c.args.source _) c.in-Revoke.context.number held (λ k. refl) (λ d k. refl) (λ d. refl)
    c.revoke.ensures.marks_this_context_alone c.revoke.ensures.known_stay c.revoke.ensures.totals_stay)

pub returns-in_default : goal.returns-in_default
returns-in_default c log held = faults_taken c.args.source c.args.item.now c.in_default.not-Gone c.in_default.not-Revoke held
