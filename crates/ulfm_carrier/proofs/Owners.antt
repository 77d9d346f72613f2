-- The rule of an inbox stays, when a rank's own sender has the receiver's pass too, and when it gives it back.
use Rattle.std.proofs.Common.{◌≡◌, ◌≢◌, ℕ, ◌++◌, List, [], ◌∷◌, length, set, refl, sym, ◌∙◌, inl, inr, subst}
use Rattle.ulfm_carrier.proofs.Common.{at_set, InboxRule, KnowsTruly, Receives, Signed, spent, PassView, in_role, owner, returned, Forks, Merges}
use Rattle.ulfm_carrier.proofs.Fitting.{All, all_set, all_push, spent_fits, sender_fits, receiver_fits, owner_fits, senders_fit, over}
use mathlib.Core.Option.{some}
use lib.ListN.{get_elem?}
use Rattle.ulfm_carrier.specs.declared.inbox.Role.TheVariants as role

module _ {held : List Signed} {views : List PassView} (h : InboxRule held views) {pass : ℕ} where
  -- the receiver's pass is split: the new one reads from now on
  read_by_new : (v : PassView) {l : PassView} → pass ≡ h.reader → KnowsTruly (length (set views pass l)) h.pass_of h.pushed h.taken pass l → Receives h.reader h.pass_of h.pushed h.taken pass v → InboxRule held (set views pass l ++ in_role role.Receiver v ∷ [])
  read_by_new v {l} is fits was =
      let new = length (set views pass l) in
      let F = KnowsTruly new h.pass_of h.pushed h.taken in
      let old : All F (set views pass l) = all_set F views pass l fits (λ j u other e. senders_fit (λ e'. other (e' ∙ sym is)) (h.fits j u e)) in
      over h new h.pass_of (all_push F (set views pass l) (in_role role.Receiver v) old (receiver_fits refl (refl, was.1, was.2, was.3)))

  -- the receiver's pass goes into another, which reads from now on
  read_by_other : {other : ℕ} {w : PassView} → other ≡ h.reader → KnowsTruly pass h.pass_of h.pushed h.taken pass w → InboxRule held (set (set views pass w) other spent)
  read_by_other {other} {w} is fits =
      let F = KnowsTruly pass h.pass_of h.pushed h.taken in
      over h pass h.pass_of (all_set F (set views pass w) other spent (spent_fits refl) (λ j u apart e. elim (at_set views pass j w u e) [
        | inl x ↦ subst (λ (y : ℕ × PassView). F y.0 y.1) (λ i. (sym x.0 i, x.1 i)) fits
        | inr x ↦ senders_fit (λ e'. apart (e' ∙ sym is)) (h.fits j u x.1)
      ]))

  -- what is lent is still what the receiver knew
  was_reader : (other : ℕ) (u w : PassView) → other ≢ pass → u.role ≡ role.Receiver → get_elem? (set views pass w) other ≡ some u → Receives h.reader h.pass_of h.pushed h.taken other u
  was_reader other u w apart is here = elim (at_set views pass other w u here) [ inl x ↦ absurd (apart x.0) | inr x ↦ (h.fits other u x.1).receives is ]

-- the receiver lends its pass
pub lends : (pass : ℕ) (v : PassView) → v.role ≡ role.Receiver → Forks InboxRule pass v (in_role role.Spent v) (in_role role.Receiver v)
lends pass v is held views h here = let was = (h.fits pass v here).receives is in read_by_new h v was.0 (spent_fits refl) was

-- an owner parts with it
pub parts : (pass : ℕ) (v : PassView) → v.role ≡ role.Owner → Forks InboxRule pass v (in_role role.Sender v) (in_role role.Receiver v)
parts pass v is held views h here = let was = (h.fits pass v here).owns is in read_by_new h v was.1.0 (sender_fits refl was.0) was.1

-- a sender takes in what the receiver lent
pub owns : (pass : ℕ) (v : PassView) (other : ℕ) (u : PassView) → v.role ≡ role.Sender → u.role ≡ role.Receiver → Merges InboxRule pass v other u (owner v u) spent
owns pass v other u is is' held views h here apart there =
    let was = was_reader h other u (owner v u) apart is' there in
    read_by_other h was.0 (owner_fits refl ((h.fits pass v here).sends is, (refl, was.1, was.2, was.3)))

-- the receiver has its pass back
pub has_back : (pass : ℕ) (v : PassView) (other : ℕ) (u : PassView) → u.role ≡ role.Receiver → Merges InboxRule pass v other u (returned v u) spent
has_back pass v other u is held views h here apart there = let was = was_reader h other u (returned v u) apart is there in read_by_other h was.0 (receiver_fits refl (refl, was.1, was.2, was.3))
