-- The rule of an inbox stays, when a sender is made, when it closes, and when the receiver hears of it.
use Rattle.std.proofs.Common.{◌≡◌, ◌≢◌, ℕ, ◌+◌, ◌≤◌, inl, inr, List, [], length, set, refl, ap, sym, ◌∙◌, arith, Option, None, Some}
use Rattle.ulfm_carrier.proofs.Common.{at_set, Item, PassView, sender, one_more, in_role, after_receipt, Forks, Merges}
use Rattle.ulfm_carrier.specs.Inbox.{spent, AreClosed, KnowsTruly, InboxRule}
use Rattle.ulfm_carrier.proofs.Changed.{change, change_here, change_else}
use Rattle.ulfm_carrier.proofs.Places.{each_push}
use Rattle.ulfm_carrier.proofs.Fitting.{All, all_set, all_push, spent_fits, sender_fits, receipt_fits, receiver_fits, others_fit, over}
use mathlib.Core.Option.{some}
use lib.ListN.{get_elem?}
use Rattle.ulfm_carrier.specs.declared.inbox.Role.TheVariants as role

-- the receiver makes a sender
pub makes : (pass : ℕ) (v : PassView) → v.role ≡ role.Receiver → Forks InboxRule pass v (one_more v) (sender v.made)
makes pass v is held views h here =
    let l = one_more v in
    let was = (h.fits pass v here).receives is in
    let vs = set views pass l in
    let free = was.2 v.made (omega arith) in
    let pass_of' = change h.pass_of v.made (Some (Some (length vs))) in
    let same : (q : ℕ) → q ≢ v.made → pass_of' q ≡ h.pass_of q = λ q apart. change_else h.pass_of v.made q _ apart in
    let kept : (q : ℕ) (s : Option ℕ) → h.pass_of q ≡ Some s → pass_of' q ≡ Some s = λ q s there. same q (λ e. let n : h.pass_of q ≡ None = ap h.pass_of e ∙ free.0 in absurd (cc)) ∙ there in
    let late : (p : ℕ) → v.made + 1 ≤ p → (pass_of' p ≡ None) × (h.pushed p ≡ []) = λ p after. let w = was.2 p (omega (arith, after)) in (same p (λ e. absurd (omega (arith, e, after))) ∙ w.0, w.1) in
    let F = KnowsTruly h.reader pass_of' h.pushed h.taken in
    let old : All F vs = all_set F views pass l (receiver_fits is (was.0, was.1, late, λ k p t e. let w = was.3 k p t e in (kept p None w.0, w.1))) (λ j u other e. let f = h.fits j u e in record {
      sends = λ s. let w = f.sends s in (kept u.from (Some j) w.0, w.1);
      tells = λ s. let w = f.tells s in (kept u.from None w.0, w.1);
      receives = λ s. absurd (other ((f.receives s).0 ∙ sym was.0));
      owns = λ s. absurd (other ((f.owns s).1.0 ∙ sym was.0));
    }) in
    over h h.reader pass_of' (all_push F vs (sender v.made) old (sender_fits refl (change_here h.pass_of v.made _, sym free.1)))

-- a sender closes, and gives a receipt
pub closes : (pass : ℕ) (v : PassView) → v.role ≡ role.Sender → Forks InboxRule pass v (in_role role.Spent v) (in_role role.Receipt v)
closes pass v is held views h here =
    let l = in_role role.Spent v in
    let mine = (h.fits pass v here).sends is in
    let pass_of' = change h.pass_of v.from (Some None) in
    let same : (q : ℕ) → q ≢ v.from → (h.pushed q ≡ h.pushed q) × (pass_of' q ≡ h.pass_of q) = λ q apart. (refl, change_else h.pass_of v.from q _ apart) in
    let F = KnowsTruly h.reader pass_of' h.pushed h.taken in
    let old : All F (set views pass l) = all_set F views pass l (spent_fits refl) (λ j u other e. others_fit h.pass_of pass_of' h.pushed h.pushed v.from pass mine.0 same other (h.fits j u e)) in
    over h h.reader pass_of' (all_push F (set views pass l) (in_role role.Receipt v) old (receipt_fits refl (change_here h.pass_of v.from _, mine.1)))

-- the receiver takes in a receipt
pub hears : (pass : ℕ) (v : PassView) (other : ℕ) (u : PassView) → v.role ≡ role.Receiver → u.role ≡ role.Receipt → Merges InboxRule pass v other u (after_receipt v u) spent
hears pass v other u is is' held views h here two here' =
    let both = after_receipt v u in
    let mine = (h.fits pass v here).receives is in
    let was : get_elem? views other ≡ some u = elim (at_set views pass other both u here') [ inl x ↦ absurd (two x.0) | inr x ↦ x.1 ] in
    let F = KnowsTruly h.reader h.pass_of h.pushed h.taken in
    let C : ℕ → ℕ × List Item → Type 0 = λ _ y. (h.pass_of y.0 ≡ Some None) × (y.1 ≡ h.pushed y.0) in
    let closed : AreClosed h.pass_of h.pushed both.receipts = λ k p l e. each_push C v.receipts (u.from, u.pushed) (length v.receipts) refl (λ j y there. mine.3 j y.0 y.1 there) ((h.fits other u was).tells is') k (p, l) e in
    let now : All F (set views pass both) = all_set F views pass both (receiver_fits is (mine.0, mine.1, mine.2, closed)) (λ j y _ e. h.fits j y e) in
    over h h.reader h.pass_of (all_set F (set views pass both) other spent (spent_fits refl) (λ j y _ e. now j y e))
