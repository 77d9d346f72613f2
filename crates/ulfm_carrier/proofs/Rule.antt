-- An inbox begins by its rule, pushes and pops keep it, and passes learn from it.
use Rattle.std.proofs.Common.{◌≡◌, ◌≢◌, ℕ, zero, suc, ◌⊎◌, inl, inr, List, [], ◌∷◌, ◌++◌, length, refl, ap, sym, ◌∙◌, append_assoc, None}
use Rattle.ulfm_carrier.proofs.Common.{cases_lt, ComesFrom, Item, items_from, PassView, after_push, after_take, TakesOne, Pushes, Pops, Learns}
use Rattle.ulfm_carrier.specs.Inbox.{Signed, receiver, SenderPasses, Sends, Receives, KnowsTruly, InboxRule, OwnIsTakenAndHeld, ReceiptsAreTakenAndHeld}
use Rattle.ulfm_carrier.proofs.Changed.{change, change_here, change_else, at_or_else, items_push, items_push_else, items_some}
use Rattle.ulfm_carrier.proofs.Places.{each_push}
use Rattle.ulfm_carrier.proofs.Fitting.{all_set, sender_fits, receiver_fits, owner_fits, senders_fit, receives_same, others_fit}
use mathlib.Core.Option.{some, some-ne-none}
use lib.ListN.{get_elem?}
use Rattle.ulfm_carrier.specs.declared.inbox.Role.TheVariants as role

at_end : (l : List PassView) (a b : PassView) (j : ℕ) → get_elem? l j ≢ some b → get_elem? (l ++ a ∷ []) j ≡ some b → j ≡ length l
at_end [] a b zero n e = refl
at_end [] a b (suc j) n e = absurd (some-ne-none b (sym e))
at_end (x ∷ xs) a b zero n e = absurd (n e)
at_end (x ∷ xs) a b (suc j) n e = ap suc (at_end xs a b j n e)

pub begins : InboxRule [] (receiver ∷ [])
begins = record {
  reader = 0;
  pass_of = λ _. None;
  pushed = λ _. [];
  taken = [];
  flows = λ p. refl;
  sources = λ k x here. absurd (cc);
  fits = all_set (KnowsTruly 0 (λ _. None) (λ _. []) []) (receiver ∷ []) 0 receiver (receiver_fits refl (refl, refl, (λ p _. (refl, refl)), λ k p l e. absurd (cc)))
      (λ j u other e. absurd (other (at_end [] receiver u j (λ x. some-ne-none u (sym x)) e)));
}

-- a pass that pushes
abbrev pub MayPush : PassView → Type 0
MayPush v = (v.role ≡ role.Sender) ⊎ (v.role ≡ role.Owner)

-- a pass that takes
abbrev pub MayTake : PassView → Type 0
MayTake v = (v.role ≡ role.Receiver) ⊎ (v.role ≡ role.Owner)

module _ {reader : ℕ} {pass_of : SenderPasses} {pushed : ℕ → List Item} {taken : List Signed} {pass : ℕ} {v : PassView} (f : KnowsTruly reader pass_of pushed taken pass v) where
  sending : MayPush v → Sends pass_of pushed pass v
  sending is = elim is [ inl s ↦ f.sends s | inr o ↦ (f.owns o).0 ]

  taking : MayTake v → Receives reader pass_of pushed taken pass v
  taking is = elim is [ inl r ↦ f.receives r | inr o ↦ (f.owns o).1 ]

  -- it pushed one item more
  pushes_fits : MayPush v → (x : Item) (pushed' : ℕ → List Item) → ((q : ℕ) → q ≢ v.from → (pushed' q ≡ pushed q) × (pass_of q ≡ pass_of q)) → v.pushed ++ x ∷ [] ≡ pushed' v.from → KnowsTruly reader pass_of pushed' taken pass (after_push v x)
  pushes_fits is x pushed' same more = elim is [
    | inl s ↦ sender_fits s ((f.sends s).0, more)
    | inr o ↦ let was = f.owns o in owner_fits o ((was.0.0, more), receives_same pass_of pass_of pushed pushed' v.from pass was.0.0 same (after_push v x) was.1)
  ]

  -- it took one item more
  takes_fits : MayTake v → (x : Signed) → KnowsTruly reader pass_of pushed (taken ++ x ∷ []) pass (after_take v x)
  takes_fits is x =
      let was = taking is in
      let now : Receives reader pass_of pushed (taken ++ x ∷ []) pass (after_take v x) = (was.0, ap (λ l. l ++ x ∷ []) was.1, was.2, was.3) in elim is [ inl r ↦ receiver_fits r now | inr o ↦ owner_fits o ((f.owns o).0, now) ]

-- a sender pushes
pub sends : (n pass : ℕ) (v : PassView) (x : Signed) → MayPush v → x.0.number ≡ v.from → ComesFrom x.0.number x.1 → Pushes InboxRule n pass v x (λ w. w ≡ after_push v x.1)
sends n pass v x is from source held views room h here =
    let fit = h.fits pass v here in
    let mine = sending fit is in
    let pushed' = change h.pushed v.from (h.pushed v.from ++ x.1 ∷ []) in
    let same : (q : ℕ) → q ≢ v.from → (pushed' q ≡ h.pushed q) × (h.pass_of q ≡ h.pass_of q) = λ q apart. (change_else h.pushed v.from q _ apart, refl) in
    let F = KnowsTruly h.reader h.pass_of pushed' h.taken in (
      after_push v x.1,
      record {
        reader = h.reader;
        pass_of = h.pass_of;
        pushed = pushed';
        taken = h.taken;
        flows = λ p. at_or_else (λ q. pushed' q ≡ items_from q (h.taken ++ (held ++ x ∷ []))) v.from p
            (change_here h.pushed v.from _ ∙ ap (λ l. l ++ x.1 ∷ []) (h.flows v.from) ∙ sym (items_push v.from (h.taken ++ held) x from) ∙ ap (items_from v.from) (append_assoc h.taken held (x ∷ [])))
            (λ apart. change_else h.pushed v.from p _ apart ∙ h.flows p ∙ sym (items_push_else p (h.taken ++ held) x (λ e. apart (e ∙ from))) ∙ ap (items_from p) (append_assoc h.taken held (x ∷ [])));
        sources = each_push (λ _ (y : Signed). ComesFrom y.0.number y.1) held x (length held) refl h.sources source;
        fits = all_set F views pass (after_push v x.1) (pushes_fits fit is x.1 pushed' same (ap (λ l. l ++ x.1 ∷ []) mine.1 ∙ sym (change_here h.pushed v.from _)))
            (λ j u other e. others_fit h.pass_of h.pass_of h.pushed pushed' v.from pass mine.0 same other (h.fits j u e));
      },
      refl,
    )

-- the receiver takes
pub takes : (pass : ℕ) (v : PassView) → MayTake v → Pops InboxRule pass v (TakesOne v)
takes pass v is x held views h here =
    let fit = h.fits pass v here in
    let was = taking fit is in
    let taken' = h.taken ++ x ∷ [] in
    let more : (p : ℕ) → h.pushed p ≡ items_from p (taken' ++ held) = λ p. h.flows p ∙ ap (items_from p) (sym (append_assoc h.taken (x ∷ []) held)) in (
      after_take v x,
      record {
        reader = h.reader;
        pass_of = h.pass_of;
        pushed = h.pushed;
        taken = taken';
        flows = more;
        sources = λ k y at_k. h.sources (suc k) y at_k;
        fits = all_set (KnowsTruly h.reader h.pass_of h.pushed taken') views pass (after_take v x) (takes_fits fit is x) (λ j u other e. senders_fit (λ r. other (r ∙ sym was.0)) (h.fits j u e));
      },
      record {
        taken = refl;
        source = h.sources 0 x refl;
        made = elim (cases_lt x.0.number v.made) [ inl below ↦ below | inr late ↦ absurd (items_some h.taken held x (sym (h.flows x.0.number) ∙ (was.2 x.0.number late).1)) ];
        held = held;
        flows = λ k p l e. (was.3 k p l e).1 ∙ more p ∙ ap (λ t. items_from p ((t ++ x ∷ []) ++ held)) (sym was.1);
      },
    )

-- what the receiver learns of what is held of closed senders
pub hears_of : (pass : ℕ) (v : PassView) → v.role ≡ role.Receiver → Learns InboxRule pass v (ReceiptsAreTakenAndHeld v)
hears_of pass v is held views h here = let was = (h.fits pass v here).receives is in λ k p l e. (was.3 k p l e).1 ∙ h.flows p ∙ ap (λ t. items_from p (t ++ held)) (sym was.1)

-- what an owner learns of what is held
pub sees_own : (pass : ℕ) (v : PassView) → v.role ≡ role.Owner → Learns InboxRule pass v (OwnIsTakenAndHeld v)
sees_own pass v is held views h here =
    let was = (h.fits pass v here).owns is in
    let flows : (p : ℕ) → h.pushed p ≡ items_from p (v.taken ++ held) = λ p. h.flows p ∙ ap (λ t. items_from p (t ++ held)) (sym was.1.1) in record {
      own = was.0.1 ∙ flows v.from;
      no_others = λ p late. sym (flows p) ∙ (was.1.2 p late).1;
    }
