-- Steps whose test passes are equal.
use Rattle.std.proofs.Common.{◌≡◌, ◌==◌, ◌&&◌, ap, refl, rules, subst, sym, Bool, true, false, true≢false, Option, Some, None}
use Rattle.std.specs.Cmp.Lexicographic.{bytes_decides}
use Rattle.std.specs.Option.{option_eq}
use mathlib.Core.Bool.{beq}
use Rattle.std.proofs.lemmas.Bool.{and_parts, eqb-true}
use Rattle.ulfm_base.specs.declared.context.Context.{Context}
use Rattle.ulfm_base.specs.declared.tag.Tag.{Tag}
use Rattle.ulfm_base.proofs.Numbers.{same_context, same_tag}
use Rattle.ulfm_job.specs.declared.step.Step.{Step}
use Rattle.ulfm_job.specs.declared.step.Step.TheVariants.{Send, Recv, Wait, Probe, Mrecv, Cancel, Failed, Ack, Revoke, Dup, Shrink, Agree, Note, Stop}
use Rattle.ulfm_job.specs.contracts.step.StepPartialEq.TheImpl.{ghosts}

also : {s t : Bool} {P Q : Type 0} → (s ≡ true → P) → (t ≡ true → Q) → (s && t) ≡ true → P × Q
also {s} {t} f g h = let parts = and_parts s t h in (f parts.0, g parts.1)

context : (x y : Context) → (x.number == y.number) ≡ true → x ≡ y
context x y h = same_context x y (eqb-true x.number y.number h)

tag : (x y : Tag) → (x.number == y.number) ≡ true → x ≡ y
tag x y h = same_tag x y (eqb-true x.number y.number h)

bool : (x y : Bool) → beq x y ≡ true → x ≡ y
bool true true h = refl
bool false false h = refl
bool _ _ h = absurd (true≢false (sym h))

option : {A : Type 0} {E : A → A → Bool} → ((x y : A) → E x y ≡ true → x ≡ y) → (x y : Option A) → option_eq E x y ≡ true → x ≡ y
option each None None h = refl
option each (Some x) (Some y) h = ap Some (each x y h)
option each _ _ h = absurd (true≢false (sym h))

itself : (x : Step) → ghosts.eq x x ≡ true
itself Stop = refl
itself _ = search (rules)

same : (x y : Step) → ghosts.eq x y ≡ true → x ≡ y
same (Send a b c d) (Send e f g k) h =
    let p = also (eqb-true a e) (also (tag b f) (also (bytes_decides c g).0 (context d k))) h in
    λ i. Send (p.0 i) (p.1.0 i) (p.1.1.0 i) (p.1.1.1 i)
same (Recv a b c d) (Recv e f g k) h =
    let p = also (option eqb-true a e) (also (option tag b f) (also (eqb-true c g) (context d k))) h in
    λ i. Recv (p.0 i) (p.1.0 i) (p.1.1.0 i) (p.1.1.1 i)
same (Wait a) (Wait b) h = ap Wait (eqb-true a b h)
same (Probe a b c) (Probe d e f) h =
    let p = also (option eqb-true a d) (also (option tag b e) (context c f)) h in
    λ i. Probe (p.0 i) (p.1.0 i) (p.1.1 i)
same (Mrecv a b) (Mrecv c d) h = let p = also (eqb-true a c) (eqb-true b d) h in λ i. Mrecv (p.0 i) (p.1 i)
same (Cancel a) (Cancel b) h = ap Cancel (eqb-true a b h)
same (Failed a) (Failed b) h = ap Failed (context a b h)
same (Ack a b) (Ack c d) h = let p = also (eqb-true a c) (context b d) h in λ i. Ack (p.0 i) (p.1 i)
same (Revoke a) (Revoke b) h = ap Revoke (context a b h)
same (Dup a b) (Dup c d) h = let p = also (context a c) (bool b d) h in λ i. Dup (p.0 i) (p.1 i)
same (Shrink a b) (Shrink c d) h = let p = also (context a c) (bool b d) h in λ i. Shrink (p.0 i) (p.1 i)
same (Agree a b) (Agree c d) h = let p = also (eqb-true a c) (context b d) h in λ i. Agree (p.0 i) (p.1 i)
same (Note a) (Note b) h = ap Note ((bytes_decides a b).0 h)
same Stop Stop h = refl
same _ _ h = absurd (true≢false (sym h))

pub steps_decide : (x y : Step) → (ghosts.eq x y ≡ true → x ≡ y) × (x ≡ y → ghosts.eq x y ≡ true)
steps_decide x y = (same x y, λ e. subst (λ s. ghosts.eq x s ≡ true) e (itself x))
