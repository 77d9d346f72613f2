-- A step is a send, or has no body.
use Rattle.std.proofs.Common.{◌≡◌, ◌==◌, ◌∙◌, Bool, IsTrue, true, ap, sym, eq-eqb, Some, None}
use Rattle.std.proofs.lemmas.Bool.{eqb-true}
use Rattle.std.proofs.lemmas.Option.{none-some, same_Some}
use Rattle.std.specs.Cmp.Lexicographic.{bytes_decides}
use Rattle.ulfm_base.proofs.Numbers.{same_context, same_tag}
use Rattle.ulfm_base.specs.declared.context.Context.{Context}
use Rattle.ulfm_job.specs.Job.{bodiless}
use Rattle.ulfm_job.specs.Naming.{sending_in, sending_of}
use Rattle.ulfm_job.specs.contracts.text.TextPartialEq.TheImpl.{ghosts}
use Rattle.ulfm_job.specs.declared.asked.Sending.{Sending}
use Rattle.ulfm_job.specs.declared.step.Step.{Step}
use Rattle.ulfm_job.specs.declared.step.Step.TheVariants.{Send}

-- a send is itself
pub sending-is : (s t : Step) → sending_of s ≡ Some t → s ≡ t
sending-is (Send to tag body comm) t is = same_Some (Send to tag body comm) t is
sending-is _ t is = absurd (none-some t is)

-- so is what has no body
pub bodiless-is : (s t : Step) → bodiless s ≡ Some t → s ≡ t
bodiless-is (Send to tag body comm) t is = absurd (none-some t is)
bodiless-is s t is = same_Some s t is

-- it is one of these
pub one-of-both : (s : Step) → sending_of s ≡ None → bodiless s ≡ None → ⊥
one-of-both (Send to tag body comm) sent none = none-some (Send to tag body comm) (sym sent)
one-of-both s sent none = none-some s (sym none)

-- two sends whose other parts are the same are the same where they are on one communicator
pub sends-same : (a b : Step) (s t : Sending) (r : Bool) → Some (sending_in s) ≡ sending_of a → Some (sending_in t) ≡ sending_of b
    → s.to ≡ t.to → (s.tag.number == t.tag.number) ≡ true → ghosts.eq s.body.now t.body.now ≡ true → r ≡ (s.comm.number == t.comm.number)
    → (IsTrue r → a ≡ b) × (a ≡ b → IsTrue r)
sends-same a b s t r one two to tag body comm =
    let first = sending-is a (sending_in s) (sym one) in
    let second = sending-is b (sending_in t) (sym two) in
    let tags = same_tag s.tag t.tag (eqb-true s.tag.number t.tag.number tag) in
    let bodies = (bytes_decides s.body.now t.body.now).0 body in (
      λ same. let comms = same_context s.comm t.comm (eqb-true s.comm.number t.comm.number (sym comm ∙ same)) in cc,
      λ same. let comms : s.comm ≡ t.comm = cc in comm ∙ eq-eqb s.comm.number t.comm.number (ap (λ (d : Context). d.number) comms),
    )
