use Rattle.std.proofs.Common.{◌∙◌, true≢false, ap, sym}
use Rattle.std.proofs.lemmas.Bool.{eqb-true}
use Rattle.ulfm_job.specs.Naming.{sending_of}
use Rattle.ulfm_job.proofs.Sendings.{sends-same}
use Rattle.ulfm_job.proofs.asked.is_same_sending.Goals as goal
use Rattle.ulfm_job.proofs.asked.is_same_sending.Goals.{then-one-two, else-one-two, then-eq, else-eq}

pub returns-then-eq-2 : goal.returns-then-eq-2
returns-then-eq-2 c = elim c.if-eq.branch [
  | then-eq w ↦ elim c.if-one-two.branch [
    | then-one-two v ↦
        sends-same c.args.asked.now c.args.other.now c.in-Some-Some.one c.in-Some-Some.two c.eq-then-eq-2.result c.in-Some-Some.ensures (c.in-Some-Some.ensures' ∙ ap sending_of c.of-other.ensures) v.if-one-two.true
        (sym v.eq.ensures ∙ sym v.value-is ∙ w.if-eq.true) (sym w.eq-then-eq.ensures ∙ sym w.value-is ∙ c.if-eq-2.true) c.eq-then-eq-2.ensures
    | else-one-two v ↦ absurd (v.if-one-two.false (eqb-true c.in-Some-Some.one.to c.in-Some-Some.two.to (sym v.value-is ∙ w.if-eq.true)))
  ]
  | else-eq w ↦ absurd (true≢false (sym c.if-eq-2.true ∙ w.value-is ∙ w.if-eq.false))
]
