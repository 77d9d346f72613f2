use Rattle.std.proofs.Common.{◌<◌, ◌+◌, ℕ, true, refl, ap, sym, subst, ◌∙◌, arith, inl, inr, cond}
use Rattle.std.proofs.lemmas.Bool.{cases_eq}
use Rattle.ulfm_c.proofs.Pushing.{go-ranks, goes-none, goes-then}
use Rattle.ulfm_c.specs.Turning.{IsStuck}
use Rattle.ulfm_c.specs.View.{ReadyView}
use Rattle.ulfm_c.proofs.process.Process.push.Goals.{then-push_to, else-push_to}
use Rattle.ulfm_c.proofs.process.Process.push.Goals as goal

pub loop-dest-init : goal.loop-dest-init
loop-dest-init c = (goes-none c.args.self.now.view, λ k l. absurd (omega (arith, l)), refl)

pub push_to-requires : goal.push_to-requires
push_to-requires c =
    let inv = c.loop-dest.invariant in let ranks = go-ranks inv.0.went _ _ inv.0.out in
    omega (arith, c.loop-dest-test.true, c.ranks-dest-end.ensures, ap (λ (v : ReadyView). v.view.rank.ranks) c.self.view_is, ranks)

pub loop-dest-preserved : goal.loop-dest-preserved
loop-dest-preserved c =
    let inv = c.loop-dest.invariant in let push = c.push_to.ensures.pushes in let room = c.push_to.ensures.room ∙ inv.2 in
    let stuck : (k : ℕ) → k < c.loop-dest.dest + 1 → IsStuck c.push_to.new.self.view k = λ k l. elim (cases_eq k c.loop-dest.dest) [
      | inl at ↦ subst (λ i. IsStuck c.push_to.new.self.view i) (sym at) push.stuck
      | inr other ↦ push.others k other (inv.1 k (omega (arith, l, other)))
    ] in
    elim c.if-push_to.branch [
      | then-push_to w ↦ (goes-then c.push_to.result inv.0 push.goes_on (w.moved-is ∙ ap (λ b. cond b true c.loop-dest.moved) (sym w.if-push_to.true)), stuck, room)
      | else-push_to w ↦ (goes-then c.push_to.result inv.0 push.goes_on (w.moved-is ∙ ap (λ b. cond b true c.loop-dest.moved) (sym w.if-push_to.false)), stuck, room)
    ]

pub returns-clause-room : goal.returns-clause-room
returns-clause-room c = c.loop-dest.invariant.2

pub returns-clause-pushes : goal.returns-clause-pushes
returns-clause-pushes c =
    let inv = c.loop-dest.invariant in let ranks = go-ranks inv.0.went _ _ inv.0.out in record {
      goes_on = inv.0;
      all_out = λ d l. inv.1 d (omega (arith, l, c.loop-dest-test.false, c.ranks-dest-end.ensures, ap (λ (v : ReadyView). v.view.rank.ranks) c.self.view_is, ranks));
    }
