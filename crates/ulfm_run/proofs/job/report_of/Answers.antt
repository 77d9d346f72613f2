use Rattle.std.proofs.Common.{◌≡◌, ap, sym, ◌∙◌, subst, map, List, length, slice_get, arith}
use Rattle.ulfm_script.specs.declared.fault.RunFault.{RunFault}
use Rattle.ulfm_script.specs.declared.fault.RunFault.TheVariants.{Untrue}
use Rattle.ulfm_run.proofs.Common.{Global, IsGathered, Keeps, NameOneBoard, Report, Vec, false≢true, AreTrue, length-map, report_in}
use Rattle.ulfm_report_laws.specs.Decisions.{NoneIsForeign}
use Rattle.ulfm_report_laws.specs.Order.{HaveOneOrder}
use Rattle.ulfm_run.proofs.job.report_of.Goals as goal

pub gather-residue-requires-clause-family : goal.gather-residue-requires-clause-family
gather-residue-requires-clause-family g c = subst g.E.Ends.one_call (ap (map g.E.Ends.name) (sym c.parted-ranks.ensures.ends)) c.requires.family

pub gather-residue-requires-clause-ready : goal.gather-residue-requires-clause-ready
gather-residue-requires-clause-ready g c = λ k e here. c.requires.ready k e (ap (λ l. slice_get l k) (sym c.parted-ranks.ensures.ends) ∙ here)

pub returns-clause-same : goal.returns-clause-same
returns-clause-same g c =
    subst (λ (es : List g.row.E.Denot). Keeps g.E.Ends.name g.E.Ends.pushed g.E.Ends.taken es c.gather-residue.result.1.items) c.parted-ranks.ensures.ends c.gather-residue.ensures.same

pub returns-clause-residue : goal.returns-clause-residue
returns-clause-residue g c =
    subst (λ (es : List g.row.E.Denot). IsGathered g.E.Ends.pushed g.E.Ends.taken es c.gather-residue.result.0.inboxes.items) c.parted-ranks.ensures.ends c.gather-residue.ensures.residue

pub compared-deciders-requires : goal.compared-deciders-requires
compared-deciders-requires g c = record { one_board = subst NameOneBoard (ap (map g.D.Decider.board) (sym c.parted-ranks.ensures.deciders)) c.requires.one_board }

pub are_borne_out-requires : goal.are_borne_out-requires
are_borne_out-requires g c =
    let long : length c.deref.result.now ≡ length c.args.ran.items = ap length (c.deref.ensures.value ∙ c.parted-ranks.ensures.reports) ∙ length-map c.args.ran.items report_in in
    omega (arith, long, c.requires.few)

pub returns-clause-decisions : goal.returns-clause-decisions
returns-clause-decisions g c = subst AreTrue c.deref.ensures.value (c.are_borne_out.ensures.0 c.if-not-are_borne_out.false).0

pub returns-clause-one_order : goal.returns-clause-one_order
returns-clause-one_order g c = subst (λ (rs : List Report). HaveOneOrder rs) c.deref.ensures.value (c.are_borne_out.ensures.0 c.if-not-are_borne_out.false).1

pub returns-clause-none_foreign : goal.returns-clause-none_foreign
returns-clause-none_foreign g c = subst (λ (rs : List Report). NoneIsForeign rs) c.deref.ensures.value (c.are_borne_out.ensures.0 c.if-not-are_borne_out.false).2

-- the reports that a fault carries, where it is `Untrue`
abbrev carried : RunFault → Vec Report Global → Vec Report Global
carried (Untrue reports) other = reports
carried _ other = other

pub returns-then-not-are_borne_out-clause-untrue : goal.returns-then-not-are_borne_out-clause-untrue
returns-then-not-are_borne_out-clause-untrue g c reports fault =
    let same = ap (λ (rs : Vec Report Global). rs.items) (ap (λ f. carried f reports) fault) in (
      sym same ∙ c.parted-ranks.ensures.reports,
      λ all.
          let shown = subst (λ (rs : List Report). AreTrue rs × HaveOneOrder rs × NoneIsForeign rs) (sym (c.deref.ensures.value ∙ same)) all in
          false≢true (sym c.if-not-are_borne_out.true ∙ c.are_borne_out.ensures.1 shown),
    )
