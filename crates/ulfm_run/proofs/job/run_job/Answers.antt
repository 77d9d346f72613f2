use Rattle.std.proofs.Common.{sym, subst, map}
use Rattle.std.proofs.lemmas.Result.{err_from_is_err_and}
use Rattle.ulfm_report_laws.proofs.Lawful.{lawful}
use Rattle.ulfm_run.proofs.Common.{contents, IsFresh}
use Rattle.ulfm_run.proofs.Reporting.{same_names, all_ready, flow_all, sizes_all, few_all, names_all, settled_all, boards_all, untrue_all, produced_all, board_all}
use Rattle.ulfm_run.proofs.job.run_job.Goals as goal

pub play_all-requires-clause-fresh : goal.play_all-requires-clause-fresh
play_all-requires-clause-fresh g c = λ κs met k e here. subst (λ n. IsFresh g.E.Ends.count g.E.Ends.pushed g.E.Ends.taken g.E.Ends.ready n e) (c.fits.ensures.0 c.if-not-fits.false).end_each (c.requires.fresh k e here)

pub report_of-requires-clause-family : goal.report_of-requires-clause-family
report_of-requires-clause-family g c = subst g.E.Ends.one_call (sym (same_names c.in-Ok.ensures.played)) (c.requires.one_call (c.fits.ensures.0 c.if-not-fits.false).placed)

pub report_of-requires-clause-few : goal.report_of-requires-clause-few
report_of-requires-clause-few g c = few_all c.in-Ok.ensures.played (c.fits.ensures.0 c.if-not-fits.false)

pub report_of-requires-clause-ready : goal.report_of-requires-clause-ready
report_of-requires-clause-ready g c = all_ready c.in-Ok.ensures.played

pub returns-in_err-report-clause-untrue : goal.returns-in_err-report-clause-untrue
returns-in_err-report-clause-untrue g c =
    let failed = err_from_is_err_and c.from_residual.result c.from_residual.ensures.1 in
    rw failed.1 (λ reports is.
    let shown = c.in_err-report.ensures.untrue reports (let same = failed.2 in cc) in
    untrue_all c.in-Ok.ensures.played (c.fits.ensures.0 c.if-not-fits.false) g.D.Decider.known c.in-Ok.ensures.answers shown.0 shown.1)

pub report_of-requires-clause-one_board : goal.report_of-requires-clause-one_board
report_of-requires-clause-one_board g c =
    let fit = c.fits.ensures.0 c.if-not-fits.false in
    board_all c.in-Ok.ensures.played fit c.requires.one_board

pub returns : goal.returns
returns g c =
    let fit = c.fits.ensures.0 c.if-not-fits.false in
    let played = c.in-Ok.ensures.played in let made = c.in_ok-report.ensures in let report = c.in_ok-report.report in
    let knows = map g.D.Decider.known report.deciders.items in record {
      fits = fit;
      bad_ends = λ misfit. absurd (misfit fit);
      misfits = tt;
      untrue = tt;
      sizes = sizes_all played fit report.deciders.items made.same made.residue made.boards;
      flow = flow_all played fit made.ranks made.same made.residue;
      residue = settled_all played fit made.same made.residue;
      same_ends = names_all played fit made.same;
      same_boards = boards_all played fit report.deciders.items made.boards;
      lawful = lawful c.args.job.now (contents report.residue.inboxes.items) knows report.ranks.items
          (produced_all played fit g.D.Decider.known c.in-Ok.ensures.answers knows made.ranks made.known made.residue made.agree made.decisions made.one_order made.none_foreign);
    }
