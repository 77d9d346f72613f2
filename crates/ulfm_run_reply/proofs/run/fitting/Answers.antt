use Rattle.std.proofs.Common.{ℕ, sym, subst, ◌∙◌, inr, arith}
use Rattle.std.proofs.lemmas.Bool.{false≢true}
use Rattle.ulfm_report_laws.specs.Flow.{AreWithin}
use Rattle.ulfm_report_laws.specs.Room.{HaveRoom}
use Rattle.ulfm_run.specs.Flow.{contents}
use Rattle.ulfm_run_reply.proofs.run.fitting.Goals as goal

pub fits-requires : goal.fits-requires
fits-requires g c = record { few = omega (arith, c.requires.lawful.1.each, c.capacity.ensures.ranges.few_ranks) }

pub returns-clause-ran : goal.returns-clause-ran
returns-clause-ran g c =
    let inboxes = contents c.args.report.residue.inboxes.items in
    let fit = c.fits.ensures.0 c.if-not-fits.false in record {
      run = record {
        lawful = record { inboxes = inboxes; knows = c.requires.lawful.0; lawful = c.requires.lawful.1 };
        own = c.requires.own;
        within = subst (λ (n : ℕ). AreWithin inboxes n) c.capacity.ensures.exact fit.1;
        room = subst (λ (n : ℕ). HaveRoom c.args.report.ranks.items n) c.capacity.ensures.exact fit.0;
      };
      rest = c.at_rest-is_at_rest.ensures;
    }

pub returns-then-not-fits-clause-shown : goal.returns-then-not-fits-clause-shown
returns-then-not-fits-clause-shown g c =
    let reports = c.args.report.ranks.items in let inboxes = contents c.args.report.residue.inboxes.items in let same = sym c.capacity.ensures.exact in (
      reports,
      inr (record {
        lawful = record { inboxes = inboxes; knows = c.requires.lawful.0; lawful = c.requires.lawful.1 };
        own = c.requires.own;
        crowded = λ room within. false≢true (sym c.if-not-fits.true ∙ c.fits.ensures.1 (subst (λ (n : ℕ). HaveRoom reports n) same room, subst (λ (n : ℕ). AreWithin inboxes n) same within));
      }),
    )
