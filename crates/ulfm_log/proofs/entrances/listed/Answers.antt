use Rattle.std.proofs.Common.{◌++◌, ◌∷◌, [], take, ap, sym, ◌∙◌}
use Rattle.std.proofs.lemmas.List.{take_more}
use Rattle.ulfm_log.proofs.Common.{given_by, listed_of, or_else}
use Rattle.ulfm_log.proofs.Entries.{listed_fits, listed_to}
use Rattle.ulfm_log.proofs.Listing.{listed-push}
use Rattle.ulfm_log.proofs.entrances.listed.Goals as goal

pub loop-entry-preserved : goal.loop-entry-preserved
loop-entry-preserved c = (
  c.note.array_long,
  λ r small.
      let log = c.args.log.now in
      let k = c.loop-entry.entry-index in
      let e = c.entry-item.result in
      c.note.ensures r small
      ∙ ap (λ o. or_else o (given_by c.args.topic r c.entrance_of.result)) (c.loop-entry.invariant.1 r small)
      ∙ ap (or_else (listed_of c.args.me.number (take k log) c.args.topic r)) (c.entrance_of.ensures c.args.topic r)
      ∙ sym (listed-push c.args.me.number (take k log) c.args.topic r e)
      ∙ ap (λ x. listed_of c.args.me.number (take k log ++ x ∷ []) c.args.topic r) c.entry-item.is
      ∙ sym (ap (λ l. listed_of c.args.me.number l c.args.topic r) (take_more log k e c.loop-entry-test.true)),
)

pub returns-clause-flags : goal.returns-clause-flags
returns-clause-flags c = λ r brought here.
    let size = c.loop-entry.invariant.0 in
    listed_fits c.args.me.number (take c.loop-entry.entry-index c.args.log.now) c.args.topic r brought (sym (c.loop-entry.invariant.1 r (listed_to c.loop-entry.listed r brought size here)) ∙ here)
