use Rattle.std.proofs.Common.{arith, ap, ◌∙◌, sym, ◌≡◌, length, map, subst, slice_get}
use Rattle.std.proofs.lemmas.List.{length-map}
use Rattle.ulfm_tests.specs.declared.run.laid.Laid.{Laid}
use Rattle.ulfm_base.proofs.Places.{at_view}
use Rattle.ulfm_run.proofs.Mapped.{map_of_map, each_of_map}
use Rattle.ulfm_tests.proofs.run.laid.LaidEnds.gather.Goals as goal

pub gather-residue-requires-clause-family : goal.gather-residue-requires-clause-family
gather-residue-requires-clause-family g c =
    subst g.E.Ends.one_call (sym (ap (map g.E.Ends.name) c.parted-inners.ensures ∙ map_of_map g.E.Ends.name _ c.args.ends.items)) c.requires.family

pub gather-residue-requires-clause-ready : goal.gather-residue-requires-clause-ready
gather-residue-requires-clause-ready g c =
    λ k e here. each_of_map g.E.Ends.ready _ c.args.ends.items c.requires.ready k e (ap (λ l. slice_get l k) (sym c.parted-inners.ensures) ∙ here)

pub laid_over-requires : goal.laid_over-requires
laid_over-requires g c =
    let names : length c.gather-residue.result.1.items ≡ length c.parted-inners.result.0.items =
    sym (length-map c.gather-residue.result.1.items g.E.Ends.name) ∙ ap length c.gather-residue.ensures.same.names ∙ length-map c.parted-inners.result.0.items g.E.Ends.name in
    let many : length c.parted-inners.result.0.items ≡ length c.args.ends.items = ap length c.parted-inners.ensures ∙ length-map c.args.ends.items (λ (e : Laid g.row.E.Denot g.row.H.Denot). e.inner) in
    record { room = (omega (arith, names, many, c.gather-residue.result.1.ok, c.args.ends.ok, c.len-3.ensures, c.room-back.ensures.1), c.room-back.ensures.0) }

pub returns-in-Some-clause-same : goal.returns-in-Some-clause-same
returns-in-Some-clause-same g c =
    let inner = λ (e : Laid g.row.E.Denot g.row.H.Denot). e.inner in
    let into = c.parted-inners.ensures in
    let back = c.in-Some.ensures in
    let same = c.gather-residue.ensures.same in record {
      names = sym (map_of_map g.E.Ends.name inner c.in-Some.ends.items) ∙ ap (map g.E.Ends.name) back ∙ same.names ∙ ap (map g.E.Ends.name) into ∙ map_of_map g.E.Ends.name inner c.args.ends.items;
      pushed_to = λ k e f here there p. same.pushed_to k e.inner f.inner (ap (λ l. slice_get l k) into ∙ at_view inner c.args.ends.items k e here) (ap (λ l. slice_get l k) (sym back) ∙ at_view inner c.in-Some.ends.items k f there) p;
      taken_from = λ k e f here there p. same.taken_from k e.inner f.inner (ap (λ l. slice_get l k) into ∙ at_view inner c.args.ends.items k e here) (ap (λ l. slice_get l k) (sym back) ∙ at_view inner c.in-Some.ends.items k f there) p;
    }

pub returns-in-Some-clause-residue : goal.returns-in-Some-clause-residue
returns-in-Some-clause-residue g c =
    let inner = λ (e : Laid g.row.E.Denot g.row.H.Denot). e.inner in
    let into = c.parted-inners.ensures in
    let rest = c.gather-residue.ensures.residue in
    let many : length c.parted-inners.result.0.items ≡ length c.args.ends.items = ap length into ∙ length-map c.args.ends.items inner in record {
      inbox_for_each = rest.inbox_for_each ∙ many;
      flows = λ s d e f box here there held. rest.flows s d e.inner f.inner box (ap (λ l. slice_get l s) into ∙ at_view inner c.args.ends.items s e here) (ap (λ l. slice_get l d) into ∙ at_view inner c.args.ends.items d f there) held;
      no_others = λ s d box held past. rest.no_others s d box held (omega (arith, many, past));
    }
