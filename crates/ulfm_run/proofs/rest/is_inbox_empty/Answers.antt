use Rattle.std.proofs.Common.{◌<◌, ◌≤◌, length, refl, subst, arith, List}
use Rattle.std.proofs.lemmas.Bool.Decides.{nat_tests}
use Rattle.ulfm_run.proofs.Common.{at, Global, Item, Vec, WorldRank, slice_get_read}
use Rattle.ulfm_run.proofs.Served.{inbox_at, no_inbox}
use Rattle.ulfm_run.proofs.rest.is_inbox_empty.Goals as goal

pub returns-in-Some : goal.returns-in-Some
returns-in-Some c =
    let inside : c.args.d < length c.deref.result.now = grind (arith, nat_tests, c.in-Some.ensures.lookup.0) in
    let A : List (Vec (WorldRank × Item) Global) → Type 0 = λ xs. at xs c.args.d c.in-Some.inbox.now in
    let here = subst A c.deref.ensures.value (slice_get_read c.deref.result.now (length c.deref.result.now) c.args.d c.in-Some.inbox.now refl inside c.in-Some.ensures.lookup.1) in
    inbox_at c.args.residue.now.inboxes.items c.args.d here c.is_empty.ensures

pub returns-in-None : goal.returns-in-None
returns-in-None c =
    let far : length c.args.residue.now.inboxes.items ≤ c.args.d = grind (arith, nat_tests, c.in-None.ensures.lookup.0, c.deref.ensures.len) in
    (λ yes. no_inbox c.args.residue.now.inboxes.items c.args.d far, λ none. refl)
