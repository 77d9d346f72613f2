use Rattle.std.proofs.Common.{[], ap, subst, sym, ◌∙◌, cond, nat_eq, is_some, Some, None}
use Rattle.ulfm_match.proofs.Common.{Buckets, Grows, get}
use Rattle.ulfm_match.proofs.Bucketed.{grows_none, grows_push, at_key}
use Rattle.ulfm_match.proofs.buckets.put.Goals as goal

pub returns-in-Some-clause-put : goal.returns-in-Some-clause-put
returns-in-Some-clause-put c =
    let up = (c.get_mut.follows.holds c.push.new.self).3 (ap is_some (sym c.in-Some.ensures.value)) in
    rw up.1 c.push.ensures.put

pub returns-in-Some-clause-grows : goal.returns-in-Some-clause-grows
returns-in-Some-clause-grows c =
    let at = sym c.in-Some.ensures.value in
    let up = (c.get_mut.follows.holds c.push.new.self).3 (ap is_some at) in
    at_key (Grows c.args.number) (grows_none c.args.number) (get nat_eq c.args.buckets.now) (get nat_eq (c.get_mut.follows.lender c.push.new.self)) c.args.key (Some c.in-Some.bucket.now) (Some c.push.new.self) at up.0 c.push.ensures.grows

pub returns-clause-grows : goal.returns-clause-grows
returns-clause-grows c =
    at_key (Grows c.args.number) (grows_none c.args.number) (get nat_eq c.args.buckets.now) (get nat_eq c.insert.new.self) c.args.key None (Some c.of.result)
    (sym c.in_default.ensures.value)
    (λ q. c.in_ok-insert.ensures.updates.0 q ∙ ap (λ (m : Buckets). cond (nat_eq c.args.key q) (Some c.of.result) (get nat_eq m q)) c.get_mut.follows.holds-at-none)
    (subst (Grows c.args.number []) (sym c.of.ensures) (grows_push c.args.number []))
