use Rattle.std.proofs.Common.{◌≡◌, cond, [], ◌∷◌, ◌++◌, ap, sym, subst, ◌∙◌, nat_eq}
use Rattle.ulfm_rank.proofs.Common.{Come, Clear, Pairing, Tracks, IsTable, ends_of, item_events, get}
use Rattle.ulfm_rank.proofs.Gone.{ends_named, table_over}
use Rattle.ulfm_rank.proofs.Steps.{nothing_happens}
use Rattle.ulfm_rank.proofs.requests.settle.Goals as goal

pub deliver-requires-clause-open : goal.deliver-requires-clause-open
deliver-requires-clause-open c = c.requires.open c.in-Letter.letter c.in-Letter.is c.if-revoked.false

pub returns-in-Enter-clause-tracks : goal.returns-in-Enter-clause-tracks
returns-in-Enter-clause-tracks c =
    nothing_happens c.args.revoked c.args.source.number c.args.item c.args.matcher.now (get nat_eq c.args.requests.now)
    (λ h. ap (item_events c.args.revoked h c.args.source.number) c.in-Enter.is)

pub returns-in-Gone-clause-tracks : goal.returns-in-Gone-clause-tracks
returns-in-Gone-clause-tracks c n entries h r t table =
    let s = c.args.source.number in
    let ends = ends_named s h in
    let find' = get nat_eq c.fail_named.new.requests in
    subst (λ i. (r' : Pairing) × Tracks (h ++ item_events c.args.revoked h s i) r' c.end_named.new.self × IsTable n entries (h ++ item_events c.args.revoked h s i) r' find') (sym c.in-Gone.is)
    (r, c.end_named.ensures.tracks h r (ends_of s h) ends t, table_over n s entries h (ends_of s h) r t.lawful ends (get nat_eq c.args.requests.now) find' table c.fail_named.ensures.change)

pub returns-then-revoked-clause-tracks : goal.returns-then-revoked-clause-tracks
returns-then-revoked-clause-tracks c =
    nothing_happens c.args.revoked c.args.source.number c.args.item c.args.matcher.now (get nat_eq c.args.requests.now)
    (λ h. ap (item_events c.args.revoked h c.args.source.number) c.in-Letter.is ∙ ap (λ b. cond b [] (Come c.in-Letter.letter ∷ [])) c.if-revoked.true)

pub returns-then-revoked-2-clause-tracks : goal.returns-then-revoked-2-clause-tracks
returns-then-revoked-2-clause-tracks c =
    nothing_happens c.args.revoked c.args.source.number c.args.item c.args.matcher.now (get nat_eq c.args.requests.now)
    (λ h. ap (item_events c.args.revoked h c.args.source.number) c.in-Revoke.is ∙ ap (λ b. cond b [] (Clear c.in-Revoke.context.number ∷ [])) c.if-revoked-2.true)

pub returns-else-revoked-2-clause-tracks : goal.returns-else-revoked-2-clause-tracks
returns-else-revoked-2-clause-tracks c n entries h r t table =
    let s = c.args.source.number in
    let x = c.in-Revoke.context.number in
    let find' = get nat_eq c.clear.new.requests in
    let done = c.clear.ensures.tracks n entries h r t table in
    let events : item_events c.args.revoked h s c.args.item ≡ Clear x ∷ [] = ap (item_events c.args.revoked h s) c.in-Revoke.is ∙ ap (λ b. cond b [] (Clear x ∷ [])) c.if-revoked-2.false in
    subst (λ xs. (r' : Pairing) × Tracks (h ++ xs) r' c.clear.new.matcher × IsTable n entries (h ++ xs) r' find') (sym events) (r, done.0, done.1)
