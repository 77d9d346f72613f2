use Rattle.std.proofs.Common.{◌≡◌, ◌++◌, ◌∷◌, [], ap, sym, subst, refl, ◌∙◌, arith, Some}
use Rattle.ulfm_rank.proofs.Joining.{joined-returned, joined-taken}
use Rattle.ulfm_rank.proofs.Signed.{from_signed}
use Rattle.ulfm_base.specs.Items.{ComesFrom}
use Rattle.ulfm_carrier.specs.Lanes.{lane_taken}
use Rattle.ulfm_log.specs.State.{State, logged}
use Rattle.ulfm_log.specs.declared.entry.Entry.TheVariants.{Took}
use Rattle.ulfm_base.specs.declared.rank.WorldRank.{WorldRank}
use Rattle.ulfm_c.specs.View.{IsAtEnd, ReadyView}
use Rattle.ulfm_c.proofs.process.Process.take_from.Goals as goal

pub take-requires-clause-from : goal.take-requires-clause-from
take-requires-clause-from c = from_signed c.in_ok-peer.peer c.in-Some.item (subst (λ s. ComesFrom s c.in-Some.item) (sym c.in_ok-peer.ensures.there.0) c.in-Some.ensures.sender)

pub invariant_of-self-in-Some : goal.invariant_of-self-in-Some
invariant_of-self-in-Some c =
    let t = c.in-Some.ensures in let h = c.self.invariant in let old = c.self.inside.end in let end = c.pop_from.new.self in
    let peer = c.in_ok-peer.peer in let item = c.in-Some.item in let there = c.in_ok-peer.ensures.there in
    let only = c.take.ensures ∙ ap (λ (r : State). logged r (Took peer item)) c.in_ok-prepare.ensures.state in
    subst (λ (r : State). IsAtEnd r end) (sym only)
    (joined-taken end peer item (omega (arith, there.0, there.1, ap (λ (v : ReadyView). v.view.rank.ranks) c.self.view_is)) h (ap (λ (r : WorldRank). r.number) t.name.1) t.name.2 t.name.3 t.pushed
    (subst (λ s. lane_taken end s ≡ lane_taken old s ++ item ∷ []) (sym there.0) t.taken.0) (λ p apart. t.taken.1 p (λ is. apart (is ∙ sym there.0))))

pub invariant_of-self-in-None : goal.invariant_of-self-in-None
invariant_of-self-in-None c =
    let t = c.in-None.ensures in let h = c.self.invariant in let end = c.pop_from.new.self in
    subst (λ (r : State). IsAtEnd r end) (sym c.in_ok-prepare.ensures.state)
    (joined-returned end 0 h (ap (λ (r : WorldRank). r.number) t.name.1) t.name.2 t.name.3 t.taken (λ p _. t.pushed p) (t.pushed 0))

pub returns-in-Some-clause-takes : goal.returns-in-Some-clause-takes
returns-in-Some-clause-takes c =
    let t = c.in-Some.ensures in let peer = c.in_ok-peer.peer in
    rw (sym c.self.view_is) (record {
      came = Some (peer, c.in-Some.item);
      takes = record {
        runs = λ _. sym c.is_stopped.ensures ∙ c.if-is_stopped.false;
        only = c.take.ensures ∙ ap (λ (r : State). logged r (Took peer c.in-Some.item)) c.in_ok-prepare.ensures.state;
        rooms = t.rooms;
        told = refl;
        same = record { end = t.name.0; board = refl; known = refl };
      };
      first = (c.in_ok-peer.ensures.there.0, t.first);
      none_seen = λ none. absurd (cc);
      own_taken = λ none. absurd (cc);
      others_seen = t.others_seen;
      same_turn = t.next;
    })
