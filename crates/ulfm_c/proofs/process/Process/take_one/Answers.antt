use Rattle.std.proofs.Common.{ap, sym, subst, refl, ◌∙◌, arith, Some}
use Rattle.ulfm_rank.proofs.Joining.{joined-returned, joined-taken}
use Rattle.ulfm_rank.proofs.Signed.{from_signed}
use Rattle.ulfm_log.specs.State.{logged}
use Rattle.ulfm_log.specs.declared.entry.Entry.TheVariants.{Took}
use Rattle.ulfm_base.specs.declared.rank.WorldRank.{WorldRank}
use Rattle.ulfm_log.specs.State.{State}
use Rattle.ulfm_c.specs.View.{IsAtEnd}
use Rattle.ulfm_c.proofs.process.Process.take_one.Goals as goal

pub take-requires-clause-from : goal.take-requires-clause-from
take-requires-clause-from c = from_signed c.in-Some.source c.in-Some.item c.in-Some.ensures.sender.1

pub invariant_of-self-in-Some : goal.invariant_of-self-in-Some
invariant_of-self-in-Some c =
    let t = c.in-Some.ensures in let h = c.self.invariant in let end = c.pop_now.new.self in
    let only = c.take.ensures ∙ ap (λ (r : State). logged r (Took c.in-Some.source c.in-Some.item)) c.in_ok-prepare.ensures.state in
    subst (λ (r : State). IsAtEnd r end) (sym only)
    (joined-taken end c.in-Some.source c.in-Some.item (omega (arith, t.sender.0, h.counted)) h (ap (λ (r : WorldRank). r.number) t.name.1) t.name.2 t.name.3 t.pushed t.taken.0 t.taken.1)

pub invariant_of-self-in-None : goal.invariant_of-self-in-None
invariant_of-self-in-None c =
    let t = c.in-None.ensures in let h = c.self.invariant in let end = c.pop_now.new.self in
    subst (λ (r : State). IsAtEnd r end) (sym c.in_ok-prepare.ensures.state)
    (joined-returned end 0 h (ap (λ (r : WorldRank). r.number) t.name.1) t.name.2 t.name.3 t.taken (λ p _. t.pushed p) (t.pushed 0))

pub returns-in-Some-clause-takes : goal.returns-in-Some-clause-takes
returns-in-Some-clause-takes c =
    let t = c.in-Some.ensures in
    rw (sym c.self.view_is) (record {
      came = Some (c.in-Some.source, c.in-Some.item);
      takes = record {
        runs = λ _. sym c.is_stopped.ensures ∙ c.if-is_stopped.false;
        only = c.take.ensures ∙ ap (λ (r : State). logged r (Took c.in-Some.source c.in-Some.item)) c.in_ok-prepare.ensures.state;
        rooms = t.rooms;
        told = refl;
        same = record { end = t.name.0; board = refl; known = refl };
      };
      in_turn = t.in_turn;
      same_turn = λ none. absurd (cc);
      none_seen = λ none. absurd (cc);
      own_taken = λ none. absurd (cc);
    })
