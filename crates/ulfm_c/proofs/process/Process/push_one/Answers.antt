use Rattle.std.proofs.Common.{◌≡◌, ◌≤◌, ◌+◌, ◌==◌, ℕ, [], ap, refl, sym, subst, ◌∙◌, arith, inl, inr, cond}
use Rattle.std.proofs.lemmas.Bool.{cases_eq, cases_lt, eq-eqb, false≢true}
use Rattle.std.specs.Prelude.{slice_index_or, map}
use Rattle.ulfm_base.specs.Items.{ComesFrom}
use Rattle.ulfm_carrier.specs.Lanes.{known_room, seen_in}
use Rattle.ulfm_rank.proofs.Joining.{joined-pushed, joined-returned}
use Rattle.ulfm_rank.proofs.Signed.{front_signed}
use Rattle.ulfm_log.proofs.States.{comes-back}
use Rattle.ulfm_log.specs.State.{RankView, outbox}
use Rattle.ulfm_c.proofs.Pushing.{box-apart, same-room}
use Rattle.ulfm_base.specs.declared.rank.WorldRank.{WorldRank}
use Rattle.ulfm_log.specs.State.{State}
use Rattle.ulfm_c.specs.View.{IsAtEnd, ReadyView}
use Rattle.ulfm_c.proofs.process.Process.push_one.Goals as goal

pub push_now-requires-clause-item : goal.push_now-requires-clause-item
push_now-requires-clause-item c =
    let h = c.self.invariant in
    subst (λ (m : ℕ). ComesFrom m c.in-Some.item) (sym h.placed) (front_signed c.self.inside.rank.state c.args.dest c.in-Some.item _ h.signed c.in-Some.ensures.leaves.front)

pub invariant_of-self-in-Ok : goal.invariant_of-self-in-Ok
invariant_of-self-in-Ok c =
    let t = c.in-Ok.ensures in let h = c.self.invariant in
    let inside = ap (λ (v : ReadyView). v.view.rank.ranks) c.self.view_is in
    joined-pushed c.push_now.new.self h (omega (arith, c.requires, inside)) c.in-Some.ensures.leaves (ap (λ (r : WorldRank). r.number) t.name.1) t.name.2 t.name.3 t.taken t.others t.pushed

pub returns-in-Ok-clause-pushes : goal.returns-in-Ok-clause-pushes
returns-in-Ok-clause-pushes c =
    let t = c.in-Ok.ensures in let leaves = c.in-Some.ensures.leaves in
    rw (sym c.self.view_is) (record {
      went = λ e. (c.in-Some.item, leaves);
      stays = λ e. absurd (false≢true (sym e));
      stuck = λ e. absurd (false≢true (sym e));
      rooms = λ p. elim (cases_eq p c.args.dest) [
        | inl at ↦ subst (λ i. known_room c.self.inside.end i ≤ known_room c.push_now.new.self i + cond (c.args.dest == i) 1 0) (sym at) (omega (arith, t.one_place, ap {B = ℕ} (λ b. cond b 1 0) (eq-eqb c.args.dest c.args.dest refl)))
        | inr other ↦ omega (arith, t.other_rooms p other)
      ];
      others = λ p other stuck. elim stuck [
        | inl none ↦ inl (box-apart c.self.inside.rank.state c.take_out.new.self.state c.args.dest p c.in-Some.item leaves other ∙ none)
        | inr full ↦ inr (t.other_rooms p other ∙ full)
      ];
      takes_none = record { seen = λ s. ap (λ ins. slice_index_or (map seen_in ins.items) s []) t.inbox.0; next = t.inbox.1; same = record { end = t.name.0; board = refl; known = refl } };
    })

pub invariant_of-self-in-Err : goal.invariant_of-self-in-Err
invariant_of-self-in-Err c =
    let t = c.in-Err.ensures in let h = c.self.invariant in let end = c.push_now.new.self in
    let back : c.put_back.new.rank.state ≡ c.self.inside.rank.state = c.put_back.ensures.state ∙ comes-back c.self.inside.rank.state c.take_out.new.self.state c.args.dest c.in-Some.item c.in-Some.ensures.leaves in
    subst (λ (r : State). IsAtEnd r end) (sym back) (joined-returned end c.args.dest h (ap (λ (r : WorldRank). r.number) t.name.1) t.name.2 t.name.3 t.taken t.others t.pushed.1)

pub returns-in-Err-clause-pushes : goal.returns-in-Err-clause-pushes
returns-in-Err-clause-pushes c =
    let t = c.in-Err.ensures in
    let back : c.put_back.new.rank.state ≡ c.self.inside.rank.state = c.put_back.ensures.state ∙ comes-back c.self.inside.rank.state c.take_out.new.self.state c.args.dest c.in-Some.item c.in-Some.ensures.leaves in
    rw (sym c.self.view_is) (record {
      went = λ e. absurd (false≢true e);
      stays = λ e. back;
      stuck = λ e. inr t.full;
      rooms = λ p. elim (cases_eq p c.args.dest) [
        | inl at ↦ subst (λ i. known_room c.self.inside.end i ≤ known_room c.push_now.new.self i + 0) (sym at) (elim (cases_lt 0 (known_room c.self.inside.end c.args.dest)) [
          | inl some ↦ absurd (false≢true (t.succeeds some))
          | inr none ↦ omega (arith, none)
        ])
        | inr other ↦ omega (arith, t.other_rooms p other)
      ];
      others = λ p other stuck. elim stuck [
        | inl none ↦ inl (ap (λ (r : State). outbox r p) back ∙ none)
        | inr full ↦ inr (t.other_rooms p other ∙ full)
      ];
      takes_none = record { seen = λ s. ap (λ ins. slice_index_or (map seen_in ins.items) s []) t.inbox.0; next = t.inbox.1; same = record { end = t.name.0; board = refl; known = refl } };
    })

pub returns-in_default-clause-pushes : goal.returns-in_default-clause-pushes
returns-in_default-clause-pushes c =
    let same : c.take_out.new.self.state ≡ c.self.inside.rank.state = ap (λ (r : RankView). r.state) c.in_default.ensures.unchanged in
    rw (sym c.self.view_is) (record {
      went = λ e. absurd (false≢true e);
      stays = λ e. same;
      stuck = λ e. inl (ap (λ (r : State). outbox r c.args.dest) same ∙ c.in_default.ensures.none);
      rooms = λ p. omega arith;
      others = λ p other stuck. elim stuck [
        | inl none ↦ inl (ap (λ (r : State). outbox r p) same ∙ none)
        | inr full ↦ inr full
      ];
      takes_none = record { seen = λ s. refl; next = refl; same = record { end = refl; board = refl; known = refl } };
    })

pub returns-in-Ok-clause-room : goal.returns-in-Ok-clause-room
returns-in-Ok-clause-room c = same-room c.self.inside.rank c.take_out.new.self c.take_out.ensures.prepared c.take_out.ensures.place ∙ ap (λ (v : ReadyView). v.ready) c.self.view_is

pub returns-in-Err-clause-room : goal.returns-in-Err-clause-room
returns-in-Err-clause-room c =
    same-room c.self.inside.rank c.put_back.new.rank (c.put_back.ensures.prepared ∙ c.take_out.ensures.prepared) (c.put_back.ensures.place ∙ c.take_out.ensures.place)
    ∙ ap (λ (v : ReadyView). v.ready) c.self.view_is

pub returns-in_default-clause-room : goal.returns-in_default-clause-room
returns-in_default-clause-room c = same-room c.self.inside.rank c.take_out.new.self c.take_out.ensures.prepared c.take_out.ensures.place ∙ ap (λ (v : ReadyView). v.ready) c.self.view_is
