use Rattle.std.proofs.Common.{ap, subst, refl, sym, ◌∙◌}
use Rattle.ulfm_match.proofs.Common.{Matching, Tracks, all_of, and_parts}
use Rattle.ulfm_match.proofs.PostWaits.{post_waits}
use Rattle.ulfm_match.proofs.PostTakes.{post_takes}
use Rattle.ulfm_match.proofs.Pooled.{higher_pool, pushed_pool}
use Rattle.ulfm_match.proofs.matcher.Matcher.post.Goals as goal

pub invariant_of-self : goal.invariant_of-self
invariant_of-self c = record {
  of_waiting = higher_pool c.self.invariant.of_waiting;
  of_kept = higher_pool (c.take_letter.ensures.pool _ c.self.invariant.of_kept);
  room = λ r. let m = c.self.invariant.room r in (m.0, c.take_letter.ensures.place m.1);
}

pub invariant_of-self-in-None : goal.invariant_of-self-in-None
invariant_of-self-in-None c = record {
  of_waiting = pushed_pool c.self.invariant.of_waiting _ c.args.pattern c.add-ready.ensures.wild c.add-ready.ensures.early c.add-ready.ensures.buckets c.add-ready.ensures.recent (c.self.invariant.room (and_parts c.self.inside.ready c.self.inside.cleared.room (ap (λ (s : Matching). s.prepared) c.self.view_is ∙ c.requires.prepared)).0).0.1;
  of_kept = higher_pool (c.take_letter.ensures.pool _ c.self.invariant.of_kept);
  room = λ r. let m = c.self.invariant.room (and_parts c.self.inside.ready c.self.inside.cleared.room (ap (λ (s : Matching). s.prepared) c.self.view_is ∙ c.requires.prepared)).0 in (c.add-ready.ensures.place r, c.take_letter.ensures.place m.1);
}

pub returns-in-Some-clause-tracks : goal.returns-in-Some-clause-tracks
returns-in-Some-clause-tracks c h r t =
    let x = c.in-Some.ensures.taken in
    post_takes h r _ c.args.pattern (subst (Tracks h r) (sym c.self.view_is) t) ((t.remains.cleared _).0 c.requires.open) (all_of c.take_letter.new.pool) (x.0, c.in-Some.letter) x.1
    _ refl refl refl refl

pub returns-in-None-clause-tracks : goal.returns-in-None-clause-tracks
returns-in-None-clause-tracks c h r t =
    post_waits h r _ c.args.pattern (subst (Tracks h r) (sym c.self.view_is) t) ((t.remains.cleared _).0 c.requires.open)
    c.in-None.ensures.taken
    _ refl
    c.add-ready.ensures.all
    (ap all_of c.in-None.ensures.idle) refl
