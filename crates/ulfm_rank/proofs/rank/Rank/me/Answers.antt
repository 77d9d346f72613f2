use Rattle.std.proofs.Common.{subst}
use Rattle.ulfm_rank.proofs.Common.{RankView, IsState, IsPaired}
use Rattle.ulfm_log.proofs.Held.{state-sound}
use Rattle.ulfm_rank.proofs.Pairings.{paired}
use Rattle.ulfm_rank.proofs.rank.Rank.me.Goals as goal

pub returns-clause-sound : goal.returns-clause-sound
returns-clause-sound c =
    let a = c.self.inside in
    subst (λ (v : RankView). IsState v.state) c.self.view_is (state-sound a.ranks a.me.number a.log.items a.outboxes.boxes a.log.keeps c.self.invariant.follows.small c.self.invariant.follows.outboxes)

pub returns-clause-paired : goal.returns-clause-paired
returns-clause-paired c =
    let a = c.self.inside in
    let t = c.self.invariant.follows.in_step in
    subst (λ (v : RankView). IsPaired v.state.log) c.self.view_is (paired a.log.items t.pairing t.tracks.well_formed t.tracks.lawful)
