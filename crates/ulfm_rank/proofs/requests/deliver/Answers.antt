use Rattle.std.proofs.Common.{subst, nat_eq}
use Rattle.ulfm_rank.proofs.Common.{Paired, changed, Changes, get}
use Rattle.ulfm_rank.proofs.Steps.{come_kept, come_paired}
use Rattle.ulfm_rank.proofs.requests.deliver.Goals as goal

pub returns-in-Kept-clause-tracks : goal.returns-in-Kept-clause-tracks
returns-in-Kept-clause-tracks c n entries h r t table =
    (r, c.in-Kept.ensures.tracks h r t, come_kept n entries h r t.lawful c.args.letter _ table)

pub returns-in-Paired-clause-tracks : goal.returns-in-Paired-clause-tracks
returns-in-Paired-clause-tracks c n entries h r t table =
    let a = c.in-Paired.ensures.tracks h r t in
    let find = get nat_eq c.args.requests.now in
    let find' = get nat_eq c.set_fate.new.requests in (
      _,
      a.tracks,
      come_paired n entries h r t.lawful c.args.letter find table a.place a.pattern c.in-Paired.id.number a.posted a.numbered a.tracks.lawful find'
          (subst (λ l. Changes (changed c.in-Paired.id.number (Paired l)) find find') c.in-Paired.ensures.letter c.set_fate.ensures.change),
    )
