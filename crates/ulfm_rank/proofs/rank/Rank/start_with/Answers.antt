use Rattle.std.proofs.Common.{◌≡◌, ℕ, [], ◌∷◌, ap, arith, ◌∙◌, None, nat_eq}
use Rattle.ulfm_rank.proofs.Common.{lookup, get}
use Rattle.ulfm_log.proofs.Counts.{none_counted}
use Rattle.ulfm_rank.proofs.Whole.{follows_start, state_start}
use Rattle.ulfm_rank.proofs.rank.Rank.start_with.Goals as goal
use Rattle.ulfm_rank.proofs.rank.Rank.start_with.Goals.{After-result-1}

empty : (c : After-result-1) → c.reserve.new.self.items ≡ []
empty c = c.reserve.ensures.items ∙ c.new-log.ensures.items

pub invariant_of-result-2 : goal.invariant_of-result-2
invariant_of-result-2 c =
    let none : (k : ℕ) → get nat_eq c.new-5.result k ≡ None = λ k. ap (lookup (nat_eq k)) c.new-5.ensures.empty in
    let size = c.in_ok-world.ensures.ok in
    record {
      follows = rw (empty c)
          (follows_start c.args.ranks c.args.me c.new-3.result (get nat_eq c.new-5.result) c.new-4.result c.in_ok-communicators.communicators c.in_ok-outboxes.outboxes.boxes
          size.1 c.if-me-ranks.false c.new-3.ensures none c.new-4.ensures.none_known c.new-4.ensures.none_acknowledged c.new-4.ensures.none_revoked
          (c.in_ok-communicators.ensures.made ∙ ap (λ g. (0, g) ∷ []) size.2) c.in_ok-communicators.ensures.dups c.in_ok-outboxes.ensures);
      places = omega (arith, c.in_ok-reserve.ensures.ok, c.reserve.ensures.len, c.new-log.ensures.len, c.new-5.ensures.len);
      tells = rw (empty c) (record { rows = c.new-6.ensures.items; counts = none_counted c.new-7.result c.new-7.ensures.agreements c.new-7.ensures.shrinks });
      countable = c.reserve.ensures.countable;
    }

pub returns-clause-started : goal.returns-clause-started
returns-clause-started c = state_start c.args.ranks c.args.me c.reserve.new.self.items c.in_ok-outboxes.outboxes.boxes c.reserve.new.self.keeps c.args.keeps (empty c) c.in_ok-outboxes.ensures (c.reserve.ensures.keeps ∙ c.new-log.ensures.keeps)
