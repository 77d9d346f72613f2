use Rattle.std.proofs.Common.{◌++◌, refl, ap, sym, ◌∙◌, subst, arith, Contains}
use Rattle.ulfm_match.proofs.Common.{IsPool, IsKeyOfReceive, IsWild, Pattern, Pool, in_order, numbers_at}
use Rattle.ulfm_match.proofs.Indexed.{more_named}
use Rattle.ulfm_match.proofs.Inserted.{on_ok}
use Rattle.ulfm_match.proofs.Pooled.{roomy_pool, settled_absent, settled_all, settled_pool, unsettled_pool}
use Rattle.ulfm_match.proofs.settling.settle_receive.Goals as goal

pub returns-in_err-reserve-clause-pool : goal.returns-in_err-reserve-clause-pool
returns-in_err-reserve-clause-pool c count i = roomy_pool i _ refl c.reserve.ensures.entries c.reserve.ensures.unique refl refl

pub returns-in_default-clause-pool : goal.returns-in_default-clause-pool
returns-in_default-clause-pool c count i = roomy_pool i _ refl c.reserve.ensures.entries c.reserve.ensures.unique refl (sym c.in_default.ensures.items)

pub returns-in-Ok-clause-all : goal.returns-in-Ok-clause-all
returns-in-Ok-clause-all c =
    let roomy : Pool Pattern = record { early = c.reserve.new.self; buckets = c.args.pool.now.buckets; recent = c.args.pool.now.recent; wild = c.args.pool.now.wild } in
    let i : IsPool IsKeyOfReceive c.requires.0 roomy = roomy_pool c.requires.1 roomy refl c.reserve.ensures.entries c.reserve.ensures.unique refl refl in
    let room = on_ok c.insert.result (c.insert.ensures.succeeds (omega (arith, c.in_ok-reserve.ensures.ok))) in
    settled_all i c.in-Some.number c.in-Some.pattern c.pop_front.new.self.items c.in-Some.ensures.items c.insert.new.self c.insert.ensures.unique (room c.insert.ensures.updates).0
    ∙ ap (λ es. in_order es ++ c.args.pool.now.recent.items) c.reserve.ensures.entries

pub returns-in-Ok-clause-pool : goal.returns-in-Ok-clause-pool
returns-in-Ok-clause-pool c count i =
    let roomy : Pool Pattern = record { early = c.reserve.new.self; buckets = c.args.pool.now.buckets; recent = c.args.pool.now.recent; wild = c.args.pool.now.wild } in
    let i' : IsPool IsKeyOfReceive count roomy = roomy_pool i roomy refl c.reserve.ensures.entries c.reserve.ensures.unique refl refl in
    let room = on_ok c.insert.result (c.insert.ensures.succeeds (omega (arith, c.in_ok-reserve.ensures.ok))) in
    settled_pool i' c.in-Some.number c.in-Some.pattern c.pop_front.new.self.items c.in-Some.ensures.items _
    (λ d. more_named c.reserve.new.self c.insert.new.self c.in-Some.number c.in-Some.pattern (room c.insert.ensures.updates).0 (c.may_be_wild-pool.ensures.early d) (λ k own w. c.may_be_wild-pool.ensures.other d (subst IsWild own w)))
    c.insert.ensures.unique (room c.insert.ensures.updates).0 c.put.ensures.grows
    (λ k own. subst (λ j. Contains (numbers_at c.put.new.buckets j) c.in-Some.number) (sym own) (subst (λ j. Contains (numbers_at c.put.new.buckets j) c.in-Some.number) c.key_of.ensures c.in-Ok.ensures.put))
    refl

pub returns-in-Err-clause-pool : goal.returns-in-Err-clause-pool
returns-in-Err-clause-pool c count i =
    unsettled_pool i c.in-Some.number c.in-Some.pattern c.pop_front.new.self.items c.in-Some.ensures.items _ c.put.new.buckets refl c.reserve.ensures.entries c.reserve.ensures.unique c.put.ensures.grows c.forget.ensures
    (c.push_front_reserved.ensures.items ∙ sym c.in-Some.ensures.items)

pub forget-requires : goal.forget-requires
forget-requires c = settled_absent c.requires.1 c.in-Some.number c.in-Some.pattern c.pop_front.new.self.items c.in-Some.ensures.items c.reserve.new.self c.reserve.ensures.entries

pub may_be_wild-pool-requires : goal.may_be_wild-pool-requires
may_be_wild-pool-requires c =
    let roomy : Pool Pattern = record { early = c.reserve.new.self; buckets = c.args.pool.now.buckets; recent = c.args.pool.now.recent; wild = c.args.pool.now.wild } in
    let i : IsPool IsKeyOfReceive c.requires.0 roomy = roomy_pool c.requires.1 roomy refl c.reserve.ensures.entries c.reserve.ensures.unique refl refl in
    i.none_wild
