use Rattle.std.proofs.Common.{◌++◌, refl, ap, sym, ◌∙◌, subst, arith, Contains}
use Rattle.ulfm_match.proofs.Common.{IsPool, IsKeyOf, Letter, Pool, in_order, numbers_at}
use Rattle.ulfm_match.proofs.Inserted.{on_ok}
use Rattle.ulfm_match.proofs.Pooled.{roomy_pool, settled_absent, settled_all, settled_pool, unsettled_pool}
use Rattle.ulfm_match.proofs.settling.settle_letter.Goals as goal

pub returns-in_err-reserve-clause-pool : goal.returns-in_err-reserve-clause-pool
returns-in_err-reserve-clause-pool c count i = roomy_pool i _ refl c.reserve.ensures.entries c.reserve.ensures.unique refl refl

pub returns-in_default-clause-pool : goal.returns-in_default-clause-pool
returns-in_default-clause-pool c count i = roomy_pool i _ refl c.reserve.ensures.entries c.reserve.ensures.unique refl (sym c.in_default.ensures.items)

pub returns-in-Ok-clause-all : goal.returns-in-Ok-clause-all
returns-in-Ok-clause-all c =
    let roomy : Pool Letter = record { early = c.reserve.new.self; buckets = c.args.pool.now.buckets; recent = c.args.pool.now.recent; wild = c.args.pool.now.wild } in
    let i : IsPool IsKeyOf c.requires.0 roomy = roomy_pool c.requires.1 roomy refl c.reserve.ensures.entries c.reserve.ensures.unique refl refl in
    let room = on_ok c.insert.result (c.insert.ensures.succeeds (omega (arith, c.in_ok-reserve.ensures.ok))) in
    settled_all i c.in-Some.number c.in-Some.letter c.pop_front.new.self.items c.in-Some.ensures.items c.insert.new.self c.insert.ensures.unique (room c.insert.ensures.updates).0
    ∙ ap (λ es. in_order es ++ c.args.pool.now.recent.items) c.reserve.ensures.entries

pub returns-in-Ok-clause-pool : goal.returns-in-Ok-clause-pool
returns-in-Ok-clause-pool c count i =
    let roomy : Pool Letter = record { early = c.reserve.new.self; buckets = c.args.pool.now.buckets; recent = c.args.pool.now.recent; wild = c.args.pool.now.wild } in
    let i' : IsPool IsKeyOf count roomy = roomy_pool i roomy refl c.reserve.ensures.entries c.reserve.ensures.unique refl refl in
    let room = on_ok c.insert.result (c.insert.ensures.succeeds (omega (arith, c.in_ok-reserve.ensures.ok))) in
    settled_pool i' c.in-Some.number c.in-Some.letter c.pop_front.new.self.items c.in-Some.ensures.items _ (λ d. cc) c.insert.ensures.unique (room c.insert.ensures.updates).0 c.put_letter.ensures.grows
    (λ k own. subst (λ j. Contains (numbers_at c.put_letter.new.buckets j) c.in-Some.number) (sym own.1) (c.in-Ok.ensures.put own.0))
    refl

pub returns-in-Err-clause-pool : goal.returns-in-Err-clause-pool
returns-in-Err-clause-pool c count i =
    unsettled_pool i c.in-Some.number c.in-Some.letter c.pop_front.new.self.items c.in-Some.ensures.items _ c.put_letter.new.buckets refl c.reserve.ensures.entries c.reserve.ensures.unique c.put_letter.ensures.grows c.forget_letter.ensures
    (c.push_front_reserved.ensures.items ∙ sym c.in-Some.ensures.items)

pub forget_letter-requires : goal.forget_letter-requires
forget_letter-requires c = settled_absent c.requires.1 c.in-Some.number c.in-Some.letter c.pop_front.new.self.items c.in-Some.ensures.items c.reserve.new.self c.reserve.ensures.entries
