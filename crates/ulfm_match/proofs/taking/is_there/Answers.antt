use Rattle.std.proofs.Common.{refl, inl, inr}
use Rattle.ulfm_match.proofs.Common.{Contains-append_cases, Contains-append_left, Contains-append_right, in_order}
use Rattle.ulfm_match.proofs.Listed.{listed_is}
use Rattle.ulfm_match.proofs.taking.is_there.Goals as goal

pub returns-then-contains_key : goal.returns-then-contains_key
returns-then-contains_key c =
    let pool = c.args.pool.now in (
      λ t. let e = (listed_is pool.early c.requires.1.indexed.unique c.args.number c.contains_key.ensures).0 c.if-contains_key.true in (e.0, Contains-append_left (in_order pool.early.entries) pool.recent.items _ e.1),
      λ e. refl,
    )

pub returns : goal.returns
returns c =
    let pool = c.args.pool.now in (
      λ t. let e = c.is_recent.ensures.0 t in (e.0, Contains-append_right (in_order pool.early.entries) pool.recent.items _ e.1),
      λ e. elim (Contains-append_cases (in_order pool.early.entries) pool.recent.items _ e.1) [
        | inl d ↦ absurd (let q = (listed_is pool.early c.requires.1.indexed.unique c.args.number c.contains_key.ensures).1 (e.0, d) in let f = c.if-contains_key.false in cc)
        | inr d ↦ c.is_recent.ensures.1 (e.0, d)
      ],
    )
