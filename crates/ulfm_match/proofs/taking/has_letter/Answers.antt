use Rattle.std.proofs.Common.{ℕ, refl, sym, ◌∙◌, inl, inr}
use Rattle.ulfm_match.proofs.Common.{Admits, Contains-append_cases, Contains-append_left, Contains-append_right, Letter, Passes, StandsFrom, in_order}
use Rattle.ulfm_match.proofs.Bucketed.{finds_is, finds_some}
use Rattle.ulfm_match.proofs.First.{found_is, found_some}
use Rattle.ulfm_match.proofs.Indexed.{kept_found}
use Rattle.ulfm_match.proofs.Listed.{listed, unlisted}
use Rattle.ulfm_match.proofs.taking.has_letter.Goals as goal

pub first_kept-requires : goal.first_kept-requires
first_kept-requires c = c.requires.1.indexed.rises

pub returns-then-is_some : goal.returns-then-is_some
returns-then-is_some c =
    let pool = c.args.pool.now in
    let p = c.args.pattern.now in
    let Q : ℕ → Type 0 = Passes (λ (l : Letter). Admits p l.envelope) pool.early in
    let M : ℕ → Type 0 = StandsFrom p pool.buckets in (
      λ t.
          let x = finds_is M Q c.first_kept.result c.first_kept.ensures (sym c.is_some.ensures ∙ c.if-is_some.true) in
          ((x.0, x.1.entry), Contains-append_left (in_order pool.early.entries) pool.recent.items _ (listed pool.early c.requires.1.indexed.unique x.0 x.1.entry x.1.found), x.1.passes),
      λ e. refl,
    )

pub returns : goal.returns
returns c =
    let pool = c.args.pool.now in
    let p = c.args.pattern.now in
    let i = c.requires.1.indexed in
    let Q : ℕ → Type 0 = Passes (λ (l : Letter). Admits p l.envelope) pool.early in
    let M : ℕ → Type 0 = StandsFrom p pool.buckets in (
      λ t. let x = found_is (λ (y : ℕ × Letter). Admits p y.1.envelope) pool.recent.items c.first_letter.result c.first_letter.ensures (sym c.is_some-2.ensures ∙ t) in (x.0, Contains-append_right (in_order pool.early.entries) pool.recent.items _ x.1, x.2),
      λ e. elim (Contains-append_cases (in_order pool.early.entries) pool.recent.items e.0 e.1) [
        | inl d ↦
            let q : Q e.0.0 = record { entry = e.0.1; found = unlisted pool.early i.unique e.0 d; passes = e.2 } in
            absurd (let s = c.is_some.ensures ∙ finds_some M Q c.first_kept.result c.first_kept.ensures e.0.0 (kept_found i e.0.0 q) q in let f = c.if-is_some.false in cc)
        | inr d ↦ c.is_some-2.ensures ∙ found_some (λ (y : ℕ × Letter). Admits p y.1.envelope) pool.recent.items c.first_letter.result c.first_letter.ensures e.0 d e.2
      ],
    )
