use Rattle.std.proofs.Common.{◌≡◌, ℕ, ◌++◌, List, Option, Some, None, Contains, MatchOption, inl, inr, refl, sym}
use Rattle.ulfm_match.proofs.Common.{Contains-append_cases, Contains-append_left, Contains-append_right, Letter, NoneOf, in_order}
use Rattle.ulfm_match.proofs.Listed.{listed, unlisted}
use Rattle.ulfm_match.proofs.taking.numbered.Goals as goal

-- what is found among the recent entries is found among all, where no early one has the number
among_all : {R : Type 0} (seen : R → Letter) (early recent : List (ℕ × Letter)) (n : ℕ) (found : Option R) → ((letter : Letter) → Contains early (n, letter) → ⊥) → MatchOption found (NoneOf (λ (y : ℕ × Letter). y.0 ≡ n) recent) (λ r. Contains recent (n, seen r)) → MatchOption found ((letter : Letter) → Contains (early ++ recent) (n, letter) → ⊥) (λ r. Contains (early ++ recent) (n, seen r))
among_all seen early recent n None none is = λ letter c. elim (Contains-append_cases early recent (n, letter) c) [ inl d ↦ none letter d | inr d ↦ is (n, letter) d refl ]
among_all seen early recent n (Some r) none is = Contains-append_right early recent (n, seen r) is

pub returns-in-Some : goal.returns-in-Some
returns-in-Some c =
    let pool = c.args.pool.now in
    Contains-append_left (in_order pool.early.entries) pool.recent.items _ (listed pool.early c.requires.1.indexed.unique c.args.number c.in-Some.letter.now (sym c.in-Some.ensures.value))

pub returns-in-None : goal.returns-in-None
returns-in-None c =
    let pool = c.args.pool.now in
    among_all (λ r. r.now) (in_order pool.early.entries) pool.recent.items c.args.number c.recent_numbered.result
    (λ letter d. let f = unlisted pool.early c.requires.1.indexed.unique (c.args.number, letter) d in let e = c.in-None.ensures.value in cc) c.recent_numbered.ensures
