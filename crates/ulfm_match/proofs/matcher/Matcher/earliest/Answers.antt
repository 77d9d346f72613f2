use Rattle.std.proofs.Common.{◌≡◌, ℕ, sym, subst, Option, Some, None, false, Contains, MatchOption}
use denote.Bor.{Bor}
use Rattle.ulfm_match.specs.Calls.{TracksProbe}
use Rattle.ulfm_match.proofs.Common.{Admits, IsAscending, Letter, Matching, NoneOf, Pattern, is_cleared}
use Rattle.ulfm_match.proofs.Least.{IsLeast}
use Rattle.ulfm_match.proofs.Pooled.{all_ascending}
use Rattle.ulfm_match.proofs.Probed.{would_take}
use Rattle.ulfm_match.proofs.matcher.Matcher.earliest.Goals as goal

would : (s : Matching) (p : Pattern) → is_cleared s p.context.number ≡ false → IsAscending s.kept → (found : Option (Bor Letter)) → MatchOption found (NoneOf (λ (y : ℕ × Letter). Admits p y.1.envelope) s.kept) (λ letter. (n : ℕ) × IsLeast (λ (y : ℕ × Letter). Admits p y.1.envelope) s.kept (n, letter.now))
    → MatchOption found ((y : ℕ × Letter) → Contains s.kept y → Admits p y.1.envelope → ⊥) (λ letter. (new : Matching) × TracksProbe p s (Some letter.now) new)
would s p open' ascending None h = h
would s p open' ascending (Some letter) h = would_take s p open' ascending (h.0, letter.now) h.1

pub returns : goal.returns
returns c =
    let is = c.self.view_is in
    would c.args.self.now c.args.pattern.now c.requires.open (subst (λ (s : Matching). IsAscending s.kept) is (all_ascending c.self.invariant.of_kept)) c.earliest_letter.result (rw (sym is) c.earliest_letter.ensures)
