-- Ranks, contexts and tags of the same number are the same.
use Rattle.std.proofs.Common.{◌≡◌, ℕ, ◌<◌, ap, subst}
use Rattle.std.proofs.Props.{props}
use Rattle.ulfm_base.specs.declared.context.Context.{Context}
use Rattle.ulfm_base.specs.declared.rank.WorldRank.{WorldRank}
use Rattle.ulfm_base.specs.declared.tag.Tag.{Tag}

-- ranks are equal where their numbers are
pub same_rank : (a b : WorldRank) → a.number ≡ b.number → a ≡ b
same_rank a b e = at b.number e b.in_range
  where
    at : (n : ℕ) → a.number ≡ n → (h : n < 8) → ◌≡◌ {A = WorldRank} a (record { number = n; in_range = h })
    at n e h =
        let F : ℕ → Type 0 = λ n. (h : n < 8) → ◌≡◌ {A = WorldRank} a (record { number = n; in_range = h }) in
        subst F e (λ h. ap (λ (k : a.number < 8). let r : WorldRank = record { number = a.number; in_range = k } in r) (let one : (x y : a.number < 8) → x ≡ y = hlevel props in one a.in_range h)) h

-- contexts are equal where their numbers are
pub same_context : (a b : Context) → a.number ≡ b.number → a ≡ b
same_context a b e = at b.number e b.in_range
  where
    at : (n : ℕ) → a.number ≡ n → (h : n < 35184372088832) → ◌≡◌ {A = Context} a (record { number = n; in_range = h })
    at n e h =
        let F : ℕ → Type 0 = λ n. (h : n < 35184372088832) → ◌≡◌ {A = Context} a (record { number = n; in_range = h }) in
        subst F e (λ h. ap (λ (k : a.number < 35184372088832). let r : Context = record { number = a.number; in_range = k } in r) (let one : (x y : a.number < 35184372088832) → x ≡ y = hlevel props in one a.in_range h)) h

-- tags are equal where their numbers are
pub same_tag : (a b : Tag) → a.number ≡ b.number → a ≡ b
same_tag a b e = at b.number e b.in_range
  where
    at : (n : ℕ) → a.number ≡ n → (h : n < 32768) → ◌≡◌ {A = Tag} a (record { number = n; in_range = h })
    at n e h =
        let F : ℕ → Type 0 = λ n. (h : n < 32768) → ◌≡◌ {A = Tag} a (record { number = n; in_range = h }) in
        subst F e (λ h. ap (λ (k : a.number < 32768). let r : Tag = record { number = a.number; in_range = k } in r) (let one : (x y : a.number < 32768) → x ≡ y = hlevel props in one a.in_range h)) h
