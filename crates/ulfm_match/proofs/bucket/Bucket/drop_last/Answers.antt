use Rattle.std.proofs.Common.{◌≢◌, ℕ, nat_eq, IsSome}
use Rattle.ulfm_match.proofs.Common.{get}
use Rattle.ulfm_match.proofs.Bucketed.{gone_other, sweeps_both, sweeps_more, sweeps_rest}
use Rattle.ulfm_match.proofs.bucket.Bucket.drop_last.Goals as goal

pub returns-then-not-pop_back_where : goal.returns-then-not-pop_back_where
returns-then-not-pop_back_where g c =
    let L : ℕ → Type 0 = λ n. IsSome (get nat_eq c.args.live.now n) in
    let lives : (m : ℕ) → L m → m ≢ c.args.number = gone_other (get nat_eq c.args.live.now) c.args.number c.requires in
    sweeps_rest L c.args.self.now.first _ _ (sweeps_more L (λ m. m ≢ c.args.number) _ _ lives c.pop_back_where.ensures)

pub returns-then-self-gt0 : goal.returns-then-self-gt0
returns-then-self-gt0 g c =
    let L : ℕ → Type 0 = λ n. IsSome (get nat_eq c.args.live.now n) in
    let lives : (m : ℕ) → L m → m ≢ c.args.number = gone_other (get nat_eq c.args.live.now) c.args.number c.requires in
    sweeps_rest L c.args.self.now.first _ _
    (sweeps_both L _ _ _ (sweeps_more L (λ m. m ≢ c.args.number) _ _ lives c.pop_back_where.ensures) c.trim_back-dropped.ensures)

pub returns-else-self-gt0 : goal.returns-else-self-gt0
returns-else-self-gt0 g c =
    let L : ℕ → Type 0 = λ n. IsSome (get nat_eq c.args.live.now n) in
    let lives : (m : ℕ) → L m → m ≢ c.args.number = gone_other (get nat_eq c.args.live.now) c.args.number c.requires in
    sweeps_rest L c.args.self.now.first _ _ (sweeps_more L (λ m. m ≢ c.args.number) _ _ lives c.pop_back_where.ensures)
