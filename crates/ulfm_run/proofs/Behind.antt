-- What a log takes behind more of its entries is less.
use Rattle.std.proofs.Common.{◌≡◌, ◌≤◌, ◌+◌, ◌-◌, ◌∙◌, ℕ, cond, List, length, drop, ap, arith}
use Rattle.std.specs.List.{count_by}
use Rattle.std.proofs.lemmas.List.{drop_all, drop-drop}
use Rattle.std.proofs.lemmas.List.Sums.{sum_by-take-drop}
use Rattle.ulfm_run.proofs.Common.{Entry}
use Rattle.ulfm_report_laws.specs.Room.{takes_sent, taken_behind}

pub fewer_behind : (s n m : ℕ) (log : List Entry) → n ≤ m → taken_behind s m log ≤ taken_behind s n log
fewer_behind s n m log le =
    let rest = drop n log in
    let same : n + (m - n) ≡ m = omega (arith, le) in
    let more : drop (m - n) rest ≡ drop m log = drop-drop (m - n) n log ∙ ap (λ k. drop k log) same in
    omega (arith, ap (count_by (takes_sent s)) more, sum_by-take-drop (λ (x : Entry). cond (takes_sent s x) 1 0) rest (m - n))

-- behind all of them it takes nothing
pub none_behind : (s n : ℕ) (log : List Entry) → length log ≤ n → taken_behind s n log ≡ 0
none_behind s n log all = ap (count_by (takes_sent s)) (drop_all n log all)
