use Rattle.std.proofs.Common.{◌++◌, ap, sym, ◌∙◌, append_assoc}
use Rattle.ulfm_match.proofs.Common.{in_order}
use Rattle.ulfm_match.proofs.settling.add.Goals as goal

pub returns-clause-all : goal.returns-clause-all
returns-clause-all g c =
    let old = c.args.pool.now in
    ap (λ ys. in_order old.early.entries ++ ys) c.push_back_reserved.ensures.items ∙ sym (append_assoc (in_order old.early.entries) old.recent.items _)
