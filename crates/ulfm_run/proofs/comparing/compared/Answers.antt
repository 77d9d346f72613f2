use Rattle.std.proofs.Common.{map, ap, sym, subst, ◌∙◌, arith}
use Rattle.ulfm_run.proofs.Common.{AllAgree, NameOneBoard}
use Rattle.ulfm_run.proofs.Paired.{lent_whole}
use Rattle.ulfm_run.proofs.comparing.compared.Goals as goal

pub compare_all-requires : goal.compare_all-requires
compare_all-requires g c = record { one_board = subst NameOneBoard (ap (map g.D.Decider.board) (sym c.deref_mut.ensures.value)) c.requires.one_board }

pub returns-clause-boards : goal.returns-clause-boards
returns-clause-boards g c =
    let whole = lent_whole g.D.Decider.board c.compare_all.new.deciders c.args.deciders.len c.deref_mut.ensures.value c.compare_all.ensures.boards (omega (arith, c.args.deciders.ok)) in
    ap (map g.D.Decider.board) whole ∙ c.compare_all.ensures.boards ∙ ap (map g.D.Decider.board) c.deref_mut.ensures.value

pub returns-clause-known : goal.returns-clause-known
returns-clause-known g c =
    let whole = lent_whole g.D.Decider.board c.compare_all.new.deciders c.args.deciders.len c.deref_mut.ensures.value c.compare_all.ensures.boards (omega (arith, c.args.deciders.ok)) in
    ap (map g.D.Decider.known) whole ∙ c.compare_all.ensures.known ∙ ap (map g.D.Decider.known) c.deref_mut.ensures.value

pub returns-clause-agree : goal.returns-clause-agree
returns-clause-agree g c =
    let whole = lent_whole g.D.Decider.board c.compare_all.new.deciders c.args.deciders.len c.deref_mut.ensures.value c.compare_all.ensures.boards (omega (arith, c.args.deciders.ok)) in
    subst AllAgree (sym (ap (map g.D.Decider.known) whole ∙ c.compare_all.ensures.known)) c.compare_all.ensures.agree
