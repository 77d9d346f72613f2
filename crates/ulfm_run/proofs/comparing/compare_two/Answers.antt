use Rattle.ulfm_run.proofs.Paired.{same_board, on_board, kept, agree_two}
use Rattle.ulfm_run.proofs.comparing.compare_two.Goals as goal

pub same-requires : goal.same-requires
same-requires g c = same_board c.args.deciders.now c.split_at_mut-earlier.result.0.now c.split_at_mut-earlier.result.1.now c.args.first c.args.second c.index-earlier-first.result c.index-later-0.result c.split_at_mut-earlier.ensures.value c.split_at_mut-earlier.ensures.front_len c.requires.order c.requires.inside g.D.Decider.board c.requires.one_board

pub returns-clause-boards : goal.returns-clause-boards
returns-clause-boards g c = kept c.args.deciders.now c.split_at_mut-earlier.result.0.now c.split_at_mut-earlier.result.1.now c.args.first c.args.second c.index-earlier-first.result c.index-later-0.result c.split_at_mut-earlier.ensures.value c.split_at_mut-earlier.ensures.front_len c.requires.order c.requires.inside g.D.Decider.board c.same.new.self c.same.new.other c.same.ensures.board c.same.ensures.board_of_the_other

pub returns-clause-known : goal.returns-clause-known
returns-clause-known g c = kept c.args.deciders.now c.split_at_mut-earlier.result.0.now c.split_at_mut-earlier.result.1.now c.args.first c.args.second c.index-earlier-first.result c.index-later-0.result c.split_at_mut-earlier.ensures.value c.split_at_mut-earlier.ensures.front_len c.requires.order c.requires.inside g.D.Decider.known c.same.new.self c.same.new.other c.same.ensures.known c.same.ensures.known_to_the_other

pub returns-clause-agree : goal.returns-clause-agree
returns-clause-agree g c = agree_two c.args.deciders.now c.split_at_mut-earlier.result.0.now c.split_at_mut-earlier.result.1.now c.args.first c.args.second c.index-earlier-first.result c.index-later-0.result c.split_at_mut-earlier.ensures.value c.split_at_mut-earlier.ensures.front_len c.requires.order c.requires.inside g.D.Decider.known (c.same.ensures.agree (on_board c.args.deciders.now c.split_at_mut-earlier.result.0.now c.split_at_mut-earlier.result.1.now c.args.first c.args.second c.index-earlier-first.result c.index-later-0.result c.split_at_mut-earlier.ensures.value c.split_at_mut-earlier.ensures.front_len c.requires.order c.requires.inside g.D.Decider.board c.requires.one_board))
