use Rattle.std.proofs.Common.{rules, ◌≡◌, length, Some, None, arith}
use Rattle.std.proofs.lemmas.Str.Pattern.{split_once_first}
use Rattle.ulfm_job.proofs.Starred.{cut_last, cut_never}
use Rattle.ulfm_job.proofs.place_text.unstarred.Goals as goal

pub returns-then-is_empty-clause-kept : goal.returns-then-is_empty-clause-kept
returns-then-is_empty-clause-kept c =
    let none : length c.in-Some.rest.now ≡ 0 = search rules in
    (cut_last c.args.text.now c.in-Some.front.now c.in-Some.rest.now (split_once_first 42 c.args.text.now (Some (c.in-Some.front, c.in-Some.rest)) c.in-Some.ensures.cases (omega arith)) none).0

pub returns-then-is_empty-clause-starred : goal.returns-then-is_empty-clause-starred
returns-then-is_empty-clause-starred c =
    let none : length c.in-Some.rest.now ≡ 0 = search rules in
    (cut_last c.args.text.now c.in-Some.front.now c.in-Some.rest.now (split_once_first 42 c.args.text.now (Some (c.in-Some.front, c.in-Some.rest)) c.in-Some.ensures.cases (omega arith)) none).1

pub returns-in-None-clause-kept : goal.returns-in-None-clause-kept
returns-in-None-clause-kept c = (cut_never c.args.text.now (split_once_first 42 c.args.text.now None c.in-None.ensures.cases (omega arith))).0

pub returns-in-None-clause-starred : goal.returns-in-None-clause-starred
returns-in-None-clause-starred c = (cut_never c.args.text.now (split_once_first 42 c.args.text.now None c.in-None.ensures.cases (omega arith))).1
