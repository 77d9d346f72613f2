use Rattle.std.proofs.Common.{Some, None}
use Rattle.std.proofs.lemmas.Str.Pattern.{split_once_first}
use Rattle.ulfm_reader.proofs.Claims.{two_parts, one_part}
use Rattle.ulfm_reader.proofs.claim.parted.Goals as goal

pub returns-in-Some : goal.returns-in-Some
returns-in-Some c =
    let p = split_once_first c.args.at c.args.text.now (Some c.in-Some.parts) c.in-Some.ensures.cases c.requires in
    two_parts c.args.at c.args.text.now c.in-Some.parts.0.now c.in-Some.parts.1.now p.0 p.1 p.2

pub returns-in-None : goal.returns-in-None
returns-in-None c = one_part c.args.at c.args.text.now (split_once_first c.args.at c.args.text.now None c.in-None.ensures.cases c.requires)
