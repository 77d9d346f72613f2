use Rattle.std.proofs.Common.{◌≡◌, Option, Vec, Global, map, option_map, subst}
use Rattle.ulfm_reader.specs.Lines.{line_view}
use Rattle.ulfm_reader.specs.Rows.{rows_out}
use Rattle.ulfm_reader.proofs.Claims.{rows_found, rows_many}
use Rattle.ulfm_reader.proofs.Common.{Value, view}
use Rattle.ulfm_reader.proofs.rows.never_out.Goals as goal

pub returns-in-Some-2 : goal.returns-in-Some-2
returns-in-Some-2 c =
    let lines = map line_view c.args.lines.now in
    let vs = c.in-Some.values.now in
    let found = subst (λ (o : Option (Vec Value Global)). option_map (λ (rows : Vec Value Global). map view rows.items) o ≡ rows_out lines c.args.ranks (map view vs)) c.in-Some-2.is c.in_ok-rows.ensures in
    rw (c.in-Some.is) (rows_found lines c.args.ranks vs c.in-Some-2.rows.items found)

pub returns-in-None : goal.returns-in-None
returns-in-None c =
    let lines = map line_view c.args.lines.now in
    let vs = c.in-Some.values.now in
    let found = subst (λ (o : Option (Vec Value Global)). option_map (λ (rows : Vec Value Global). map view rows.items) o ≡ rows_out lines c.args.ranks (map view vs)) c.in-None.is c.in_ok-rows.ensures in
    λ _. rw (c.in-Some.is) (rows_many lines c.args.ranks vs found)
