use Rattle.std.proofs.Common.{List, subst}
use Rattle.ulfm_reader.proofs.Claims.{in_job-err}
use Rattle.ulfm_reader.proofs.Provided.{named_found}
use Rattle.ulfm_reader.specs.JobText.{Gives, in_job}
use Rattle.ulfm_reader.specs.Provisos.{if_named}
use Rattle.ulfm_reader.specs.declared.proviso.Proviso.{Proviso}
use Rattle.ulfm_reader.proofs.proviso.push_provisos.Goals as goal

pub returns-in-Ok : goal.returns-in-Ok
returns-in-Ok c =
    let names = c.args.names.now in
    let named = subst (λ (ps : List Proviso). Gives (λ _. ps) c.if_named.result (in_job (if_named names ps))) c.as_slice.ensures.value c.if_named.ensures in
    rw (← c.values_or_none.ensures, named_found names _ c.push_row_provisos.new.provisos.items c.in-Ok.ensures) named

pub returns-in-Err : goal.returns-in-Err
returns-in-Err c = λ no_memory. rw (← c.values_or_none.ensures) (in_job-err _ _ _ (c.in-Err.ensures no_memory))
