use Rattle.std.proofs.Common.{◌∙◌, ap, refl, inl, inr}
use Rattle.ulfm_c.specs.View.{with_rank}
use Rattle.ulfm_c.proofs.probes.improbe.Goals as goal

pub returns-in-None : goal.returns-in-None
returns-in-None c = inl (refl, c.in-None.ensures, refl, (refl, refl))

pub returns-in-Err : goal.returns-in-Err
returns-in-Err c = inr (c.in-Some.comm, c.in-Some.ensures, inl (refl, c.in-Err.ensures.1, c.in-Err.ensures.2, refl, (refl, refl)))

pub returns-in-Ok-Found : goal.returns-in-Ok-Found
returns-in-Ok-Found c = let found = c.in-Ok-Found.ensures in inr (
  c.in-Some.comm,
  c.in-Some.ensures,
  inr (
    c.in-Ok.tag,
    c.in-Ok.ensures,
    inl (
      rw c.source_of.ensures at found.accepted,
      inl (
        refl,
        record {
          told = c.in-Ok-Found.told;
          probed = rw (c.source_of.ensures, c.in-Ok-Found.field-0-is) at found.answer;
          stands = rw c.in-Ok-Found.field-0-is at found.message;
          tells = c.status_of.ensures;
          only = found.only_rank;
        },
      ),
    ),
  ),
)

pub returns-in-Ok-Nothing : goal.returns-in-Ok-Nothing
returns-in-Ok-Nothing c = let none = c.in-Ok-Nothing.ensures in let answer = rw (c.source_of.ensures, c.in-Ok-Nothing.field-0-is) at none.answer in
    inr (c.in-Some.comm, c.in-Some.ensures, inr (c.in-Ok.tag, c.in-Ok.ensures, inl (rw c.source_of.ensures at none.accepted, inr (refl, answer.0, none.only_rank ∙ ap (with_rank c.args.process.now.view) answer.1, (refl, refl)))))

pub returns-in-Err-improbe : goal.returns-in-Err-improbe
returns-in-Err-improbe c = inr (c.in-Some.comm, c.in-Some.ensures, inr (c.in-Ok.tag, c.in-Ok.ensures, inr (c.in-Err-improbe.error, c.number_of.ensures, rw c.source_of.ensures at c.in-Err-improbe.ensures.refused, c.in-Err-improbe.ensures.unchanged, (refl, refl))))
