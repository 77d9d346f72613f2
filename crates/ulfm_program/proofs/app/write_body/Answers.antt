use Rattle.std.proofs.Common.{◌∙◌, inl, inr, refl}
use Rattle.ulfm_command_line.specs.Failure.{out_of_memory_in}
use Rattle.ulfm_program.proofs.app.write_body.Goals as goal

pub returns-in-Ok : goal.returns-in-Ok
returns-in-Ok g c = record {
  status = c.args.reply.now.status;
  text = c.as_bytes.result.now;
  printed = inl (refl, c.as_bytes.ensures.value ∙ c.in-Ok.ensures);
  written = c.write_reply.ensures.written;
  failed = c.write_reply.ensures.failed;
  known = c.write_reply.ensures.known;
}

pub returns-in-Err : goal.returns-in-Err
returns-in-Err g c = record {
  status = 3;
  text = out_of_memory_in c.args.form;
  printed = inr (refl, refl);
  written = c.write_starved.ensures.written;
  failed = c.write_starved.ensures.failed;
  known = c.write_starved.ensures.known;
}
