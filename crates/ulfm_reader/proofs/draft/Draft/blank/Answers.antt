use Rattle.ulfm_reader.proofs.Asking.{blank-view}
use Rattle.ulfm_reader.proofs.draft.Draft.blank.Goals as goal

pub returns-clause-blank : goal.returns-clause-blank
returns-clause-blank c = blank-view (record { scripts = c.in_ok-empty_scripts.field-0; names = c.new.result; filed = c.new-2.result; namings = c.new-3.result; conditions = c.new-4.result; expected = c.new-5.result; provisos = c.new-6.result }) c.args.ranks c.in_ok-empty_scripts.ensures.empty c.new.ensures.items c.new-2.ensures.items c.new-3.ensures.items c.new-4.ensures.items c.new-5.ensures.items c.new-6.ensures.items
