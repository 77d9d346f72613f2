use Rattle.std.proofs.Common.{ap, ◌∙◌}
use Rattle.ulfm_reader.proofs.WrittenOut.{members_view, view}
use Rattle.ulfm_reader.proofs.Values.{put-view}
use Rattle.ulfm_reader.specs.Members.{put}
use Rattle.ulfm_reader.proofs.members.put.Goals as goal

pub returns : goal.returns
returns c = ap members_view c.in_ok-insert.ensures.entries ∙ put-view c.args.table.now.entries c.in_ok-name.name c.args.value ∙ ap (λ key. put key (view c.args.value) (members_view c.args.table.now.entries)) c.in_ok-name.ensures.ok
