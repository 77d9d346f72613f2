use Rattle.std.proofs.Common.{ap, ◌∙◌, refl, sym, arith, get_or}
use Rattle.ulfm_carrier.proofs.Common.{map-set_same, only_at, pushed_with}
use Rattle.ulfm_carrier.proofs.Frames.{own_pass}
use Rattle.ulfm_carrier.proofs.Places.{at_read, at_other, view_or}
use Rattle.ulfm_carrier.proofs.Passes.{names_same}
use Rattle.ulfm_carrier.proofs.shared_ends.SharedEnds.close_to.Goals as goal

pub close-requires : goal.close-requires
close-requires c =
    let sender = own_pass c.args.dest c.requires.passes c.requires.sender (omega (arith, c.requires.dest, c.args.self.now.outs.ok)) (c.index-inbox.ensures ∙ ap (λ v. get_or v.items c.args.dest c.index-inbox.result.now) c.deref.ensures) c.index_mut.ensures.value in
    (sender.0, sender.1)

pub returns : goal.returns
returns c =
    let outs = c.args.self.now.outs.items in let p = c.index_mut.result.now in
    let here = at_read outs c.args.dest (omega (arith, c.requires.dest, c.args.self.now.outs.ok)) c.index_mut.ensures.value in
    let sender = own_pass c.args.dest c.requires.passes c.requires.sender (omega (arith, c.requires.dest, c.args.self.now.outs.ok)) (c.index-inbox.ensures ∙ ap (λ v. get_or v.items c.args.dest c.index-inbox.result.now) c.deref.ensures) c.index_mut.ensures.value in
    let receipt = c.close.ensures.receipt.0 in
    let is = c.close.ensures.receipt.1 in record {
      rest = refl;
      names = names_same outs c.args.dest p c.close.new.out c.index_mut.ensures.value c.close.ensures.out.0;
      pushed = map-set_same pushed_with outs c.args.dest c.close.new.out p (ap (λ v. v.pushed) c.close.ensures.out.1 ∙ ap pushed_with c.index_mut.ensures.value);
      others = λ q apart. at_other outs c.args.dest q c.close.new.out apart;
      queue = λ out at_out. (receipt.0 ∙ sym sender.0.0 ∙ ap (λ q. q.table_id) (sym (only_at outs c.args.dest p out here at_out)), receipt.1);
      receipt = (ap (λ v. v.role) is, ap (λ v. v.from) is ∙ sender.2, ap (λ v. v.pushed) is ∙ sym (view_or pushed_with outs c.args.dest _ here));
    }
