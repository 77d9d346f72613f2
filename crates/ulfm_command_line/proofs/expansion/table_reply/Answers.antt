use Rattle.std.proofs.Common.{sym, ◌∙◌, arith}
use Rattle.toml.specs.View.{table_view}
use Rattle.ulfm_command_line.proofs.Texts.{deep_text, good_text, long_text}
use Rattle.ulfm_command_line.proofs.expansion.table_reply.Goals as goal

pub returns-then-not-are_members_within : goal.returns-then-not-are_members_within
returns-then-not-are_members_within c = λ form.
    rw (c.refusal.ensures.status, c.refusal.ensures.body) (deep_text form (table_view c.args.table.now) (sym c.are_members_within.ensures ∙ c.if-not-are_members_within.true))

pub returns-then-len-gt-MOST_BYTES : goal.returns-then-len-gt-MOST_BYTES
returns-then-len-gt-MOST_BYTES c = λ form.
    rw (c.refusal-then-len-gt-MOST_BYTES.ensures.status, c.refusal-then-len-gt-MOST_BYTES.ensures.body) (long_text form (table_view c.args.table.now) c.in_ok-text.text c.in_ok-text.ensures.text (omega (arith, c.len.ensures, c.in_ok-text.text.bytes.ok, c.if-len-gt-MOST_BYTES.true)))

pub returns : goal.returns
returns c = λ form.
    good_text form (table_view c.args.table.now) c.in_ok-text.text (sym c.are_members_within.ensures ∙ c.if-not-are_members_within.false) c.in_ok-text.ensures.reads_back (omega (arith, c.len.ensures, c.in_ok-text.text.bytes.ok, c.if-len-gt-MOST_BYTES.false))
