use Rattle.std.proofs.Common.{arith, map}
use Rattle.ulfm_reader.proofs.WrittenOut.{line_view, view}
use Rattle.ulfm_reader.proofs.Over.{rows_done, rows_few, rows_many}
use Rattle.ulfm_reader.proofs.rows_written_out.rows_out.Goals as goal

pub returns-then-len-gt-MOST_ROWS : goal.returns-then-len-gt-MOST_ROWS
returns-then-len-gt-MOST_ROWS c =
    rows_many (map line_view c.args.lines.now) c.args.ranks c.loop-value.value-index c.args.values.now c.value-item.result c.loop-value-test.true c.value-item.is
    c.loop-value.rows.items c.in_ok-more.more.items c.append.new.self.items _ c.in_ok-append.ensures.items c.in_ok-more.ensures c.loop-value.invariant (omega (arith, c.append.new.self.ok, c.if-len-gt-MOST_ROWS.true))

pub loop-value-preserved : goal.loop-value-preserved
loop-value-preserved c =
    rows_few (map line_view c.args.lines.now) c.args.ranks c.loop-value.value-index c.args.values.now c.value-item.result c.loop-value-test.true c.value-item.is
    c.loop-value.rows.items c.in_ok-more.more.items c.append.new.self.items _ c.in_ok-append.ensures.items c.in_ok-more.ensures c.loop-value.invariant (omega (arith, c.append.new.self.ok, c.if-len-gt-MOST_ROWS.false))

pub returns : goal.returns
returns c = rows_done (map line_view c.args.lines.now) c.args.ranks c.loop-value.value-index c.args.values.now (map view c.loop-value.rows.items) _ c.loop-value-test.false c.loop-value.invariant
