use Rattle.std.proofs.Common.{codes, drop}
use Rattle.std.specs.Fmt.{decimal}
use Rattle.dex_types.specs.Text.{spaced}
use Rattle.dex_report.specs.MadeRows.{side_text, type_text}
use Rattle.dex_report.proofs.MadeTexts.{order-words}
use Rattle.dex_report.proofs.made_rows.put_asked.Goals as goal

pub returns-in-New-clause-written : goal.returns-in-New-clause-written
returns-in-New-clause-written c =
    let o = c.in-New in
    rw (
      o.is,
      c.put_side.ensures.written,
      c.put_number-price.ensures.written,
      c.put_two-lots.ensures.written,
      c.put_rules-rules.ensures.written,
      c.put_number-client.ensures.written,
      c.put_word-limit.ensures.written,
    )
    (order-words (codes "new") (spaced (side_text o.side)) (spaced (decimal o.price)) (spaced (decimal o.lots)) (spaced (decimal o.pc))
    (codes " cancel") (spaced (type_text o.order_type)) (spaced (decimal o.client)) (codes " 10") (drop c.args.end c.args.line.now))
