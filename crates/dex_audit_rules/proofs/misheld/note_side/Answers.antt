use Rattle.std.proofs.Common.{[], None, get_or, arith}
use Rattle.dex_types.specs.declared.orders.Order.{Order}
use Rattle.dex_orders.specs.OrdersAccount.{account_of}
use Rattle.dex_audit_rules.proofs.UnheldLaws.{unheld-more}
use Rattle.dex_audit_rules.proofs.misheld.note_side.Goals as goal

pub loop-place-preserved : goal.loop-place-preserved
loop-place-preserved c =
    let d : Order = record { id = 0; owner = record { 0 = [] }; slot = 0; tier = 0; lots = 0; client = 0 } in
    record {
      long = c.note.ensures.long;
      each = λ slot lt.
          unheld-more c.args.owner slot (get_or (account_of c.args.view.bytes.now).slots slot None) c.args.side c.args.orders.now c.loop-place.place d
          (get_or c.args.first.now slot None) (get_or c.loop-place.first slot None) (get_or c.note.new.first slot None) (omega arith)
          (c.loop-place.invariant.each slot lt)
          (c.note.ensures.each slot lt);
    }
