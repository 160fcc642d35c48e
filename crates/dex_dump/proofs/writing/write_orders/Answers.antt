use Rattle.std.proofs.Common.{append-nil, sym, ◌∙◌}
use Rattle.std.proofs.lemmas.List.Elements.{All-nil}
use Rattle.dex_types.specs.Accounts.{orders_account_of}
use Rattle.dex_state.specs.Held.{IsHeld}
use Rattle.dex_dump.specs.DumpText.{lines_text, orders_row}
use Rattle.dex_dump.proofs.TextLaws.{held_more, lines_more}
use Rattle.dex_dump.proofs.writing.write_orders.Goals as goal

pub loop-account-init : goal.loop-account-init
unfolding lines_text
loop-account-init c = record { text = sym (append-nil _); held = All-nil IsHeld }

pub loop-account-preserved : goal.loop-account-preserved
loop-account-preserved c = record {
  text = c.in_ok-write_orders_account.ensures.text
      ∙ lines_more (orders_row c.args.market) orders_account_of _ _ c.args.accounts.now c.loop-account.account-index c.account-item.result c.loop-account-test.true c.account-item.is c.loop-account.invariant.text;
  held = held_more IsHeld orders_account_of c.args.accounts.now c.loop-account.account-index c.account-item.result c.loop-account-test.true c.account-item.is c.loop-account.invariant.held
      c.in_ok-write_orders_account.ensures.held;
}
