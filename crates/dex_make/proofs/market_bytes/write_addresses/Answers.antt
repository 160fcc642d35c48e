use Rattle.std.proofs.Common.{rules, length, ap, sym, ◌∙◌}
use Rattle.dex_fields.specs.declared.market.TheConstants.{OWN_ADDRESS, COIN_MINT, PC_MINT}
use Rattle.dex_fields.proofs.Reading.{length-bytes_in}
use Rattle.dex_make.proofs.market_bytes.write_addresses.Goals as goal

pub returns-clause-addresses : goal.returns-clause-addresses
returns-clause-addresses c = record {
  address = ap length (sym c.put_addr.ensures.given) ∙ length-bytes_in c.put_addr.new.bytes OWN_ADDRESS (search rules);
  coin = ap length (sym c.put_addr-2.ensures.given) ∙ length-bytes_in c.put_addr-2.new.bytes COIN_MINT (search rules);
  pc = ap length (sym c.put_addr-3.ensures.given) ∙ length-bytes_in c.put_addr-3.new.bytes PC_MINT (search rules);
}
