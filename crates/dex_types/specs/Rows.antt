-- Instruction rows without their buffers, so that a contract compares what rows say and not where it lies.
use Rattle.std.specs.Prelude.{ℕ, ℤ, List, Option}
use Rattle.dex_types.specs.declared.addresses.Address.{Address}
use Rattle.dex_types.specs.declared.rows.Row.{Row}

-- an instruction row, with lists for its named accounts and its instruction data
pub record PlainRow : Type 0 where
  pub lane : ℕ
  pub number : ℕ
  pub market : Address
  pub signer : Address
  pub named : List Address
  pub coin : Option Address
  pub pc : Option Address
  pub discount : Option Address
  pub referrer : Option Address
  pub bytes : List ℕ
  pub now : ℤ

-- what a row says
abbrev pub row_of : Row → PlainRow
row_of row = record {
  lane = row.lane;
  number = row.number;
  market = row.market;
  signer = row.signer;
  named = row.named.items;
  coin = row.coin;
  pc = row.pc;
  discount = row.discount;
  referrer = row.referrer;
  bytes = row.bytes.items;
  now = row.now;
}
