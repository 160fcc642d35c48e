-- What market rows and instruction rows state, with lists for what they hold.
use Rattle.std.specs.Prelude.{ℕ, List, [], Option, None}
use Rattle.dex_types.specs.declared.addresses.Address.{Address}

-- a market row: address, mints of base (coin) and quote (pc), authority, nodes of each side, room for events, and data
pub record PlainMarketWords : Type 0 where
  pub address : Address
  pub coin : Address
  pub pc : Address
  pub authority : Address
  pub bid_nodes : ℕ
  pub ask_nodes : ℕ
  pub events : ℕ
  pub bytes : List ℕ

-- whom an instruction row names: market, signer, open-orders accounts, and the wallets of the four roles
pub record PlainParties : Type 0 where
  pub market : Address
  pub signer : Address
  pub named : List Address
  pub coin : Option Address
  pub pc : Option Address
  pub discount : Option Address
  pub referrer : Option Address

-- an instruction row: its lane, whom it names, and the instruction's bytes
pub record PlainInstruction : Type 0 where
  pub lane : ℕ
  pub parties : PlainParties
  pub bytes : List ℕ

-- a leg of a swap row: its market, its wallets, and the instruction's bytes
pub record PlainLeg : Type 0 where
  pub market : Address
  pub coin : Option Address
  pub pc : Option Address
  pub bytes : List ℕ

-- a swap row: its lane, who signs it, and its two legs
pub record PlainSwap : Type 0 where
  pub lane : ℕ
  pub signer : Address
  pub first : PlainLeg
  pub second : PlainLeg

-- a leg as an instruction row of this lane and signer: without open-orders accounts, discount and referrer
abbrev pub leg_words : ℕ → Address → PlainLeg → PlainInstruction
leg_words lane signer leg = record {
  lane = lane;
  parties = record {
    market = leg.market;
    signer = signer;
    named = [];
    coin = leg.coin;
    pc = leg.pc;
    discount = None;
    referrer = None;
  };
  bytes = leg.bytes;
}
