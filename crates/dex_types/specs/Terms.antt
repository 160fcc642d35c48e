-- Orders and takes as a row states them.
use Rattle.std.specs.Prelude.{ℕ, ℤ, Option, Some, None}
use Rattle.dex_types.specs.declared.addresses.Address.{Address}
use Rattle.dex_types.specs.declared.rows.Seen.{Seen}
use Rattle.dex_types.specs.declared.rows.WalletSeen.{WalletSeen}
use Rattle.dex_types.specs.declared.terms.OrderType.{OrderType}
use Rattle.dex_types.specs.declared.terms.SelfTrade.{SelfTrade}
use Rattle.dex_types.specs.declared.terms.Tier.{Tier}
use Rattle.dex_types.specs.declared.terms.Tier.TheVariants.{Base}
use Rattle.dex_types.specs.Fees.{tier_reached}
use Rattle.dex_types.specs.NewOrder.{NewOrder}
use Rattle.dex_types.specs.Take.{Take}
use Rattle.dex_types.specs.Reasons.{is_mint}
use Rattle.dex_types.specs.Requests.{Request}

-- the tier of a discount wallet, where one is named: by its MSRM, or else by its SRM
abbrev pub tier_of : Option Address → Option WalletSeen → Tier
tier_of msrm None = Base
tier_of msrm (Some wallet) = tier_reached (is_mint msrm wallet.mint) wallet.balance

-- the tier that a row reaches
abbrev pub tier_seen : Seen → Tier
tier_seen seen = tier_of seen.msrm seen.discount

-- the new order of a row, for its open account
abbrev pub terms_order : Request → Seen → ℕ → ℕ → ℕ → SelfTrade → OrderType → ℕ → ℕ → Option ℤ → Address → NewOrder
terms_order request seen price lots max_pc self_trade order_type client limit latest owner = record {
  program = seen.program;
  tier = tier_seen seen;
  owner = owner;
  price = price;
  lots = lots;
  max_pc = max_pc;
  self_trade = self_trade;
  order_type = order_type;
  client = client;
  matches = limit;
  now = request.now;
  latest = latest;
}

-- the take of a row
abbrev pub terms_take : Seen → ℕ → ℕ → ℕ → ℕ → ℕ → ℕ → Take
terms_take seen price lots max_pc min_lots min_pc limit = record {
  program = seen.program;
  tier = tier_seen seen;
  price = price;
  lots = lots;
  max_pc = max_pc;
  matches = limit;
  min_lots = min_lots;
  min_pc = min_pc;
}
