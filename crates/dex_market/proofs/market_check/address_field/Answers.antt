use Rattle.dex_market.proofs.Addresses.{field_at_is_wide}
use Rattle.dex_market.proofs.market_check.address_field.Goals as goal

pub returns-clause-within : goal.returns-clause-within
returns-clause-within c = (field_at_is_wide c.args.number c.requires).0

pub returns-clause-wide : goal.returns-clause-wide
returns-clause-wide c = (field_at_is_wide c.args.number c.requires).1
