-- Cranks one after the other.
use Rattle.std.specs.Prelude.{ℕ, ◌+◌, List, [], ◌∷◌}
use Rattle.dex_types.specs.declared.addresses.Address.{Address}
use Rattle.dex_types.specs.Market.{Market}
use Rattle.dex_types.specs.Payment.{consumable}
use Rattle.dex_types.specs.Steps.{act_consume}

-- a crank: the most events that it consumes, and the accounts that it names
pub record Crank : Type 0 where
  pub limit : ℕ
  pub named : List Address

-- the market after these cranks
abbrev pub after_cranks : List Crank → Market → Market
after_cranks [] m = m
after_cranks (crank ∷ cranks) m = after_cranks cranks (act_consume crank.limit crank.named m).market

-- how many events they consume together
abbrev pub consumed_by : List Crank → Market → ℕ
consumed_by [] m = 0
consumed_by (crank ∷ cranks) m =
    consumable crank.limit crank.named m.events + consumed_by cranks (act_consume crank.limit crank.named m).market
