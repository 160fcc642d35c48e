-- What the fields of room stand for.
use Rattle.std.specs.Prelude.{◌≡◌, [], min, vec_capacity}
use Rattle.dex_bank.specs.declared.room.Room.TheInside.{Inside}
use Rattle.dex_bank.specs.Room.{RoomState}

-- room for as many as there is room for accounts and for journals
abbrev pub room_inside : Inside → RoomState
room_inside inside = record {
  markets = min (vec_capacity inside.of_markets.accounts) (vec_capacity inside.of_markets.journals);
  wallets = min (vec_capacity inside.of_wallets.accounts) (vec_capacity inside.of_wallets.journals);
}

-- nothing is written into it so far
pub record IsEmptyRoom (inside : Inside) : Type 0 where
  pub market_accounts : inside.of_markets.accounts.items ≡ []
  pub market_journals : inside.of_markets.journals.items ≡ []
  pub wallet_accounts : inside.of_wallets.accounts.items ≡ []
  pub wallet_journals : inside.of_wallets.journals.items ≡ []
