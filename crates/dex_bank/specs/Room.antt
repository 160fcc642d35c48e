-- Room for what cells leave where they are closed.
use Rattle.std.specs.Prelude.{ℕ}

-- for how many markets and for how many wallets there is room
pub record RoomState : Type 0 where
  pub markets : ℕ
  pub wallets : ℕ
