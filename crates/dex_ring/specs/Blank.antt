-- An event queue as it is made.
use Rattle.std.specs.Prelude.{◌≡◌, ℕ, ◌+◌, ◌-◌, ◌*◌, ◌/◌, ◌≤◌, List}
use Rattle.dex_fields.specs.Empty.{empty_account}

-- how many bytes a queue that is made for this many events has
abbrev pub made_size : ℕ → ℕ
made_size events = 44 + 88 * events

-- this many bytes are those of a queue that is made for 1 to 65,535 events
pub record IsMadeSize (size : ℕ) : Type 0 where
  pub least : 132 ≤ size
  pub most : size ≤ 5767124
  pub whole : made_size ((size - 44) / 88) ≡ size

-- the bytes of a queue as it is made: its text, its flags, and zeros
abbrev pub blank_queue : ℕ → List ℕ
blank_queue size = empty_account size 17
