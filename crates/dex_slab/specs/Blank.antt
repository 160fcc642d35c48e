-- A side's account as it is made.
use Rattle.std.specs.Prelude.{◌≡◌, ℕ, ◌+◌, ◌*◌, ◌≤◌, List}
use Rattle.dex_fields.specs.Empty.{empty_account}
use Rattle.dex_types.specs.declared.terms.Side.{Side}
use Rattle.dex_types.specs.Side.{by_side}
use Rattle.dex_slab.specs.Nodes.{nodes_within}

-- how many bytes an account that is made with this many nodes has
abbrev pub made_size : ℕ → ℕ
made_size nodes = 52 + 72 * nodes

-- this many bytes are those of an account that is made with 1 to 65,536 nodes
pub record IsMadeSize (size : ℕ) : Type 0 where
  pub least : 124 ≤ size
  pub most : size ≤ 4718644
  pub whole : made_size (nodes_within size) ≡ size

-- the flags of a side's account: Initialized and Bids, or Initialized and Asks
abbrev pub side_flags : Side → ℕ
side_flags side = by_side side 33 65

-- the bytes of a side's account as it is made: its text, its flags, and zeros
abbrev pub blank_side : Side → ℕ → List ℕ
blank_side side size = empty_account size (side_flags side)
