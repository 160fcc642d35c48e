-- What the call that takes orders off leaves.
use Rattle.std.specs.Prelude.{◌≡◌, ℕ, List, length}
use Rattle.dex_types.specs.Cancel.{RestingOrder}
use Rattle.dex_cancel.specs.TakenOff.{CancelGiven, HaveLeft}

-- these orders left, each with an out, and they are as many as told
pub record HaveLeftSo (gone : List RestingOrder) (before after : CancelGiven) (told : ℕ) : Type 0 where
  pub count : told ≡ length gone
  pub left : HaveLeft gone before after
