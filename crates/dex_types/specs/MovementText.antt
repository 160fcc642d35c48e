-- What movements of wallets print.
use Rattle.std.specs.Prelude.{List, ℕ, ◌++◌, codes}
use Rattle.std.specs.Fmt.{decimal}
use Rattle.dex_types.specs.declared.movements.MoveKind.{MoveKind}
use Rattle.dex_types.specs.declared.movements.MoveKind.TheVariants.{Probe, Debit, Credit}
use Rattle.dex_types.specs.declared.movements.Movement.{Movement}
use Rattle.dex_types.specs.Text.{address_text, spaced}

-- the word of a kind of movement
abbrev pub kind_text : MoveKind → List ℕ
kind_text Probe = codes "probe"
kind_text Debit = codes "debit"
kind_text Credit = codes "credit"

-- a movement: the wallet, the kind, the amount and the balance before it
abbrev pub movement_text : Movement → List ℕ
movement_text m = address_text m.wallet ++ spaced (kind_text m.kind) ++ spaced (decimal m.amount) ++ spaced (decimal m.before)
