-- What a journal tells of what its calls moved for accounts.
use Rattle.std.specs.Prelude.{ℕ, Option, Some, None, Result, Ok}
use Rattle.dex_types.specs.declared.addresses.Address.{Address}
use Rattle.dex_types.specs.declared.instructions.BadData.{BadData}
use Rattle.dex_types.specs.declared.instructions.Ix.{Ix}
use Rattle.dex_types.specs.declared.instructions.Ix.TheVariants.{NewOrderV3}
use Rattle.dex_types.specs.declared.movements.Entry.{Entry}
use Rattle.dex_types.specs.declared.terms.Side.{Side}
use Rattle.dex_types.specs.Side.{Token, by_token, locked_token}
use Rattle.dex_types.specs.Transfers.{Transfers, deposit, no_transfers}
use Rattle.dex_history.specs.Journal.{Asked, Call}
use Rattle.dex_eager.specs.Worth.{for_account, settled_in}
use Rattle.dex_replay.specs.Debits.{debits_in}

-- the side of a new order
abbrev pub side_of : Result Ix BadData → Option Side
side_of (Ok (NewOrderV3 side price lots max_pc self_trade order_type client limit latest)) = Some side
side_of instruction = None

-- what enters the vaults where a new order of this side took so much from its wallet
abbrev pub entering : Option Side → ℕ → Transfers
entering None amount = no_transfers
entering (Some side) amount = deposit (locked_token side) amount

-- what an entry tells of a token deposited by a row that asked for this
abbrev pub told_deposit : Token → Asked → Entry → ℕ
told_deposit token asked entry = let t : Transfers = entering (side_of asked.request.instruction) (debits_in entry) in by_token token t.coin_in t.pc_in

-- what a call tells of a token deposited for an account
abbrev pub told_in : Token → Address → Call → ℕ
told_in token owner call = for_account owner call.asked.request.named (told_deposit token call.asked call.entry)

-- what a call tells of a token that was settled out to an account
abbrev pub told_out : Token → Address → Call → ℕ
told_out token owner call = for_account owner call.asked.request.named (settled_in token call.entry.reply)
