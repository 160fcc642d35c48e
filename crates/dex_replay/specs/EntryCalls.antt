-- The call of an entry of a market's journal, as the script and the entry tell it.
use Rattle.std.specs.Prelude.{◌≡◌, ◌==◌, ◌&&◌, ℕ, Bool, Option, Some, None, List, [], ◌∷◌, map, if◌then◌else◌}
use Rattle.std.specs.List.{Contains}
use Rattle.dex_types.specs.declared.addresses.Address.{Address}
use Rattle.dex_types.specs.declared.movements.Entry.{Entry}
use Rattle.dex_types.specs.declared.movements.Movement.{Movement}
use Rattle.dex_types.specs.declared.rows.Seen.{Seen}
use Rattle.dex_types.specs.declared.rows.WalletSeen.{WalletSeen}
use Rattle.dex_types.specs.Accounts.{PlainAccount, PlainMarketAccounts}
use Rattle.dex_types.specs.Addresses.{is_same}
use Rattle.dex_types.specs.Market.{Market}
use Rattle.dex_types.specs.Rows.{PlainRow}
use Rattle.dex_accounts.specs.Decoded.{market_in}
use Rattle.dex_accounts.specs.StandsFor.{StandsFor}
use Rattle.dex_history.specs.Journal.{Call, IsLegal, Stands, asked_of, front, market_after}
use Rattle.dex_state.specs.Outcomes.{PlainMarketJournal}
use Rattle.dex_replay.specs.Lawful.{IsSight}
use Rattle.dex_script_types.specs.PlainScript.{PlainScript}
use Rattle.dex_script_types.specs.Firsts.{first_of}
use Rattle.dex_token.specs.TokenAccount.{wallet_words}

-- ---- what an entry tells

-- the balance before, as the first of these movements on the wallet of an address states it; nothing, where none is
abbrev pub before_of : Address → List Movement → ℕ
before_of address [] = 0
before_of address (move ∷ moves) = if is_same address move.wallet then move.before else before_of address moves

-- a wallet of the script as a row with these movements saw it: its mint and its owner never change
abbrev pub wallet_told : List Movement → PlainAccount → WalletSeen
wallet_told moves wallet =
    let words = wallet_words wallet.bytes in
    record {
      address = wallet.address;
      mint = words.mint;
      owner = words.owner;
      balance = before_of wallet.address moves;
    }

-- what it saw of the wallet that a role names
abbrev pub role_told : List PlainAccount → List Movement → Option Address → Option WalletSeen
role_told wallets moves None = None
role_told wallets moves (Some address) =
    first_of (λ (wallet : PlainAccount). is_same address wallet.address) (wallet_told moves) wallets

-- all that a row saw, by its entry; mints and program are the script's
abbrev pub seen_told : PlainScript → PlainRow → Entry → Seen
seen_told script row entry =
    let role = role_told script.start.wallets (front entry.moves) in
    record {
      coin = role row.coin;
      pc = role row.pc;
      discount = role row.discount;
      referrer = role row.referrer;
      srm = script.start.srm;
      msrm = script.start.msrm;
      program = script.program;
    }

-- the call of a row with this entry
abbrev pub call_by : PlainScript → Entry → PlainRow → Call
call_by script entry row = record { asked = asked_of row; seen = seen_told script row entry; entry = entry }

-- a row of this number on this market
abbrev pub is_row_on : Address → ℕ → PlainRow → Bool
is_row_on market number row = (row.number == number) && is_same row.market market

-- the call that an entry of a market's journal tells: that of the script's row of its number on the market
abbrev pub call_told : PlainScript → Address → Entry → Option Call
call_told script market entry = first_of (is_row_on market entry.row) (call_by script entry) script.rows

-- one call more, where there is one
abbrev pub with_call : Option Call → Option (List Call) → Option (List Call)
with_call (Some call) (Some calls) = Some (call ∷ calls)
with_call _ _ = None

-- the calls that entries of a market's journal tell, where each tells one
abbrev pub calls_told : PlainScript → Address → List Entry → Option (List Call)
calls_told script market [] = Some []
calls_told script market (entry ∷ entries) = with_call (call_told script market entry) (calls_told script market entries)

-- ---- whose call it is

-- the call is of this row of the script, sees what a row of the script may see, and stands in a market's history here
pub record IsCallOf (script : PlainScript) (row : PlainRow) (m : Market) (call : Call) : Type 0 where
  pub row_is : Contains script.rows row
  pub asks : call.asked ≡ asked_of row
  pub sight : IsSight script call.seen
  pub stands : Stands call m

-- the entries of a market's journal tell their calls; these are a legal history from the market's first accounts, and
-- its last accounts stand for the market at the end
pub record TellsHistory (script : PlainScript) (first last : PlainMarketAccounts) (journal : PlainMarketJournal)
    : Type 0 where
  pub calls : List Call
  pub told : calls_told script first.address journal.entries ≡ Some calls
  pub entries : map (λ (call : Call). call.entry) calls ≡ journal.entries
  pub legal : IsLegal (market_in first) calls
  pub stands : StandsFor last (market_after (market_in first) calls)
