-- What a script leaves that is played part by part, and who has heard it.
use Rattle.std.specs.Prelude.{◌≡◌, ℕ, List, [], false, length, map}
use Rattle.dex_types.specs.declared.addresses.Address.{Address}
use Rattle.dex_types.specs.declared.limits.Limits.{Limits}
use Rattle.dex_types.specs.Accounts.{PlainAccount, PlainAccounts, PlainMarketAccounts, accounts_of}
use Rattle.dex_world.specs.Items.{items_of}
use Rattle.dex_state.specs.Outcomes.{PlainMarketJournal, PlainOutcome, PlainWalletJournal}
use Rattle.dex_script_types.specs.PlainScript.{PlainScript}
use Rattle.dex_script_types.specs.Facts.{IsScript}
use Rattle.dex_script.specs.Scripts.{ReadsWithin}
use Rattle.dex_replay.specs.Replays.{IsReplayOf}
use Rattle.dex_replay.specs.Runs.{IsRunOf}
use Rattle.dex_parts.specs.Chains.{AreTwoParts}
use Rattle.dex_stream.specs.declared.playing.Played.{Played}

-- the journal of a market without entries
abbrev pub no_entries : PlainMarketAccounts → PlainMarketJournal
no_entries market = record { address = market.address; entries = [] }

-- that of a wallet
abbrev pub no_moves : PlainAccount → PlainWalletJournal
no_moves wallet = record { address = wallet.address; entries = [] }

-- before the first row of a script: the accounts with which it starts, and journals without entries
abbrev pub unplayed : PlainAccounts → PlainOutcome
unplayed start =
    record { accounts = start; markets = map no_entries start.markets; wallets = map no_moves start.wallets }

-- the addresses of journals
abbrev pub markets_told : PlainOutcome → List Address
markets_told outcome = map (λ (journal : PlainMarketJournal). journal.address) outcome.markets

abbrev pub wallets_told : PlainOutcome → List Address
wallets_told outcome = map (λ (journal : PlainWalletJournal). journal.address) outcome.wallets

-- a script so far is one before, which left this, and a part behind it, of which this outcome is left
pub record IsNext (before : PlainScript) (left : PlainOutcome) (part : PlainScript) (outcome : PlainOutcome)
    (whole : PlainScript) : Type 0 where
  pub parts : AreTwoParts whole before left part
  pub is_script : IsScript part
  pub replay : IsReplayOf part outcome
  pub run : IsRunOf part outcome
  pub markets : markets_told outcome ≡ markets_told left
  pub wallets : wallets_told outcome ≡ wallets_told left

-- all items of a script have acted, so many: this outcome is left, with these accounts
pub record HasActed (script : PlainScript) (outcome : PlainOutcome) (accounts : PlainAccounts)
    (items : ℕ) : Type 0 where
  pub is_script : IsScript script
  pub replay : IsReplayOf script outcome
  pub run : IsRunOf script outcome
  pub leaves : outcome.accounts ≡ accounts
  pub counts : items ≡ length (items_of script.rows)

-- and the listener has heard of it
pub record HasPlayed {L : Type 0} (heard : L → PlainScript → PlainOutcome → Type 0) (script : PlainScript)
    (played : Played L) : Type 0 where
  pub outcome : PlainOutcome
  pub acted : HasActed script outcome (accounts_of played.accounts) played.items
  pub hears : heard played.listener script outcome

-- the bytes are a script within these limits, which has been played
pub record IsHeard {L : Type 0} (heard : L → PlainScript → PlainOutcome → Type 0) (limits : Limits) (bytes : List ℕ)
    (played : Played L) : Type 0 where
  pub script : PlainScript
  pub reads : ReadsWithin limits false bytes script
  pub plays : HasPlayed heard script played
