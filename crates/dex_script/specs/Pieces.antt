-- Rows after an instruction row, read in pieces.
use Rattle.std.specs.Prelude.{◌≡◌, ℕ, ℤ, ◌+◌, true, false, List, [], ◌∷◌, ◌++◌, None, Ok, map, max}
use Rattle.dex_types.specs.declared.addresses.Address.{Address}
use Rattle.dex_types.specs.Accounts.{PlainAccount, PlainAccounts, PlainMarketAccounts}
use Rattle.dex_statement.specs.Words.{Fields}
use Rattle.dex_dump.specs.Answers.{next_number}
use Rattle.dex_script_types.specs.PlainScript.{PlainScript}
use Rattle.dex_script_types.specs.Places.{market_place, wallet_place}
use Rattle.dex_script.specs.Drafts.{PlainDraft}
use Rattle.dex_script.specs.Markets.{no_accounts_of}
use Rattle.dex_script.specs.Scripts.{draft_after}

-- the number of the row after some, the first of which has this number
abbrev pub number_after : ℕ → List Fields → ℕ
number_after number [] = number
number_after number (row ∷ rows) = number_after (next_number number) rows

-- a wallet of which only the address is left
abbrev pub bare_wallet : PlainAccount → PlainAccount
bare_wallet wallet = record { address = wallet.address; bytes = [] }

-- a market of which only the address and who signs for it are left
abbrev pub bare_market : PlainMarketAccounts → PlainMarketAccounts
bare_market market = no_accounts_of market.address market.authority

-- markets and wallets without accounts
abbrev pub bare : PlainAccounts → PlainAccounts
bare start = record {
  mints = [];
  srm = None;
  msrm = None;
  wallets = map bare_wallet start.wallets;
  markets = map bare_market start.markets;
}

-- the first of these rows leave this draft, and those that are left are numbered from this number on
pub record IsPartway (first : PlainDraft) (from : ℕ) (rows : List Fields)
    (draft : PlainDraft) (number : ℕ) (left : List Fields) : Type 0 where
  pub front : List Fields
  pub parts : rows ≡ front ++ left
  pub read : draft_after first from front ≡ Ok draft
  pub next : number ≡ number_after from front

-- no row of a piece was read yet, which is of the same markets and wallets; its first rows have this clock
abbrev pub beside : PlainDraft → ℤ → PlainDraft
beside draft clock = record {
  script =
      record { start = bare draft.script.start; rows = []; lanes = 0; program = draft.script.program; limits = draft.script.limits };
  taken = [];
  clock = clock;
  is_first = false;
  is_late = true;
  items = 0;
  batch = draft.batch;
}

-- neither setup rows nor one that chooses the program may follow
pub record IsUnderway (draft : PlainDraft) : Type 0 where
  pub late : draft.is_late ≡ true
  pub first : draft.is_first ≡ false

-- markets and wallets of each address stand at the same places
pub record HaveSamePlaces (one other : PlainAccounts) : Type 0 where
  pub markets : (address : Address) → market_place address one.markets ≡ market_place address other.markets
  pub wallets : (address : Address) → wallet_place address one.wallets ≡ wallet_place address other.wallets

-- a script so far, and a piece of its rows further on
pub record AreAlike (draft piece : PlainDraft) : Type 0 where
  pub draft_underway : IsUnderway draft
  pub piece_underway : IsUnderway piece
  pub batch : piece.batch ≡ draft.batch
  pub limits : piece.script.limits ≡ draft.script.limits
  pub places : HaveSamePlaces piece.script.start draft.script.start

-- no row of a piece was read yet: the rows behind the script may be
pub record IsReadyBehind (draft piece : PlainDraft) : Type 0 where
  pub alike : AreAlike draft piece
  pub rows : piece.script.rows ≡ []
  pub lanes : piece.script.lanes ≡ 0
  pub items : piece.items ≡ 0
  pub clock : piece.clock ≡ draft.clock
  pub program : piece.script.program ≡ draft.script.program

-- the script with the rows of a piece after its own
abbrev pub joined : PlainDraft → PlainDraft → PlainDraft
joined draft piece = record draft {
  script = record draft.script {
    rows = draft.script.rows ++ piece.script.rows;
    lanes = max draft.script.lanes piece.script.lanes;
  };
  clock = piece.clock;
  items = draft.items + piece.items;
}

-- the rows of a piece, as a script that starts with these accounts
abbrev pub part_of : PlainDraft → PlainAccounts → PlainScript
part_of piece start = record piece.script { start = start; lanes = max 1 piece.script.lanes }

-- the piece, when its rows are taken out
abbrev pub cleared : PlainDraft → PlainDraft
cleared piece = record piece { script = record piece.script { rows = []; lanes = 0 }; items = 0 }
