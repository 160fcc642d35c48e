-- Parts of a script, one behind the other.
use Rattle.std.proofs.Common.{◌≡◌, ◌∙◌, ◌==◌, ◌<◌, ◌≤◌, ℕ, List, [], ◌∷◌, false, All, ap, arith, map, refl, sym}
use Rattle.std.specs.List.{position}
use Rattle.std.proofs.lemmas.Bool.{ne_eqb}
use Rattle.std.proofs.lemmas.List.Elements.{All-nil, All-weaker}
use Rattle.dex_types.specs.declared.addresses.Address.{Address}
use Rattle.dex_types.specs.Accounts.{PlainAccounts, PlainMarketAccounts}
use Rattle.dex_types.specs.Addresses.{is_same}
use Rattle.dex_types.specs.Rows.{PlainRow}
use Rattle.dex_world.proofs.MappedLists.{head-same, map-map, tail-same}
use Rattle.dex_state.specs.Addresses.{address_of}
use Rattle.dex_state.specs.Outcomes.{PlainMarketJournal, PlainOutcome, PlainWalletJournal}
use Rattle.dex_script_types.specs.PlainScript.{PlainScript}
use Rattle.dex_script_types.specs.Facts.{IsScript}
use Rattle.dex_script.specs.Pieces.{HaveSamePlaces}
use Rattle.dex_script.proofs.NameLaws.{by-address}
use Rattle.dex_script.proofs.OrderLaws.{AreFrom}
use Rattle.dex_replay.specs.Replays.{IsOfStart, IsReplayOf}
use Rattle.dex_replay.specs.Runs.{IsRunOf}
use Rattle.dex_parts.specs.Chains.{AreTwoParts, IsCut, market_journal_behind, outcome_behind, wallet_journal_behind}
use Rattle.dex_parts.specs.Together.{each_behind}
use Rattle.dex_parts.proofs.LeftLaws.{same-addresses}
use Rattle.dex_stream.specs.Heard.{IsNext, no_entries, no_moves, unplayed}

abbrev market_address : PlainMarketAccounts → Address
market_address accounts = accounts.address

-- ---- what a replay leaves

-- accounts of the same markets and wallets
pub places-kept : (script : PlainScript) (outcome : PlainOutcome) → IsOfStart script outcome → HaveSamePlaces script.start outcome.accounts
places-kept script outcome is =
    let start = script.start in
    let last = outcome.accounts in record {
      markets = λ address.
          let test = is_same address in
          sym (by-address market_address test start.markets) ∙ ap (position test) (sym (same-addresses start.markets last.markets is.markets))
          ∙ by-address market_address test last.markets;
      wallets = λ address.
          let test = is_same address in
          sym (by-address address_of test start.wallets) ∙ ap (position test) (sym is.wallets) ∙ by-address address_of test last.wallets;
    }

-- ---- the first part

-- journals behind such without entries
none-before : {A B : Type 0} (behind : B → B → B) (none : A → B) (address : B → Address) (of : A → Address)
    → ((a : A) (b : B) → address b ≡ of a → behind (none a) b ≡ b) → (xs : List A) (ys : List B) → map address ys ≡ map of xs
    → each_behind behind (map none xs) ys ≡ ys
none-before behind none address of same [] ys is = refl
none-before behind none address of same (x ∷ xs) [] is = absurd (cc)
none-before behind none address of same (x ∷ xs) (y ∷ ys) is =
    ap (λ b. b ∷ each_behind behind (map none xs) ys) (same x y (head-same is))
    ∙ ap (λ bs. y ∷ bs) (none-before behind none address of same xs ys (tail-same is))

pub behind-none : (script : PlainScript) (outcome : PlainOutcome) → IsOfStart script outcome → outcome_behind (unplayed script.start) outcome ≡ outcome
behind-none script outcome is =
    let markets = none-before market_journal_behind no_entries (λ (journal : PlainMarketJournal). journal.address) market_address
    (λ market journal same. ap (λ (a : Address). record journal { address = a }) (sym same)) script.start.markets outcome.markets is.market_journals in
    let wallets = none-before wallet_journal_behind no_moves (λ (journal : PlainWalletJournal). journal.address) address_of
    (λ wallet journal same. ap (λ (a : Address). record journal { address = a }) (sym same)) script.start.wallets outcome.wallets is.wallet_journals in
    ap (λ (m : List PlainMarketJournal). record (outcome_behind (unplayed script.start) outcome) { markets = m }) markets
    ∙ ap (λ (w : List PlainWalletJournal). record outcome { wallets = w }) wallets

-- a script without rows
abbrev pub without : PlainScript → PlainScript
without script = record script { rows = [] }

pub first-next : (script : PlainScript) (outcome : PlainOutcome) → IsScript script → IsReplayOf script outcome → IsRunOf script outcome
    → IsNext (without script) (unplayed script.start) script outcome script
first-next script outcome is replay run = record {
  parts = record {
    rows = refl;
    cut = All-nil (λ (one : PlainRow). All (λ (other : PlainRow). (one.number == other.number) ≡ false) script.rows);
    start = refl;
    goes_on = refl;
    program = refl;
    same_program = refl;
    limits = refl;
    same_limits = refl;
  };
  is_script = is;
  replay = replay;
  run = run;
  markets = replay.start.market_journals ∙ sym (map-map no_entries (λ (journal : PlainMarketJournal). journal.address) script.start.markets);
  wallets = replay.start.wallet_journals ∙ sym (map-map no_moves (λ (journal : PlainWalletJournal). journal.address) script.start.wallets);
}

-- ---- a part behind others

pub apart : (low : ℕ) (done later : List PlainRow) → All (λ (row : PlainRow). row.number < low) done → AreFrom low later → IsCut done later
apart low done later below from =
    All-weaker (λ (one : PlainRow). one.number < low) (λ (one : PlainRow). All (λ (other : PlainRow). (one.number == other.number) ≡ false) later)
    (λ one less.
    All-weaker (λ (other : PlainRow). low ≤ other.number) (λ (other : PlainRow). (one.number == other.number) ≡ false)
    (λ other high. ne_eqb one.number other.number (λ e. omega (arith, less, high, e))) later from) done below

module _ (before part whole : PlainScript) (left outcome : PlainOutcome) (parts : AreTwoParts whole before left part) (is : IsScript part)
    (was : IsReplayOf before left) (replay : IsReplayOf part outcome) (run : IsRunOf part outcome) where
  pub next-is : IsNext before left part outcome whole
  next-is = record {
    parts = parts;
    is_script = is;
    replay = replay;
    run = run;
    markets = replay.start.market_journals ∙ ap (λ (start : PlainAccounts). map market_address start.markets) parts.goes_on
        ∙ same-addresses before.start.markets left.accounts.markets was.start.markets ∙ sym was.start.market_journals;
    wallets = replay.start.wallet_journals ∙ ap (λ (start : PlainAccounts). map address_of start.wallets) parts.goes_on
        ∙ was.start.wallets ∙ sym was.start.wallet_journals;
  }
