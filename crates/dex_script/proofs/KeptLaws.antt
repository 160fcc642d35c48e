-- What rows that are no instructions leave.
use Rattle.std.proofs.Common.{◌≡◌, ◌∙◌, ◌∷◌, [], ℕ, ℤ, Bool, true, false, not, List, Result, Ok, ap, arith, length-append, refl, subst, sym}
use Rattle.dex_types.specs.declared.addresses.Address.{Address}
use Rattle.dex_types.specs.declared.terms.Program.{Program}
use Rattle.dex_world.specs.declared.places.RowPlaces.{RowPlaces}
use Rattle.dex_types.specs.Accounts.{PlainAccount, PlainAccounts}
use Rattle.dex_types.specs.Rows.{PlainRow}
use Rattle.dex_make.specs.Blanks.{blank_account}
use Rattle.dex_make.specs.MarketBytes.{made_accounts}
use Rattle.dex_make.specs.TokenBytes.{wallet_bytes}
use Rattle.dex_dump.proofs.SoFarLaws.{orders-length}
use Rattle.dex_statement.specs.declared.faults.FaultKind.{FaultKind}
use Rattle.dex_statement.specs.declared.faults.FaultKind.TheVariants.{SetupRefused}
use Rattle.dex_statement.specs.declared.faults.SetupCode.TheVariants as code
use Rattle.dex_statement.specs.declared.statement.Statement.{Statement}
use Rattle.dex_statement.specs.declared.statement.Statement.TheVariants as row
use Rattle.dex_script_types.specs.Places.{AreBeside, ArePlaced}
use Rattle.dex_script.specs.Drafts.{PlainDraft}
use Rattle.dex_script.specs.Names.{AreFew, IsReading}
use Rattle.dex_script.specs.Pieces.{IsUnderway}
use Rattle.dex_script.specs.Rows.{IsSetup, with_clock, with_program, with_statement}
use Rattle.dex_script.proofs.FaultLaws.{differ, ok-same, unless-ok}
use Rattle.dex_script.proofs.RowParts.{Declares, market-row, mint-row, msrm-row, orders-row, srm-row, wallet-row}

-- the instruction rows stay, and so do the accounts where setup rows come too late
pub record Kept (before after : PlainDraft) : Type 0 where
  pub rows : after.script.rows ≡ before.script.rows
  pub lanes : after.script.lanes ≡ before.script.lanes
  pub items : after.items ≡ before.items
  pub batch : after.batch ≡ before.batch
  pub late : after.is_late ≡ before.is_late
  pub limits : after.script.limits ≡ before.script.limits
  pub start : before.is_late ≡ true → after.script.start ≡ before.script.start
  pub few : AreFew before.script.limits before.script.start → AreFew after.script.limits after.script.start

-- a row that comes too late behind an instruction row keeps what it keeps
abbrev IsEarly : PlainDraft → PlainDraft → Type 0
IsEarly before after = Kept before after × (IsUnderway before → ⊥)

declared : (draft : PlainDraft) (new : List Address) (start : PlainAccounts) (after : PlainDraft) → Declares draft new start after
    → (AreFew draft.script.limits draft.script.start → AreFew draft.script.limits start) → IsEarly draft after
declared draft new start after row few = (
  subst (Kept draft) row.leaves
      (record { rows = refl; lanes = refl; items = refl; batch = refl; late = refl; limits = refl; start = λ late. absurd (differ (sym late ∙ row.early)); few = few }),
  λ under. differ (sym under.late ∙ row.early),
)

module _ (draft : PlainDraft) (after : PlainDraft) where
  -- a row that chooses the program or sets the clock leaves the accounts, and what is taken
  pub program-row : (program : Program) → with_program draft program ≡ Ok after
      → (not draft.is_first ≡ false) × (record draft { script = record draft.script { program = program }; is_first = false } ≡ after)
  unfolding with_program
  program-row program is =
      let next = record draft { script = record draft.script { program = program }; is_first = false } in
      let a = unless-ok (not draft.is_first) (SetupRefused code.Program) (Ok next) after is in (a.0, ok-same {E = FaultKind} next after a.1)

  pub clock-row : (now : ℤ) → ◌≡◌ {A = Result PlainDraft FaultKind} (Ok (with_clock draft now)) (Ok after) → with_clock draft now ≡ after
  clock-row now is = ok-same (with_clock draft now) after is

  pub kept-clock : (now : ℤ) → ◌≡◌ {A = Result PlainDraft FaultKind} (Ok (with_clock draft now)) (Ok after) → Kept draft after
  kept-clock now is = subst (Kept draft) (clock-row now is) (record { rows = refl; lanes = refl; items = refl; batch = refl; late = refl; limits = refl; start = λ late. refl; few = λ few. few })

-- a row that declares accounts or chooses the program, which comes too late behind an instruction row
pub kept-setup : (number : ℕ) (before after : PlainDraft) (statement : Statement) → IsSetup statement
    → with_statement before number statement ≡ Ok after → IsEarly before after
kept-setup number before after (row.Program program) setup is =
    let row = program-row before after program is in (
      subst (Kept before) row.1
          (record { rows = refl; lanes = refl; items = refl; batch = refl; late = refl; limits = refl; start = λ late. refl; few = λ few. few }),
      λ under. differ (sym (ap not under.first) ∙ row.0),
    )
kept-setup number before after (row.Mint address decimals) setup is =
    declared before _ _ after (mint-row before after address decimals is).declares (λ few. record { within = few.within; markets = few.markets; wallets = few.wallets })
kept-setup number before after (row.Srm mint) setup is =
    declared before _ _ after (srm-row before after mint is).1 (λ few. record { within = few.within; markets = few.markets; wallets = few.wallets })
kept-setup number before after (row.Msrm mint) setup is =
    declared before _ _ after (msrm-row before after mint is).1 (λ few. record { within = few.within; markets = few.markets; wallets = few.wallets })
kept-setup number before after (row.Wallet address mint owner amount) setup is =
    let made = wallet-row before after address mint owner amount is in
    let wallet : PlainAccount = record { address = address; bytes = wallet_bytes mint owner amount } in
    declared before _ _ after made.declares
    (λ few. record { within = few.within; markets = few.markets; wallets = omega (arith, length-append before.script.start.wallets (wallet ∷ []), made.few) })
kept-setup number before after (row.Market words) setup is =
    let made = market-row before after words is in
    declared before _ _ after made.declares
    (λ few. record { within = few.within; markets = omega (arith, length-append before.script.start.markets (made_accounts made.set ∷ []), made.few); wallets = few.wallets })
kept-setup number before after (row.Orders market address) setup is =
    declared before _ _ after (orders-row before after market address is).declares
    (λ few. record {
      within = few.within;
      markets = omega (arith, few.markets, orders-length market (blank_account address) before.script.start.markets);
      wallets = few.wallets;
    })
kept-setup number before after other setup is = absurd setup

-- ---- what a reader knows stays

-- no rows are placed among any accounts
none-placed : (start : PlainAccounts) (rows : List PlainRow) (places : List RowPlaces) (other : PlainAccounts) → rows ≡ [] → ArePlaced start rows places
    → ArePlaced other rows places
none-placed start [] [] other none are = tt
none-placed start [] (place ∷ places) other none are = absurd are
none-placed start (row ∷ rows) places other none are = absurd (cc)

pub kept-reading : (before after : PlainDraft) (places : List RowPlaces) → Kept before after → IsReading before places → IsReading after places
kept-reading before after places kept reading = record {
  placed = placed_now before.is_late refl;
  beside = subst (λ (rows : List PlainRow). AreBeside rows places) (sym kept.rows) reading.beside;
  quiet = λ early. kept.rows ∙ reading.quiet (sym kept.late ∙ early);
  few = kept.few reading.few;
}
  where
    placed_now : (late : Bool) → before.is_late ≡ late → ArePlaced after.script.start after.script.rows places
    placed_now true is =
        subst (λ (start : PlainAccounts). ArePlaced start after.script.rows places) (sym (kept.start is))
        (subst (λ (rows : List PlainRow). ArePlaced before.script.start rows places) (sym kept.rows) reading.placed)
    placed_now false is =
        subst (λ (rows : List PlainRow). ArePlaced after.script.start rows places) (sym kept.rows)
        (none-placed before.script.start before.script.rows places after.script.start (reading.quiet is) reading.placed)
