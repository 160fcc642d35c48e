-- where an audit of all accounts finds nothing, it finds nothing by any rule in any market, and each mint is conserved
use Rattle.std.proofs.Common.{◌≡◌, List, [], length, get_or, refl, arith}
use Rattle.std.specs.List.{All}
use Rattle.dex_fields.specs.declared.mint.TheConstants.{SUPPLY}
use Rattle.dex_types.specs.Accounts.{PlainAccount, PlainAccounts, PlainMarketAccounts}
use Rattle.dex_token.specs.MintAccount.{IsMint, mint_words}
use Rattle.dex_accounts.specs.Decoded.{AreSound}
use Rattle.dex_types.specs.declared.limits.Limits.{Limits}
use Rattle.dex_state.specs.Accepted.{AreAccepted}
use Rattle.dex_state.specs.Held.{HoldBytes}
use Rattle.dex_state.specs.Conserved.{IsConserved, held_of}
use Rattle.dex_audit.specs.Findings.{findings, fund_findings, slot_findings, told}
use Rattle.dex_audit.specs.Supplies.{supplies_off, supply_off}
use Rattle.dex_audit_rules.specs.declared.market.Rule.{Rule}
use Rattle.dex_audit_rules.specs.declared.market.Rule.TheVariants as rule
use Rattle.dex_audit_rules.specs.RulesOf.{told_by}
use Rattle.dex_audit.proofs.FundLaws.{differs-none}
use Rattle.dex_audit_rules.proofs.ListLaws.{append-none, flat_map-none}
use Rattle.dex_audit.proofs.MarketForm.{word-lt}
use Rattle.dex_audit.proofs.OnceLaws.{accounts-distinct}
use Rattle.dex_audit.proofs.SoundLaw.{IsClean, are-sound}

-- a rule finds nothing in each market
each-none : (rule : Rule) (markets : List PlainMarketAccounts) → told rule markets ≡ [] → All (λ (market : PlainMarketAccounts). told_by rule market ≡ []) markets
each-none rule markets none = flat_map-none (told_by rule) markets none

-- an audit finds nothing by any rule in each of these markets
pub markets-clean : (markets : List PlainMarketAccounts) → slot_findings markets ≡ [] → fund_findings markets ≡ [] → told rule.TooLarge markets ≡ [] → All IsClean markets
markets-clean markets slots funds last =
    let p1 = append-none (told rule.Homeless markets) _ slots in
    let p2 = append-none (told rule.Misheld markets) _ p1.1 in
    let p3 = append-none (told rule.Unpaired markets) _ p2.1 in
    let p4 = append-none (told rule.Astray markets) _ p3.1 in
    let p5 = append-none (told rule.Ungiven markets) (told rule.Repeated markets) p4.1 in
    let p7 = append-none (told rule.Totals markets) _ funds in
    let p8 = append-none (told rule.Deposits markets) _ p7.1 in
    let p9 = append-none (told rule.Vaults markets) _ p8.1 in
    let p10 = append-none (told rule.Rebates markets) (told rule.Beyond markets) p9.1 in
    λ k d lt. record {
      homeless = each-none rule.Homeless markets p1.0 k d lt;
      misheld = each-none rule.Misheld markets p2.0 k d lt;
      unpaired = each-none rule.Unpaired markets p3.0 k d lt;
      astray = each-none rule.Astray markets p4.0 k d lt;
      ungiven = each-none rule.Ungiven markets p5.0 k d lt;
      repeated = each-none rule.Repeated markets p5.1 k d lt;
      totals = each-none rule.Totals markets p7.0 k d lt;
      deposits = each-none rule.Deposits markets p8.0 k d lt;
      vaults = each-none rule.Vaults markets p9.0 k d lt;
      rebates = each-none rule.Rebates markets p10.0 k d lt;
      beyond = each-none rule.Beyond markets p10.1 k d lt;
      too_large = each-none rule.TooLarge markets last k d lt;
    }

-- an audit finds nothing by any rule
record AreClean (accounts : PlainAccounts) : Type 0 where
  markets : All IsClean accounts.markets
  mints : supplies_off accounts ≡ []

clean : (accounts : PlainAccounts) → findings accounts ≡ [] → AreClean accounts
unfolding findings
clean accounts none =
    let slots = append-none (slot_findings accounts.markets) _ none in
    let funds = append-none (fund_findings accounts.markets) _ slots.1 in
    let last = append-none (supplies_off accounts) (told rule.TooLarge accounts.markets) funds.1 in
    record { markets = markets-clean accounts.markets slots.0 funds.0 last.1; mints = last.0 }

pub markets-sound : (limits : Limits) (accounts : PlainAccounts) → AreAccepted limits accounts → HoldBytes accounts → findings accounts ≡ [] → All AreSound accounts.markets
markets-sound limits accounts can bytes none k d lt =
    are-sound (get_or accounts.markets k d) (record { accepted = can.markets k d lt; distinct = accounts-distinct accounts can k d lt }) (bytes.markets k d lt) ((clean accounts none).markets k d lt)

pub mints-conserved : (limits : Limits) (accounts : PlainAccounts) → AreAccepted limits accounts → HoldBytes accounts → findings accounts ≡ [] → All (IsConserved accounts) accounts.mints
mints-conserved limits accounts can bytes none k d lt =
    let mint : PlainAccount = get_or accounts.mints k d in
    let is : IsMint mint.bytes = can.mints k d lt in
    let size : length mint.bytes ≡ 82 = is.size in
    differs-none 12 mint.address 36 (mint_words mint.bytes).supply (held_of mint.address accounts)
    (word-lt mint.bytes SUPPLY (bytes.mints k d lt).bytes (omega arith) refl)
    (flat_map-none (supply_off accounts) accounts.mints (clean accounts none).mints k d lt)
