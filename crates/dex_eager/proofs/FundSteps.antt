-- settling, sweeping, and opening and closing accounts move no worth
use Rattle.std.proofs.Common.{ℕ, ◌+◌, ◌≡◌, ◌≤◌, Bool, true, false, cond, List, [], ◌∷◌, Option, Some, None, refl, sym, ap, ◌∙◌, subst, arith}
use Rattle.std.proofs.Math.Seq.{drop-length}
use Rattle.dex_types.specs.declared.addresses.Address.{Address}
use Rattle.dex_types.specs.Addresses.{is_same}
use Rattle.dex_types.specs.Market.{Market}
use Rattle.dex_types.specs.Requests.{Party, open_party, party_of}
use Rattle.dex_types.specs.Settle.{Settlement, settlement, settled_account}
use Rattle.dex_types.specs.Side.{Token, Coin, Pc, by_token}
use Rattle.dex_types.specs.Solvency.{free_of, referrer_of, all_referrers}
use Rattle.dex_types.specs.Soundness.{IsSound}
use Rattle.dex_types.specs.Steps.{done, settled, act_sweep, act_close}
use Rattle.dex_types.specs.Totals.{total}
use Rattle.dex_types.specs.Trader.{Account, Trader, Open, Blank, Closed, Traders, trader_at, put_trader}
use Rattle.dex_types.specs.Upkeep.{all_funds, fresh_account, after_init, after_disable}
use Rattle.dex_laws.proofs.TraderLaws.{traders-induction, trader_at-here, trader_at-there}
use Rattle.dex_sound.specs.Kept.{KeepsMarket}
use Rattle.dex_eager.specs.Eager.{eager_at, unchanged}
use Rattle.dex_eager.specs.Histories.{IsPaidAs}
use Rattle.dex_eager.specs.Slots.{maker_fills}
use Rattle.dex_eager.specs.Worth.{Ledger, is_first, for_account}
use Rattle.dex_eager.proofs.StepMoves.{Moves, no_gains, paid-still, moves-inside, free_in-put, for_account-none}

-- the party of a row is open at the address that the row names first
pub record IsParty (named : List Address) (traders : Traders) (party : Party) : Type 0 where
  pub found : trader_at party.address traders ≡ Some (Open party.account)
  pub first : (a : Address) → is_first a named ≡ is_same a party.address

open_party-is : (address : Address) (found : Option Trader) (party : Party) → open_party address found ≡ Some party
    → (address ≡ party.address) × (found ≡ Some (Open party.account))
open_party-is address None party is = absurd (cc)
open_party-is address (Some Blank) party is = absurd (cc)
open_party-is address (Some Closed) party is = absurd (cc)
open_party-is address (Some (Open account)) party is =
    let made : Party = record { address = address; account = account } in
    let one : made ≡ party = cc in
    (ap (λ (p : Party). p.address) one, ap (λ (p : Party). Some (Open p.account)) one)

pub party-is : (named : List Address) (traders : Traders) (party : Party) → party_of named traders ≡ Some party → IsParty named traders party
party-is [] traders party is = absurd (cc)
party-is (address ∷ others) traders party is =
    let both : (address ≡ party.address) × (trader_at address traders ≡ Some (Open party.account)) = open_party-is address (trader_at address traders) party is in
    record { found = subst (λ a. trader_at a traders ≡ Some (Open party.account)) both.0 both.1; first = λ a. ap (is_same a) both.0 }

-- a trader's part of a sum over all of them
pub found-part : (weight : Trader → ℕ) (address : Address) (trader : Trader) (traders : Traders) → trader_at address traders ≡ Some trader
    → weight trader ≤ total (λ (entry : Address × Trader). weight entry.1) traders
found-part weight address trader =
    traders-induction address (λ traders. trader_at address traders ≡ Some trader → weight trader ≤ total (λ (entry : Address × Trader). weight entry.1) traders)
    (λ found. absurd (cc))
    (λ entry others same found.
    let is : Some entry.1 ≡ Some trader = sym (trader_at-here address entry others same) ∙ found in
    let one : entry.1 ≡ trader = cc in
    let weighs : weight entry.1 ≡ weight trader = ap weight one in
    omega (arith, weighs))
    (λ entry others apart rest found. omega (arith, rest (sym (trader_at-there address entry others apart) ∙ found)))

settled-free : (token : Token) (account : Account) → free_of token (Open (settled_account account)) ≡ 0
settled-free Coin account = refl
settled-free Pc account = refl

settles-free : (token : Token) (account : Account) → by_token token account.coin.free account.pc.free ≡ free_of token (Open account)
settles-free Coin account = refl
settles-free Pc account = refl

settled-parts : (has_referrer : Bool) (account : Account)
    → (settlement has_referrer account).referrer + (settlement has_referrer account).to_fees ≡ account.referrer
settled-parts true account = omega arith
settled-parts false account = omega arith

-- settling pays out what the account has free, and no more of the referrer rebates than there is
pub settled-still : (m : Market) (ledger : Ledger) (named : List Address) (party : Party) (has_referrer : Bool) → IsSound m → IsParty named m.traders party
    → KeepsMarket m (settled m party (settlement has_referrer party.account))
    → IsPaidAs m ledger named (settled m party (settlement has_referrer party.account)) (unchanged (eager_at m ledger))
settled-still m ledger named party has_referrer sound is keeps =
    let s : Settlement = settlement has_referrer party.account in
    let part : party.account.referrer ≤ all_referrers m.traders = found-part referrer_of party.address (Open party.account) m.traders is.found in
    let moves : Moves m named (settled m party s) no_gains no_gains 0 = record {
      keeps = keeps;
      held = λ token a.
          let out : for_account a named (by_token token s.coin s.pc) ≡ cond (is_same a party.address) (free_of token (Open party.account)) 0 =
          ap (λ own. cond own (by_token token s.coin s.pc) 0) (is.first a)
          ∙ ap (λ amount. cond (is_same a party.address) amount 0) (settles-free token party.account) in
          let none : cond (is_same a party.address) (free_of token (Open (settled_account party.account))) 0 ≡ 0 =
          ap (λ amount. cond (is_same a party.address) amount 0) (settled-free token party.account) ∙ for_account-none a (party.address ∷ []) in
          omega (arith, out, none, for_account-none a named, free_in-put token party.address a (Open party.account) (Open (settled_account party.account)) m.traders is.found);
      taking = omega (arith, settled-parts has_referrer party.account, part, sound.funds.solvent.referrers);
    } in
    paid-still m ledger named (settled m party s) moves refl refl refl (ap maker_fills (drop-length m.events))

-- what is swept stays counted as taken
pub swept-still : (m : Market) (ledger : Ledger) (named : List Address) → KeepsMarket m (act_sweep m)
    → IsPaidAs m ledger named (act_sweep m) (unchanged (eager_at m ledger))
swept-still m ledger named keeps =
    paid-still m ledger named (act_sweep m)
    (moves-inside m named (act_sweep m) no_gains no_gains 0 keeps (λ token. refl) (λ token. refl) (λ token a. omega arith) (omega arith))
    refl refl refl (ap maker_fills (drop-length m.events))

-- a market that nothing was done to
pub done-still : (m : Market) (ledger : Ledger) (named : List Address) → KeepsMarket m (done m)
    → IsPaidAs m ledger named (done m) (unchanged (eager_at m ledger))
done-still m ledger named keeps =
    paid-still m ledger named (done m)
    (moves-inside m named (done m) no_gains no_gains 0 keeps (λ token. refl) (λ token. refl) (λ token a. omega arith) (omega arith))
    refl refl refl (ap maker_fills (drop-length m.events))

-- disabling a market moves nothing
pub disabled-still : (m : Market) (ledger : Ledger) (named : List Address) → KeepsMarket m (done (after_disable m))
    → IsPaidAs m ledger named (done (after_disable m)) (unchanged (eager_at m ledger))
disabled-still m ledger named keeps =
    paid-still m ledger named (done (after_disable m))
    (moves-inside m named (done (after_disable m)) no_gains no_gains 0 keeps (λ token. refl) (λ token. refl) (λ token a. omega arith) (omega arith))
    refl refl refl (ap maker_fills (drop-length m.events))

-- the market with another state of one account
abbrev with_trader : Address → Trader → Market → Market
with_trader address trader m = record m { traders = put_trader address trader m.traders }

-- an account that has as much free as before
put-still : (m : Market) (ledger : Ledger) (named : List Address) (address : Address) (old trader : Trader) → trader_at address m.traders ≡ Some old
    → ((token : Token) → free_of token trader ≡ free_of token old) → KeepsMarket m (done (with_trader address trader m))
    → IsPaidAs m ledger named (done (with_trader address trader m)) (unchanged (eager_at m ledger))
put-still m ledger named address old trader found same keeps =
    paid-still m ledger named (done (with_trader address trader m))
    (moves-inside m named (done (with_trader address trader m)) no_gains no_gains 0 keeps (λ token. refl) (λ token. refl)
    (λ token a.
    let equal : cond (is_same a address) (free_of token trader) 0 ≡ cond (is_same a address) (free_of token old) 0 =
    ap (λ amount. cond (is_same a address) amount 0) (same token) in
    omega (arith, equal, free_in-put token address a old trader m.traders found))
    (omega arith))
    refl refl refl (ap maker_fills (drop-length m.events))

-- an account that is opened has nothing free
pub opened-still : (m : Market) (ledger : Ledger) (named : List Address) (address signer : Address) → trader_at address m.traders ≡ Some Blank
    → KeepsMarket m (done (after_init address signer m)) → IsPaidAs m ledger named (done (after_init address signer m)) (unchanged (eager_at m ledger))
opened-still m ledger named address signer found keeps =
    put-still m ledger named address Blank (Open (fresh_account signer)) found (fresh-free signer) keeps
  where
    fresh-free : (signer : Address) (token : Token) → free_of token (Open (fresh_account signer)) ≡ 0
    fresh-free signer Coin = refl
    fresh-free signer Pc = refl

-- an account without funds has nothing free either
pub closed-still : (m : Market) (ledger : Ledger) (named : List Address) (party : Party) → IsSound m → IsParty named m.traders party → all_funds party.account ≡ 0
    → KeepsMarket m (act_close m party) → IsPaidAs m ledger named (act_close m party) (unchanged (eager_at m ledger))
closed-still m ledger named party sound is none keeps =
    put-still m ledger named party.address (Open party.account) Closed is.found (nothing-free m party sound is.found none) keeps
  where
    nothing-free : (m : Market) (party : Party) → IsSound m → trader_at party.address m.traders ≡ Some (Open party.account) → all_funds party.account ≡ 0
        → (token : Token) → 0 ≡ free_of token (Open party.account)
    nothing-free m party sound found none Coin = omega (arith, sound.funds.adds_up party.address party.account found Coin, none)
    nothing-free m party sound found none Pc = omega (arith, sound.funds.adds_up party.address party.account found Pc, none)
