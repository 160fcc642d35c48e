-- balances take what a market pays out
use Rattle.std.proofs.Common.{ℕ, ◌+◌, ◌≤◌, ◌≡◌, ◌≢◌, ◌^◌, Bool, true, false, not, leb, [], ◌∷◌, Option, Some, None, Result, Ok, Err, is_some, length, take, refl, sym, ap, ◌∙◌, subst, arith}
use Rattle.std.proofs.lemmas.Bool.{cond_both, cond-false, false≢true, false_from_ne_true, not-false, leb-true}
use Rattle.dex_types.specs.declared.addresses.Address.{Address}
use Rattle.dex_types.specs.declared.instructions.BadData.{BadData}
use Rattle.dex_types.specs.declared.instructions.Ix.{Ix}
use Rattle.dex_types.specs.declared.instructions.Ix.TheVariants.{InitializeMarket, MatchOrders, ConsumeEvents, SettleFunds, DisableMarket, SweepFees, NewOrderV3, CancelOrderV2, CancelOrderByClientIdV2, SendTake, CloseOpenOrders, InitOpenOrders, Prune, CancelOrdersByClientIds}
use Rattle.dex_types.specs.declared.refusals.Refusal.{Refusal}
use Rattle.dex_types.specs.declared.refusals.Refusal.TheVariants.{BalanceTooLarge, WrongMint}
use Rattle.dex_types.specs.declared.rows.Seen.{Seen}
use Rattle.dex_types.specs.declared.rows.WalletSeen.{WalletSeen}
use Rattle.dex_types.specs.declared.terms.Side.{Side}
use Rattle.dex_types.specs.declared.terms.Side.TheVariants.{Bid, Ask}
use Rattle.dex_types.specs.Addresses.{is_same}
use Rattle.dex_types.specs.Market.{Market, orders}
use Rattle.dex_types.specs.Cancel.{CancelBy, ById, ByClient, ByClients, First}
use Rattle.dex_types.specs.Meeting.{Meeting}
use Rattle.dex_types.specs.NewOrder.{NewOrder, Ordering, order_on, after_order}
use Rattle.dex_types.specs.Reasons.{ask_too_large, disabled, first_of, other_mint, too_full}
use Rattle.dex_types.specs.Requests.{Request, Party, party_of}
use Rattle.dex_types.specs.Settle.{settlement, settle_transfers, sweep_transfers}
use Rattle.dex_types.specs.Side.{Token, Coin, Pc, opposite}
use Rattle.dex_types.specs.Solvency.{vault}
use Rattle.dex_types.specs.Soundness.{IsSound}
use Rattle.dex_types.specs.Take.{Take, take_meeting, take_transfers, take_paid, take_terms, take_demand, too_little}
use Rattle.dex_types.specs.Terms.{terms_order, terms_take}
use Rattle.dex_types.specs.Trader.{Account, Open, trader_at}
use Rattle.dex_types.specs.Transfers.{Transfers}
use Rattle.dex_types.specs.Wallets.{amount_at, brought_to}
use Rattle.dex_types.specs.Why.{Limits, TakeReading, limits_of, order_reading, ordering_reasons, settling_reasons, standing_reasons, sweeping_reasons, take_asking_reasons, take_reading, taking_reasons, payer, of_party, why_order_early, why_ordering, why_order, why_take_early, why_taking, why_take, why_cancel, why_prune, why_close, why_settle, why_sweep, why_instruction, why_decoded, why}
use Rattle.dex_laws.proofs.MovedLaws.{meet-moved_le}
use Rattle.dex_laws.proofs.TraderLaws.{is_same-true, is_same-refl, is_same-sym}
use Rattle.dex_sound.proofs.FieldLaws.{pays-out}
use Rattle.dex_sound.proofs.GivenLaws.{is_plain, Gives, IsPlain, first_of-gives, plain-gives, none-gives, some-gives, where-gives, disabled-plain, missing-plain, not_owner-plain, not_authority-plain, other_mint-plain, would_self_trade-plain, below_minimum-plain, queue_full-plain, short_of-plain, why_init-plain, why_close-plain, why_disable-plain, why_order_early-plain, why_take_early-plain, standing-plain, ask_too_large-plain, why_cancel-plain, why_prune-plain}
use Rattle.dex_sound.proofs.OrderSoundReasons.{first_of-none, refused_where-none}
use Rattle.dex_sound.proofs.StepSound.{party-found}
use Rattle.dex_history.specs.Balances.{mint_of, FitsVault, FitVaults}
use Rattle.dex_history.specs.Journal.{Agree, Asked, Sees}

-- what transfers pay out of each vault is in it, and a referrer is paid out of the quote vault
pub record ArePaid (t : Transfers) (m : Market) : Type 0 where
  pub coin : t.coin_out ≤ m.coin_vault
  pub pc : t.pc_out + t.referrer_out ≤ m.pc_vault

pub settle-paid : (m : Market) (owner : Address) (account : Account) (has_referrer : Bool) → IsSound m → trader_at owner m.traders ≡ Some (Open account)
    → ArePaid (settle_transfers (settlement has_referrer account)) m
settle-paid m owner account has_referrer sound found = record {
  coin = (pays-out m sound).coin owner account found;
  pc = omega (
    arith,
    (pays-out m sound).pc owner account found,
    cond_both has_referrer account.referrer 0 (λ part. part ≤ account.referrer) (λ is. omega arith) (λ is. omega arith),
  );
}

pub sweep-paid : (m : Market) → IsSound m → ArePaid (sweep_transfers m) m
sweep-paid m sound = record { coin = omega arith; pc = omega (arith, sound.funds.solvent.vaults Pc) }

pub take-paid : (side : Side) (t : Take) (m : Market) → IsSound m → ArePaid (take_transfers side m.listing.sizes t (take_meeting side m.listing.sizes t (orders (opposite side) m))) m
take-paid Bid t m sound = record {
  coin = omega (arith, sound.funds.solvent.vaults Coin, meet-moved_le Bid (take_terms m.listing.sizes t) (take_demand Bid m.listing.sizes t) m.asks);
  pc = omega arith;
}
take-paid Ask t m sound = record {
  coin = omega arith;
  pc = omega (arith, sound.funds.solvent.vaults Pc, meet-moved_le Ask (take_terms m.listing.sizes t) (take_demand Ask m.listing.sizes t) m.bids);
}

-- an amount of a role at an address
pub amount-le : (address : Address) (role : Option WalletSeen) (amount : ℕ) → amount_at address role amount ≤ amount
amount-le address None amount = omega arith
amount-le address (Some wallet) amount = cond_both (is_same address wallet.address) amount 0 (λ part. part ≤ amount) (λ is. omega arith) (λ is. omega arith)

-- a wallet in a role has its mint, where it has one
pub right-mint : (mint : Address) (wallet : WalletSeen) → other_mint mint (Some wallet) ≡ None → is_same mint wallet.mint ≡ true
right-mint mint wallet none = not-false (is_same mint wallet.mint) (refused_where-none (not (is_same mint wallet.mint)) (WrongMint wallet.mint) none)

-- a role names the wallet, if it names its address
abbrev pub IsOneWith : WalletSeen → Option WalletSeen → Type 0
IsOneWith wallet role = (other : WalletSeen) → role ≡ Some other → wallet.address ≡ other.address → wallet ≡ other

pub agree-one : (wallet : WalletSeen) (role : Option WalletSeen) → Agree (Some wallet) role → IsOneWith wallet role
agree-one wallet None agree other is same = absurd (cc)
agree-one wallet (Some found) agree other is same =
    let one : found ≡ other = cc in
    agree (same ∙ sym (ap (λ (w : WalletSeen). w.address) one)) ∙ one

pub agree-one_back : (wallet : WalletSeen) (role : Option WalletSeen) → Agree role (Some wallet) → IsOneWith wallet role
agree-one_back wallet None agree other is same = absurd (cc)
agree-one_back wallet (Some found) agree other is same =
    let one : found ≡ other = cc in
    sym (agree (ap (λ (w : WalletSeen). w.address) one ∙ sym same)) ∙ one

-- so a wallet of one mint is in no role of another
pub apart-amount : (mint other : Address) (wallet : WalletSeen) (role : Option WalletSeen) (amount : ℕ) → is_same mint other ≡ false → is_same mint wallet.mint ≡ true
    → other_mint other role ≡ None → IsOneWith wallet role → amount_at wallet.address role amount ≡ 0
apart-amount mint other wallet None amount apart here right one = refl
apart-amount mint other wallet (Some found) amount apart here right one =
    cond-false (is_same wallet.address found.address) amount 0
    (false_from_ne_true (is_same wallet.address found.address) (λ same.
    let is : wallet ≡ found = one found refl (is_same-true wallet.address found.address same) in
    let there : other ≡ found.mint = is_same-true other found.mint (right-mint other found right) in
    let both : mint ≡ other = is_same-true mint wallet.mint here ∙ ap (λ (w : WalletSeen). w.mint) is ∙ sym there in
    false≢true (sym apart ∙ ap (is_same mint) (sym both) ∙ is_same-refl mint)))

pub apart-back : (m : Market) → is_same m.listing.coin_mint m.listing.pc_mint ≡ false → is_same m.listing.pc_mint m.listing.coin_mint ≡ false
apart-back m apart = is_same-sym m.listing.pc_mint m.listing.coin_mint ∙ apart

-- what a wallet in the coin role gets, and one in a role of quote
coin-brought : (seen : Seen) (t : Transfers) (wallet : WalletSeen) → amount_at wallet.address seen.pc t.pc_out ≡ 0 → amount_at wallet.address seen.referrer t.referrer_out ≡ 0
    → brought_to seen t wallet.address ≤ t.coin_out
coin-brought seen t wallet pc referrer = omega (arith, pc, referrer, amount-le wallet.address seen.coin t.coin_out)

pc-brought : (seen : Seen) (t : Transfers) (wallet : WalletSeen) → amount_at wallet.address seen.coin t.coin_out ≡ 0 → brought_to seen t wallet.address ≤ t.pc_out + t.referrer_out
pc-brought seen t wallet coin = omega (arith, coin, amount-le wallet.address seen.pc t.pc_out, amount-le wallet.address seen.referrer t.referrer_out)

-- the refusal is not for a balance
abbrev NotBalance : Refusal → Type 0
NotBalance (BalanceTooLarge balance amount) = ⊥
NotBalance _ = Unit {0}

plain-not : (refusal : Refusal) → is_plain refusal ≡ true → NotBalance refusal
plain-not (BalanceTooLarge balance amount) plain = absurd (false≢true plain)
plain-not refusal plain = tt

plainly : (reason : Option Refusal) → IsPlain reason → Gives NotBalance reason
plainly reason plain = plain-gives NotBalance plain-not reason plain

-- a wallet whose vault pays it has room
fits-full : (token : Token) (seen : Seen) (t : Transfers) (m : Market) (role : Option WalletSeen) → FitsVault token m role → other_mint (mint_of token m) role ≡ None
    → ((wallet : WalletSeen) → role ≡ Some wallet → is_same (mint_of token m) wallet.mint ≡ true → brought_to seen t wallet.address ≤ vault token m) → Gives NotBalance (too_full seen t role)
fits-full token seen t m None fits right paid = none-gives NotBalance
fits-full token seen t m (Some wallet) fits right paid =
    let mint : is_same (mint_of token m) wallet.mint ≡ true = right-mint (mint_of token m) wallet right in
    where-gives NotBalance _ _ (λ (full : leb (2 ^ 64) (wallet.balance + brought_to seen t wallet.address) ≡ true).
    absurd (omega (arith, fits mint, paid wallet refl mint, leb-true (2 ^ 64) (wallet.balance + brought_to seen t wallet.address) full)))

-- what is known of the roles that an instruction uses
record Roles (seen : Seen) (t : Transfers) (m : Market) : Type 0 where
  pub mints : is_same m.listing.coin_mint m.listing.pc_mint ≡ false
  pub coin : other_mint m.listing.coin_mint seen.coin ≡ None
  pub pc : other_mint m.listing.pc_mint seen.pc ≡ None
  pub paid : ArePaid t m

coin-full : (row : Asked) (seen : Seen) (t : Transfers) (m : Market) → Sees row seen → FitVaults seen m → Roles seen t m
    → ((wallet : WalletSeen) → seen.coin ≡ Some wallet → is_same m.listing.coin_mint wallet.mint ≡ true → amount_at wallet.address seen.referrer t.referrer_out ≡ 0)
    → Gives NotBalance (too_full seen t seen.coin)
coin-full row seen t m sees fit roles referrer =
    fits-full Coin seen t m seen.coin (fit.coin Coin) roles.coin
    (λ wallet is mint.
    let agree : Agree (Some wallet) seen.pc = subst (λ role. Agree role seen.pc) is sees.coin_pc in
    omega (
      arith,
      roles.paid.coin,
      coin-brought seen t wallet (apart-amount m.listing.coin_mint m.listing.pc_mint wallet seen.pc t.pc_out roles.mints mint roles.pc (agree-one wallet seen.pc agree))
          (referrer wallet is mint),
    ))

pc-full : (row : Asked) (seen : Seen) (t : Transfers) (m : Market) → Sees row seen → FitVaults seen m → Roles seen t m → Gives NotBalance (too_full seen t seen.pc)
pc-full row seen t m sees fit roles =
    fits-full Pc seen t m seen.pc (fit.pc Pc) roles.pc
    (λ wallet is mint.
    let agree : Agree seen.coin (Some wallet) = subst (λ role. Agree seen.coin role) is sees.coin_pc in
    omega (
      arith,
      roles.paid.pc,
      pc-brought seen t wallet
          (apart-amount m.listing.pc_mint m.listing.coin_mint wallet seen.coin t.coin_out (apart-back m roles.mints) mint roles.coin (agree-one_back wallet seen.coin agree)),
    ))

referrer-full : (row : Asked) (seen : Seen) (t : Transfers) (m : Market) → Sees row seen → FitVaults seen m → Roles seen t m
    → other_mint m.listing.pc_mint seen.referrer ≡ None → Gives NotBalance (too_full seen t seen.referrer)
referrer-full row seen t m sees fit roles right =
    fits-full Pc seen t m seen.referrer (fit.referrer Pc) right
    (λ wallet is mint.
    let agree : Agree seen.coin (Some wallet) = subst (λ role. Agree seen.coin role) is sees.coin_referrer in
    omega (
      arith,
      roles.paid.pc,
      pc-brought seen t wallet
          (apart-amount m.listing.pc_mint m.listing.coin_mint wallet seen.coin t.coin_out (apart-back m roles.mints) mint roles.coin (agree-one_back wallet seen.coin agree)),
    ))

-- settling
settle-balances : (row : Asked) (request : Request) (seen : Seen) (m : Market) (party : Party) → IsSound m → Sees row seen → FitVaults seen m
    → trader_at party.address m.traders ≡ Some (Open party.account) → Gives NotBalance (why_settle request seen m party)
settle-balances row request seen m party sound sees fit found =
    let t : Transfers = settle_transfers (settlement (is_some seen.referrer) party.account) in
    let roles : other_mint m.listing.coin_mint seen.coin ≡ None → other_mint m.listing.pc_mint seen.pc ≡ None → Roles seen t m =
    λ coin pc. record { mints = sound.form.mints; coin = coin; pc = pc; paid = settle-paid m party.address party.account (is_some seen.referrer) sound found } in
    first_of-gives NotBalance (settling_reasons seen request.signer m.listing.coin_mint m.listing.pc_mint party.account) (
      plainly _ (missing-plain seen.coin),
      λ has_coin. (
        plainly _ (missing-plain seen.pc),
        λ has_pc. (
          plainly _ (not_owner-plain request party.account),
          λ owned. (
            plainly _ (other_mint-plain m.listing.coin_mint seen.coin),
            λ coin. (
              plainly _ (other_mint-plain m.listing.pc_mint seen.pc),
              λ pc. (
                plainly _ (other_mint-plain m.listing.pc_mint seen.referrer),
                λ referrer. (
                  coin-full row seen t m sees fit (roles coin pc)
                      (λ wallet is mint. apart-amount m.listing.coin_mint m.listing.pc_mint wallet seen.referrer t.referrer_out sound.form.mints mint referrer
                      (agree-one wallet seen.referrer (subst (λ role. Agree role seen.referrer) is sees.coin_referrer))),
                  λ coin_fits. (pc-full row seen t m sees fit (roles coin pc), λ pc_fits. (referrer-full row seen t m sees fit (roles coin pc) referrer, λ fits. tt)),
                ),
              ),
            ),
          ),
        ),
      ),
    )

-- sweeping
sweep-balances : (request : Request) (seen : Seen) (m : Market) → IsSound m → FitVaults seen m → Gives NotBalance (why_sweep request seen m)
sweep-balances request seen m sound fit =
    let t : Transfers = sweep_transfers m in
    first_of-gives NotBalance (sweeping_reasons seen request.signer m.listing.authority m.listing.pc_mint m.pc_fees) (
      plainly _ (missing-plain seen.pc),
      λ pc. (
        plainly _ (not_authority-plain request m),
        λ signed. (
          plainly _ (other_mint-plain m.listing.pc_mint seen.pc),
          λ right. (
            fits-full Pc seen t m seen.pc (fit.pc Pc) right
                (λ wallet is mint. omega (arith, (sweep-paid m sound).pc, pc-brought seen t wallet (none-at wallet.address seen.coin))),
            λ fits. tt,
          ),
        ),
      ),
    )
  where
    none-at : (address : Address) (role : Option WalletSeen) → amount_at address role 0 ≡ 0
    none-at address role = omega (arith, amount-le address role 0)

-- a take
taking-balances : (row : Asked) (side : Side) (t : Take) (seen : Seen) (m : Market) → IsSound m → Sees row seen → FitVaults seen m
    → other_mint m.listing.coin_mint seen.coin ≡ None → other_mint m.listing.pc_mint seen.pc ≡ None → Gives NotBalance (why_taking side t seen (take_reading side t seen m))
taking-balances row side t seen m sound sees fit coin pc =
    let met : Meeting = take_meeting side m.listing.sizes t (orders (opposite side) m) in
    let transfers : Transfers = take_transfers side m.listing.sizes t met in
    let roles : Roles seen transfers m = record { mints = sound.form.mints; coin = coin; pc = pc; paid = take-paid side t m sound } in
    let reading : TakeReading = take_reading side t seen m in
    first_of-gives NotBalance (ask_too_large side m.listing.sizes t.lots ∷ first_of (taking_reasons side t seen reading) ∷ []) (
      plainly _ (ask_too_large-plain side m.listing.sizes t.lots),
      λ size. (
        first_of-gives NotBalance (taking_reasons side t seen reading) (
          plainly _ (below_minimum-plain (too_little side t met)),
          λ enough. (
            plainly _ (queue_full-plain (length met.events) m),
            λ room. (
              plainly _ (short_of-plain (take_paid side m.listing.sizes t met) (payer side seen)),
              λ pays. (
                coin-full row seen transfers m sees fit roles (λ wallet is mint. omega (arith, amount-le wallet.address seen.referrer 0)),
                λ coin_fits. (
                  pc-full row seen transfers m sees fit roles,
                  λ pc_fits. (where-gives NotBalance _ _ (λ beyond. tt), λ coin_sum. (where-gives NotBalance _ _ (λ beyond. tt), λ pc_sum. tt)),
                ),
              ),
            ),
          ),
        ),
        λ then. tt,
      ),
    )

take-balances : (row : Asked) (side : Side) (t : Take) (request : Request) (seen : Seen) (m : Market) → IsSound m → Sees row seen → FitVaults seen m
    → Gives NotBalance (why_take side t request seen m)
take-balances row side t request seen m sound sees fit =
    first_of-gives NotBalance (why_take_early side request seen m ∷ why_taking side t seen (take_reading side t seen m) ∷ []) (
      plainly _ (why_take_early-plain side request seen m),
      λ early. (
        let parts = first_of-none (take_asking_reasons side seen request.signer m.is_disabled m.listing.coin_mint m.listing.pc_mint) early in
            taking-balances row side t seen m sound sees fit parts.1.1.1.0 parts.1.1.1.1.0,
        λ then. tt,
      ),
    )

-- a new order brings nothing to a wallet
ordering-balances : (side : Side) (n : NewOrder) (seen : Seen) (m : Market) (account : Account) → Gives NotBalance (why_ordering side n (order_reading side n seen m account))
ordering-balances side n seen m account =
    let ordering : Ordering = order_on side m account n in
    let limits : Limits = limits_of side seen m (after_order side account n ordering m) in
    first_of-gives NotBalance (first_of (standing_reasons side n m.listing.sizes m.next_sequence account) ∷ first_of (ordering_reasons ordering limits) ∷ []) (
      plainly _ (standing-plain side n m.listing.sizes m.next_sequence account),
      λ standing. (
        first_of-gives NotBalance (ordering_reasons ordering limits) (
          plainly _ (would_self_trade-plain ordering.met.aborts),
          λ aborts. (
            plainly _ (queue_full-plain (length ordering.events) m),
            λ room. (
              plainly _ (short_of-plain ordering.deposit (payer side seen)),
              λ pays. (where-gives NotBalance _ _ (λ beyond. tt), λ coin. (where-gives NotBalance _ _ (λ beyond. tt), λ pc. tt)),
            ),
          ),
        ),
        λ then. tt,
      ),
    )

order-balances : (side : Side) (order : Address → NewOrder) (request : Request) (seen : Seen) (m : Market) (party : Party) → Gives NotBalance (why_order side order request seen m party)
order-balances side order request seen m party =
    let n : NewOrder = order party.address in
    first_of-gives NotBalance (why_order_early side request seen m party ∷ why_ordering side n (order_reading side n seen m party.account) ∷ [])
    (plainly _ (why_order_early-plain side request seen m party), λ early. (ordering-balances side n seen m party.account, λ then. tt))

-- what an open account asks
party-balances : (why : Party → Option Refusal) (party : Option Party) → ((found : Party) → party ≡ Some found → Gives NotBalance (why found)) → Gives NotBalance (of_party why party)
party-balances why None each = some-gives NotBalance _ tt
party-balances why (Some found) each = each found refl

instruction-balances : (row : Asked) (ix : Ix) (request : Request) (seen : Seen) (m : Market) → IsSound m → Sees row seen → FitVaults seen m → Gives NotBalance (why_instruction ix request seen m)
instruction-balances row (InitializeMarket coin_lot pc_lot fee_rate_bps nonce dust) request seen m sound sees fit = some-gives NotBalance _ tt
instruction-balances row (MatchOrders limit) request seen m sound sees fit = none-gives NotBalance
instruction-balances row (ConsumeEvents limit) request seen m sound sees fit = none-gives NotBalance
instruction-balances row SettleFunds request seen m sound sees fit =
    party-balances (why_settle request seen m) (party_of request.named m.traders)
    (λ party found. settle-balances row request seen m party sound sees fit (party-found request.named m.traders party found))
instruction-balances row DisableMarket request seen m sound sees fit = plainly _ (why_disable-plain request m)
instruction-balances row SweepFees request seen m sound sees fit = sweep-balances request seen m sound fit
instruction-balances row (NewOrderV3 side price lots max_pc self_trade order_type client limit latest) request seen m sound sees fit =
    let order : Address → NewOrder = terms_order request seen price lots max_pc self_trade order_type client limit latest in
    first_of-gives NotBalance (disabled m ∷ of_party (why_order side order request seen m) (party_of request.named m.traders) ∷ []) (
      plainly _ (disabled-plain m),
      λ enabled. (party-balances (why_order side order request seen m) (party_of request.named m.traders) (λ party found. order-balances side order request seen m party), λ then. tt),
    )
instruction-balances row (CancelOrderV2 side id) request seen m sound sees fit =
    party-balances (why_cancel (ById side id) request m) (party_of request.named m.traders) (λ party found. plainly _ (why_cancel-plain (ById side id) request m party))
instruction-balances row (CancelOrderByClientIdV2 client) request seen m sound sees fit =
    party-balances (why_cancel (ByClient client) request m) (party_of request.named m.traders) (λ party found. plainly _ (why_cancel-plain (ByClient client) request m party))
instruction-balances row (SendTake side price lots max_pc min_lots min_pc limit) request seen m sound sees fit =
    take-balances row side (terms_take seen price lots max_pc min_lots min_pc limit) request seen m sound sees fit
instruction-balances row CloseOpenOrders request seen m sound sees fit =
    party-balances (why_close request) (party_of request.named m.traders) (λ party found. plainly _ (why_close-plain request party))
instruction-balances row InitOpenOrders request seen m sound sees fit = plainly _ (why_init-plain request m)
instruction-balances row (Prune limit) request seen m sound sees fit =
    party-balances (why_prune (First limit) request m) (party_of request.named m.traders) (λ party found. plainly _ (why_prune-plain (First limit) request m party))
instruction-balances row (CancelOrdersByClientIds ids) request seen m sound sees fit =
    let by : CancelBy = ByClients (take ids.count ids.ids) in
    party-balances (why_cancel by request m) (party_of request.named m.traders) (λ party found. plainly _ (why_cancel-plain by request m party))

decoded-balances : (row : Asked) (instruction : Result Ix BadData) (request : Request) (seen : Seen) (m : Market) → IsSound m → Sees row seen → FitVaults seen m
    → Gives NotBalance (why_decoded instruction request seen m)
decoded-balances row (Err rule) request seen m sound sees fit = some-gives NotBalance _ tt
decoded-balances row (Ok ix) request seen m sound sees fit = instruction-balances row ix request seen m sound sees fit

-- so no row is refused for a balance
pub balance-never : (row : Asked) (seen : Seen) (m : Market) (balance amount : ℕ) → IsSound m → Sees row seen → FitVaults seen m → why row.request seen m ≢ Some (BalanceTooLarge balance amount)
balance-never row seen m balance amount sound sees fit refused =
    decoded-balances row row.request.instruction row.request seen m sound sees fit (BalanceTooLarge balance amount) refused
