-- the wallets that a row moves are of the market's mints
use Rattle.std.proofs.Common.{ℕ, ◌≡◌, inl, inr, List, [], ◌∷◌, Option, Some, None, Result, Ok, Err, is_some, take, refl}
use Rattle.dex_types.specs.declared.addresses.Address.{Address}
use Rattle.dex_types.specs.declared.instructions.BadData.{BadData}
use Rattle.dex_types.specs.declared.instructions.Ix.{Ix}
use Rattle.dex_types.specs.declared.instructions.Ix.TheVariants.{InitializeMarket, MatchOrders, ConsumeEvents, SettleFunds, DisableMarket, SweepFees, NewOrderV3, CancelOrderV2, CancelOrderByClientIdV2, SendTake, CloseOpenOrders, InitOpenOrders, Prune, CancelOrdersByClientIds}
use Rattle.dex_types.specs.declared.refusals.Refusal.{Refusal}
use Rattle.dex_types.specs.declared.rows.Seen.{Seen}
use Rattle.dex_types.specs.declared.rows.WalletSeen.{WalletSeen}
use Rattle.dex_types.specs.declared.terms.Side.{Side}
use Rattle.dex_types.specs.declared.terms.Side.TheVariants.{Bid, Ask}
use Rattle.dex_types.specs.Cancel.{ById, ByClient, ByClients, First}
use Rattle.dex_types.specs.Market.{Market, orders}
use Rattle.dex_types.specs.Meeting.{Meeting}
use Rattle.dex_types.specs.NewOrder.{NewOrder, Ordering, order_on}
use Rattle.dex_types.specs.Reasons.{disabled, missing, other_mint}
use Rattle.dex_types.specs.Requests.{Request, Party, party_of}
use Rattle.dex_types.specs.Settle.{settlement, settle_transfers, sweep_transfers}
use Rattle.dex_types.specs.Side.{opposite, locked_token}
use Rattle.dex_types.specs.Steps.{Step, by_party, act_order, act_cancel, act_settle, act_init, act_close, act, act_decoded, unless_refused}
use Rattle.dex_types.specs.Soundness.{IsSound}
use Rattle.dex_types.specs.Take.{Take, take_meeting, take_transfers}
use Rattle.dex_types.specs.Terms.{terms_order, terms_take}
use Rattle.dex_types.specs.Transfers.{Transfers, no_transfers, deposit}
use Rattle.dex_types.specs.Wallets.{movements}
use Rattle.dex_types.specs.Trader.{Account}
use Rattle.dex_types.specs.Why.{payer, payer_mint, of_party, settling_reasons, sweeping_reasons, why_order, why_take, why_settle, why_sweep, why_instruction, why_decoded, why}
use Rattle.dex_sound.proofs.OrderSoundReasons.{first_of-none, order-none, take-none}
use Rattle.dex_history.specs.Journal.{Asked, Sees, asked_step}
use Rattle.dex_history.proofs.BalanceLaws.{right-mint}
use Rattle.dex_history.specs.Mints.{MeetVaults}
use Rattle.dex_history.proofs.MintLaws.{IsOfMint, AreOfMints, transfers-meet}
use Rattle.dex_history.proofs.StepMoves.{row-can}

-- a role that is named has a wallet, and one of the mint
named-of : (mint : Address) (role : Option WalletSeen) (amount : ℕ) → missing role ≡ None → other_mint mint role ≡ None → IsOfMint mint role amount
named-of mint None amount named right = absurd (cc)
named-of mint (Some wallet) amount named right = inr (wallet, refl, right-mint mint wallet right)

-- rows that move nothing
still-of : (seen : Seen) (m : Market) → AreOfMints seen m no_transfers
still-of seen m = record { coin_in = inl refl; pc_in = inl refl; coin_out = inl refl; pc_out = inl refl; referrer_out = inl refl }

-- a new order
order-of : (side : Side) (order : Address → NewOrder) (request : Request) (seen : Seen) (m : Market) (party : Party) → why_order side order request seen m party ≡ None
    → AreOfMints seen m (act_order side order m party).transfers
order-of side order request seen m party none =
    let n : NewOrder = order party.address in
    let ordering : Ordering = order_on side m party.account n in
    let early = (order-none side n request seen m party none).asking in
    deposit-of side seen m ordering.deposit early.0 early.1.1.0
  where
    deposit-of : (side : Side) (seen : Seen) (m : Market) (amount : ℕ) → missing (payer side seen) ≡ None → other_mint (payer_mint side m) (payer side seen) ≡ None
        → AreOfMints seen m (deposit (locked_token side) amount)
    deposit-of Bid seen m amount named right =
        record { coin_in = inl refl; pc_in = named-of m.listing.pc_mint seen.pc amount named right; coin_out = inl refl; pc_out = inl refl; referrer_out = inl refl }
    deposit-of Ask seen m amount named right =
        record { coin_in = named-of m.listing.coin_mint seen.coin amount named right; pc_in = inl refl; coin_out = inl refl; pc_out = inl refl; referrer_out = inl refl }

-- a take
take-of : (side : Side) (t : Take) (request : Request) (seen : Seen) (m : Market) → why_take side t request seen m ≡ None
    → AreOfMints seen m (take_transfers side m.listing.sizes t (take_meeting side m.listing.sizes t (orders (opposite side) m)))
take-of side t request seen m none =
    let met : Meeting = take_meeting side m.listing.sizes t (orders (opposite side) m) in
    let transfers : Transfers = take_transfers side m.listing.sizes t met in
    let early = (take-none side t request seen m none).asking in
    record {
      coin_in = named-of m.listing.coin_mint seen.coin transfers.coin_in early.1.0 early.1.1.1.0;
      pc_in = named-of m.listing.pc_mint seen.pc transfers.pc_in early.1.1.0 early.1.1.1.1.0;
      coin_out = named-of m.listing.coin_mint seen.coin transfers.coin_out early.1.0 early.1.1.1.0;
      pc_out = named-of m.listing.pc_mint seen.pc transfers.pc_out early.1.1.0 early.1.1.1.1.0;
      referrer_out = inl refl;
    }

-- settling and sweeping
referrer-of : (m : Market) (role : Option WalletSeen) (account : Account) → other_mint m.listing.pc_mint role ≡ None
    → IsOfMint m.listing.pc_mint role (settle_transfers (settlement (is_some role) account)).referrer_out
referrer-of m None account right = inl refl
referrer-of m (Some wallet) account right = inr (wallet, refl, right-mint m.listing.pc_mint wallet right)

settle-of : (request : Request) (seen : Seen) (m : Market) (party : Party) → why_settle request seen m party ≡ None → AreOfMints seen m (act_settle seen m party).transfers
settle-of request seen m party none =
    let t : Transfers = settle_transfers (settlement (is_some seen.referrer) party.account) in
    let parts = first_of-none (settling_reasons seen request.signer m.listing.coin_mint m.listing.pc_mint party.account) none in
    record {
      coin_in = inl refl;
      pc_in = inl refl;
      coin_out = named-of m.listing.coin_mint seen.coin t.coin_out parts.0 parts.1.1.1.0;
      pc_out = named-of m.listing.pc_mint seen.pc t.pc_out parts.1.0 parts.1.1.1.1.0;
      referrer_out = referrer-of m seen.referrer party.account parts.1.1.1.1.1.0;
    }

sweep-of : (request : Request) (seen : Seen) (m : Market) → why_sweep request seen m ≡ None → AreOfMints seen m (sweep_transfers m)
sweep-of request seen m none =
    let t : Transfers = sweep_transfers m in
    let parts = first_of-none (sweeping_reasons seen request.signer m.listing.authority m.listing.pc_mint m.pc_fees) none in
    record { coin_in = inl refl; pc_in = inl refl; coin_out = inl refl; pc_out = named-of m.listing.pc_mint seen.pc t.pc_out parts.0 parts.1.1.0; referrer_out = inl refl }

-- what an open account asks
party-of : (why : Party → Option Refusal) (acts : Party → Step) (seen : Seen) (m : Market) (party : Option Party)
    → ((found : Party) → why found ≡ None → AreOfMints seen m (acts found).transfers) → of_party why party ≡ None → AreOfMints seen m (by_party acts m party).transfers
party-of why acts seen m None each none = absurd (cc)
party-of why acts seen m (Some found) each none = each found none

still-party : (acts : Party → Step) (seen : Seen) (m : Market) (party : Option Party) → ((found : Party) → AreOfMints seen m (acts found).transfers) → AreOfMints seen m (by_party acts m party).transfers
still-party acts seen m None each = still-of seen m
still-party acts seen m (Some found) each = each found

init-of : (named : List Address) (signer : Address) (seen : Seen) (m : Market) → AreOfMints seen m (act_init named signer m).transfers
init-of [] signer seen m = still-of seen m
init-of (address ∷ others) signer seen m = still-of seen m

act-of : (ix : Ix) (request : Request) (seen : Seen) (m : Market) → why_instruction ix request seen m ≡ None → AreOfMints seen m (act ix request seen m).transfers
act-of (InitializeMarket coin_lot pc_lot fee_rate_bps nonce dust) request seen m none = still-of seen m
act-of (MatchOrders limit) request seen m none = still-of seen m
act-of (ConsumeEvents limit) request seen m none = still-of seen m
act-of SettleFunds request seen m none =
    party-of (why_settle request seen m) (act_settle seen m) seen m (party_of request.named m.traders) (λ party why_not. settle-of request seen m party why_not) none
act-of DisableMarket request seen m none = still-of seen m
act-of SweepFees request seen m none = sweep-of request seen m none
act-of (NewOrderV3 side price lots max_pc self_trade order_type client limit latest) request seen m none =
    let order : Address → NewOrder = terms_order request seen price lots max_pc self_trade order_type client limit latest in
    party-of (why_order side order request seen m) (act_order side order m) seen m (party_of request.named m.traders)
    (λ party why_not. order-of side order request seen m party why_not)
    (first_of-none (disabled m ∷ of_party (why_order side order request seen m) (party_of request.named m.traders) ∷ []) none).1.0
act-of (CancelOrderV2 side id) request seen m none = still-party (act_cancel (ById side id) m) seen m (party_of request.named m.traders) (λ party. still-of seen m)
act-of (CancelOrderByClientIdV2 client) request seen m none =
    still-party (act_cancel (ByClient client) m) seen m (party_of request.named m.traders) (λ party. still-of seen m)
act-of (SendTake side price lots max_pc min_lots min_pc limit) request seen m none = take-of side (terms_take seen price lots max_pc min_lots min_pc limit) request seen m none
act-of CloseOpenOrders request seen m none = still-party (act_close m) seen m (party_of request.named m.traders) (λ party. still-of seen m)
act-of InitOpenOrders request seen m none = init-of request.named request.signer seen m
act-of (Prune limit) request seen m none = still-party (act_cancel (First limit) m) seen m (party_of request.named m.traders) (λ party. still-of seen m)
act-of (CancelOrdersByClientIds ids) request seen m none =
    still-party (act_cancel (ByClients (take ids.count ids.ids)) m) seen m (party_of request.named m.traders) (λ party. still-of seen m)

decoded-of : (instruction : Result Ix BadData) (request : Request) (seen : Seen) (m : Market) → why_decoded instruction request seen m ≡ None
    → AreOfMints seen m (act_decoded instruction request seen m).transfers
decoded-of (Err rule) request seen m none = still-of seen m
decoded-of (Ok ix) request seen m none = act-of ix request seen m none

unless-of : (reason : Option Refusal) (seen : Seen) (m : Market) (acted : Step) → (reason ≡ None → AreOfMints seen m acted.transfers)
    → AreOfMints seen m (unless_refused reason m acted).transfers
unless-of None seen m acted are = are refl
unless-of (Some refusal) seen m acted are = still-of seen m

pub row-of : (row : Asked) (seen : Seen) (m : Market) → AreOfMints seen m (asked_step row seen m).transfers
row-of row seen m =
    unless-of (why row.request seen m) seen m (act_decoded row.request.instruction row.request seen m)
    (decoded-of row.request.instruction row.request seen m)

-- so mint by mint the movements of a row are what enters and leaves vaults
pub row-meets : (row : Asked) (seen : Seen) (m : Market) → IsSound m → Sees row seen → MeetVaults seen m (asked_step row seen m).transfers (movements seen (asked_step row seen m).transfers)
row-meets row seen m sound sees =
    transfers-meet row seen m (asked_step row seen m).transfers sound.form.mints sees (row-of row seen m) (λ address. (row-can row seen m sound sees).one_way address)
