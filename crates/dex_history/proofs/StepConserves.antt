-- a row moves amounts between wallets and vaults of their mint, and makes and loses none
use Rattle.std.proofs.Common.{ℕ, ◌+◌, ◌≡◌, List, [], ◌∷◌, Option, Some, None, Result, Ok, Err, is_some, take, refl, arith}
use Rattle.dex_types.specs.declared.addresses.Address.{Address}
use Rattle.dex_types.specs.declared.instructions.BadData.{BadData}
use Rattle.dex_types.specs.declared.instructions.Ix.{Ix}
use Rattle.dex_types.specs.declared.instructions.Ix.TheVariants.{InitializeMarket, MatchOrders, ConsumeEvents, SettleFunds, DisableMarket, SweepFees, NewOrderV3, CancelOrderV2, CancelOrderByClientIdV2, SendTake, CloseOpenOrders, InitOpenOrders, Prune, CancelOrdersByClientIds}
use Rattle.dex_types.specs.declared.refusals.Refusal.{Refusal}
use Rattle.dex_types.specs.declared.rows.Seen.{Seen}
use Rattle.dex_types.specs.declared.terms.Side.{Side}
use Rattle.dex_types.specs.declared.terms.Side.TheVariants.{Bid, Ask}
use Rattle.dex_types.specs.Cancel.{ById, ByClient, ByClients, First}
use Rattle.dex_types.specs.Market.{Market}
use Rattle.dex_types.specs.NewOrder.{NewOrder}
use Rattle.dex_types.specs.Requests.{Request, Party, party_of}
use Rattle.dex_types.specs.Side.{Token, Coin, Pc, locked_token}
use Rattle.dex_types.specs.Solvency.{vault}
use Rattle.dex_types.specs.Soundness.{IsSound}
use Rattle.dex_types.specs.Steps.{Step, by_party, act_order, act_cancel, act_settle, act_init, act_close, act, act_decoded, unless_refused}
use Rattle.dex_types.specs.Terms.{terms_order, terms_take}
use Rattle.dex_types.specs.Transfers.{no_transfers, deposit}
use Rattle.dex_types.specs.Wallets.{movements}
use Rattle.dex_types.specs.Why.{why}
use Rattle.dex_sound.specs.Kept.{KeepsMarket}
use Rattle.dex_sound.proofs.KeepLaws.{step-keeps}
use Rattle.dex_sound.proofs.StepSound.{party-found}
use Rattle.dex_history.specs.Balances.{mint_of}
use Rattle.dex_history.specs.Journal.{Asked, Sees, asked_step}
use Rattle.dex_history.specs.Mints.{all_debited, all_credited, MeetVaults}
use Rattle.dex_history.proofs.BalanceLaws.{ArePaid, settle-paid, sweep-paid, take-paid}
use Rattle.dex_history.proofs.StepMints.{row-meets}

-- what a row's transfers take out of vaults is there
still-paid : (m : Market) → ArePaid no_transfers m
still-paid m = record { coin = omega arith; pc = omega arith }

deposit-paid : (side : Side) (amount : ℕ) (m : Market) → ArePaid (deposit (locked_token side) amount) m
deposit-paid Bid amount m = record { coin = omega arith; pc = omega arith }
deposit-paid Ask amount m = record { coin = omega arith; pc = omega arith }

party-paid : (acts : Party → Step) (m : Market) (party : Option Party) → ((found : Party) → party ≡ Some found → ArePaid (acts found).transfers m) → ArePaid (by_party acts m party).transfers m
party-paid acts m None each = still-paid m
party-paid acts m (Some found) each = each found refl

init-paid : (named : List Address) (signer : Address) (m : Market) → ArePaid (act_init named signer m).transfers m
init-paid [] signer m = still-paid m
init-paid (address ∷ others) signer m = still-paid m

act-paid : (ix : Ix) (request : Request) (seen : Seen) (m : Market) → IsSound m → ArePaid (act ix request seen m).transfers m
act-paid (InitializeMarket coin_lot pc_lot fee_rate_bps nonce dust) request seen m sound = still-paid m
act-paid (MatchOrders limit) request seen m sound = still-paid m
act-paid (ConsumeEvents limit) request seen m sound = still-paid m
act-paid SettleFunds request seen m sound =
    party-paid (act_settle seen m) m (party_of request.named m.traders)
    (λ party found. settle-paid m party.address party.account (is_some seen.referrer) sound (party-found request.named m.traders party found))
act-paid DisableMarket request seen m sound = still-paid m
act-paid SweepFees request seen m sound = sweep-paid m sound
act-paid (NewOrderV3 side price lots max_pc self_trade order_type client limit latest) request seen m sound =
    let order : Address → NewOrder = terms_order request seen price lots max_pc self_trade order_type client limit latest in
    party-paid (act_order side order m) m (party_of request.named m.traders) (λ party found. deposit-paid side _ m)
act-paid (CancelOrderV2 side id) request seen m sound = party-paid (act_cancel (ById side id) m) m (party_of request.named m.traders) (λ party found. still-paid m)
act-paid (CancelOrderByClientIdV2 client) request seen m sound = party-paid (act_cancel (ByClient client) m) m (party_of request.named m.traders) (λ party found. still-paid m)
act-paid (SendTake side price lots max_pc min_lots min_pc limit) request seen m sound = take-paid side (terms_take seen price lots max_pc min_lots min_pc limit) m sound
act-paid CloseOpenOrders request seen m sound = party-paid (act_close m) m (party_of request.named m.traders) (λ party found. still-paid m)
act-paid InitOpenOrders request seen m sound = init-paid request.named request.signer m
act-paid (Prune limit) request seen m sound = party-paid (act_cancel (First limit) m) m (party_of request.named m.traders) (λ party found. still-paid m)
act-paid (CancelOrdersByClientIds ids) request seen m sound =
    party-paid (act_cancel (ByClients (take ids.count ids.ids)) m) m (party_of request.named m.traders) (λ party found. still-paid m)

decoded-paid : (instruction : Result Ix BadData) (request : Request) (seen : Seen) (m : Market) → IsSound m → ArePaid (act_decoded instruction request seen m).transfers m
decoded-paid (Err rule) request seen m sound = still-paid m
decoded-paid (Ok ix) request seen m sound = act-paid ix request seen m sound

unless-paid : (reason : Option Refusal) (m : Market) (acted : Step) → ArePaid acted.transfers m → ArePaid (unless_refused reason m acted).transfers m
unless-paid None m acted paid = paid
unless-paid (Some refusal) m acted paid = still-paid m

pub row-paid : (row : Asked) (seen : Seen) (m : Market) → IsSound m → ArePaid (asked_step row seen m).transfers m
row-paid row seen m sound =
    unless-paid (why row.request seen m) m (act_decoded row.request.instruction row.request seen m) (decoded-paid row.request.instruction row.request seen m sound)

-- so a vault with what wallets of its mint got is what it was with what they paid
conserved : (row : Asked) (seen : Seen) (m : Market) (s : Step) → KeepsMarket m s → ArePaid s.transfers m → MeetVaults seen m s.transfers (movements seen s.transfers) → (token : Token)
    → vault token s.market + all_credited seen (mint_of token m) (movements seen s.transfers) ≡ vault token m + all_debited seen (mint_of token m) (movements seen s.transfers)
conserved row seen m s keeps paid meets Coin = omega (arith, keeps.coin, paid.coin, meets.debits Coin, meets.credits Coin)
conserved row seen m s keeps paid meets Pc = omega (arith, keeps.pc, paid.pc, meets.debits Pc, meets.credits Pc)

pub row-conserves : (row : Asked) (seen : Seen) (m : Market) (token : Token) → IsSound m → Sees row seen
    → vault token (asked_step row seen m).market + all_credited seen (mint_of token m) (movements seen (asked_step row seen m).transfers)
    ≡ vault token m + all_debited seen (mint_of token m) (movements seen (asked_step row seen m).transfers)
row-conserves row seen m token sound sees =
    conserved row seen m (asked_step row seen m) (step-keeps row.request seen m) (row-paid row seen m sound) (row-meets row seen m sound sees) token
