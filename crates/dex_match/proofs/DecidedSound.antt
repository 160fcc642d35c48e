-- what was decided of a new order on a sound market can be done there
use Rattle.std.proofs.Common.{◌≡◌, ℕ, ◌≤◌, [], ◌∷◌, Option, Some, None, Ok, refl, sym, ◌∙◌}
use Rattle.dex_types.specs.declared.addresses.Address.{Address}
use Rattle.dex_types.specs.declared.instructions.Ix.TheVariants.{ConsumeEvents}
use Rattle.dex_types.specs.declared.refusals.Refusal.{Refusal}
use Rattle.dex_types.specs.declared.rows.Seen.{Seen}
use Rattle.dex_types.specs.declared.rows.WalletSeen.{WalletSeen}
use Rattle.dex_types.specs.declared.terms.Side.{Side}
use Rattle.dex_types.specs.declared.terms.Side.TheVariants.{Bid, Ask}
use Rattle.dex_types.specs.Market.{Market}
use Rattle.dex_types.specs.NewOrder.{NewOrder, after_order, order_on}
use Rattle.dex_types.specs.Reasons.{first_of}
use Rattle.dex_types.specs.Requests.{Request, Party}
use Rattle.dex_types.specs.Soundness.{IsSound}
use Rattle.dex_types.specs.Trader.{Account}
use Rattle.dex_types.specs.Why.{payer, payer_mint, why_order_early, why_order_of}
use Rattle.dex_laws.proofs.TraderLaws.{is_same-refl}
use Rattle.dex_orders.specs.OrdersAccount.{account_of}
use Rattle.dex_sound.proofs.OrderSound.{order-sound}
use Rattle.dex_match.specs.OrderParts.{OrderGiven, parts_of}
use Rattle.dex_match.proofs.PartsLaws.{GivenOf}
use Rattle.dex_match.specs.Ordering.{order_reason}
use Rattle.dex_match.proofs.PartsLaws.{reason-is}

-- a wallet of the account's person that pays for its orders
abbrev wallet_of : Side → Market → Account → ℕ → WalletSeen
wallet_of side m account balance = record { address = account.person; mint = payer_mint side m; owner = account.person; balance = balance }

-- a row that names this wallet, and no other one
abbrev seen_of : Side → Market → Account → NewOrder → ℕ → Seen
seen_of side m account n balance = record {
  coin = Some (wallet_of side m account balance);
  pc = Some (wallet_of side m account balance);
  discount = None;
  referrer = None;
  srm = None;
  msrm = None;
  program = n.program;
}

-- a row that the person signed
abbrev request_of : Account → NewOrder → Request
request_of account n = record { instruction = Ok (ConsumeEvents 0); signer = account.person; named = []; now = n.now }

abbrev party_with : Address → Account → Party
party_with owner account = record { address = owner; account = account }

-- it is refused for no wallet
early-are : (side : Side) (m : Market) (account : Account) (n : NewOrder) (balance : ℕ)
    → why_order_early side (request_of account n) (seen_of side m account n balance) m (party_with n.owner account) ≡ None
early-are Bid m account n balance = rw (is_same-refl account.person, is_same-refl m.listing.pc_mint) refl
early-are Ask m account n balance = rw (is_same-refl account.person, is_same-refl m.listing.coin_mint) refl

payer-is : (side : Side) (m : Market) (account : Account) (n : NewOrder) (balance : ℕ)
    → payer side (seen_of side m account n balance) ≡ Some (wallet_of side m account balance)
payer-is Bid m account n balance = refl
payer-is Ask m account n balance = refl

none-of : (early late : Option Refusal) → early ≡ None → late ≡ None → first_of (early ∷ late ∷ []) ≡ None
none-of early late first second = rw (first, second) refl

-- an order that is not refused leaves the market sound
pub decided-sound : (side : Side) (n : NewOrder) (given : OrderGiven) (m : Market) (balance : ℕ) → IsSound m → GivenOf side n.owner given m → 1 ≤ n.price
    → order_reason side n (parts_of given) balance ≡ None
    → IsSound (after_order side (account_of given.account) n (order_on side m (account_of given.account) n) m)
decided-sound side n given m balance sound are priced accepted =
    let account : Account = account_of given.account in
    let seen : Seen = seen_of side m account n balance in
    let why = reason-is side n given m balance seen (wallet_of side m account balance) sound are (payer-is side m account n balance) refl in
    let none : why_order_of side n (request_of account n) seen m (party_with n.owner account) ≡ None =
    none-of _ _ (early-are side m account n balance) (sym why ∙ accepted) in
    order-sound side n (request_of account n) seen m (party_with n.owner account) sound are.known refl priced none
