-- what a step moves, and what the eager market makes of it
use Rattle.std.proofs.Common.{ℕ, ℤ, ◌+◌, ◌≡◌, List, [], ◌++◌, length, drop, refl, sym, ap, ◌∙◌, arith, ⊎_elim, true, false, cond, Some}
use Rattle.std.proofs.Math.Seq.{drop-append_seam}
use Rattle.std.proofs.lemmas.Bool.{cases_Bool, cond_both}
use Rattle.dex_types.specs.declared.addresses.Address.{Address}
use Rattle.dex_types.specs.declared.orders.Order.{Order}
use Rattle.dex_types.specs.declared.terms.Lots.{Lots}
use Rattle.dex_types.specs.Market.{Market}
use Rattle.dex_types.specs.QueuedEvent.{QueuedEvent}
use Rattle.dex_types.specs.Side.{Token, Coin, Pc}
use Rattle.dex_types.specs.Steps.{Step}
use Rattle.dex_types.specs.Addresses.{is_same}
use Rattle.dex_types.specs.Solvency.{free_of}
use Rattle.dex_types.specs.Trader.{Trader, Traders, trader_at, put_trader}
use Rattle.dex_laws.proofs.TraderLaws.{is_same-true, trader_at-put_same, trader_at-put_other}
use Rattle.dex_sound.specs.Kept.{addresses, KeepsMarket}
use Rattle.dex_eager.specs.Eager.{Eager, Worths, eager_at, unchanged}
use Rattle.dex_eager.specs.Histories.{appended, IsPaidAs}
use Rattle.dex_eager.specs.Slots.{without_slots, maker_fills}
use Rattle.dex_eager.specs.Worth.{Worth, Ledger, plus, net, with_step, is_first, free_in, for_account, deposit_in, settled_in, swept_in, referred_in, held_for, worth_in, worth_of, takings_of}
use Rattle.dex_eager.proofs.Sums.{worth-changes}
use Rattle.dex_eager.proofs.WorthLists.{worths_by, worths-by, worths-agree, plus-none}

-- two eager markets with equal parts are equal
pub eager-same : (e other : Eager) → e.sizes ≡ other.sizes → e.bid_capacity ≡ other.bid_capacity → e.ask_capacity ≡ other.ask_capacity → e.bids ≡ other.bids
    → e.asks ≡ other.asks → e.next_sequence ≡ other.next_sequence → e.worths ≡ other.worths → e.takings ≡ other.takings → e ≡ other
eager-same e other sizes bid_capacity ask_capacity bids asks sequence worths takings =
    let made : Lots → ℕ → ℕ → List Order → List Order → ℕ → Worths → ℕ → Eager = λ s b a x y n w t.
    record { sizes = s; bid_capacity = b; ask_capacity = a; bids = x; asks = y; next_sequence = n; worths = w; takings = t } in
    ap (λ s. made s e.bid_capacity e.ask_capacity e.bids e.asks e.next_sequence e.worths e.takings) sizes
    ∙ ap (λ b. made other.sizes b e.ask_capacity e.bids e.asks e.next_sequence e.worths e.takings) bid_capacity
    ∙ ap (λ a. made other.sizes other.bid_capacity a e.bids e.asks e.next_sequence e.worths e.takings) ask_capacity
    ∙ ap (λ x. made other.sizes other.bid_capacity other.ask_capacity x e.asks e.next_sequence e.worths e.takings) bids
    ∙ ap (λ y. made other.sizes other.bid_capacity other.ask_capacity other.bids y e.next_sequence e.worths e.takings) asks
    ∙ ap (λ n. made other.sizes other.bid_capacity other.ask_capacity other.bids other.asks n e.worths e.takings) sequence
    ∙ ap (λ w. made other.sizes other.bid_capacity other.ask_capacity other.bids other.asks other.next_sequence w e.takings) worths
    ∙ ap (made other.sizes other.bid_capacity other.ask_capacity other.bids other.asks other.next_sequence other.worths) takings

-- of each account and token, what a step moves: what it has the market hold, what it deposits and pays out, and what
-- fills bring and take; and of the market what it takes
pub record Moves (m : Market) (named : List Address) (s : Step) (gains pays : Token → Address → ℕ) (taken : ℕ) : Type 0 where
  pub keeps : KeepsMarket m s
  pub held : (token : Token) (a : Address)
      → held_for token a s.market + for_account a named (settled_in token s.reply) + pays token a
      ≡ held_for token a m + for_account a named (deposit_in token s.reply s.transfers) + gains token a
  pub taking : s.market.pc_fees + s.market.referrer_rebates + swept_in s.reply + referred_in s.reply ≡ m.pc_fees + m.referrer_rebates + taken

-- then an account's worth changes by what fills bring it, less what they take
worth-moved : (m : Market) (ledger : Ledger) (named : List Address) (s : Step) (gains pays : Token → Address → ℕ) (taken : ℕ) → Moves m named s gains pays taken
    → (a : Address) → worth_of a s.market (with_step named s ledger) ≡ plus (worth_of a m ledger) (net (λ token. gains token a) (λ token. pays token a))
worth-moved m ledger named s gains pays taken moves a =
    let made : ℤ → ℤ → Worth = λ coin pc. record { coin = coin; pc = pc } in
    let each = λ (token : Token). worth-changes (held_for token a m) (ledger.deposited token a) (ledger.settled token a) (held_for token a s.market)
    (for_account a named (deposit_in token s.reply s.transfers)) (for_account a named (settled_in token s.reply)) (gains token a) (pays token a) (moves.held token a) in
    ap (λ coin. made coin (worth_in Pc a s.market (with_step named s ledger))) (each Coin) ∙ ap (made _) (each Pc)

-- and so for all accounts
pub worths-moved : (m : Market) (ledger : Ledger) (named : List Address) (s : Step) (gains pays : Token → Address → ℕ) (taken : ℕ) → Moves m named s gains pays taken
    → (eager_at s.market (with_step named s ledger)).worths
    ≡ worths_by (λ a. plus (worth_of a m ledger) (net (λ token. gains token a) (λ token. pays token a))) (addresses m.traders)
worths-moved m ledger named s gains pays taken moves =
    worths-by (λ a. worth_of a s.market (with_step named s ledger)) s.market.traders
    ∙ ap (worths_by (λ a. worth_of a s.market (with_step named s ledger))) moves.keeps.accounts
    ∙ worths-agree (λ a. worth_of a s.market (with_step named s ledger)) (λ a. plus (worth_of a m ledger) (net (λ token. gains token a) (λ token. pays token a)))
    (addresses m.traders) (worth-moved m ledger named s gains pays taken moves)

pub takings-moved : (m : Market) (ledger : Ledger) (named : List Address) (s : Step) (gains pays : Token → Address → ℕ) (taken : ℕ) → Moves m named s gains pays taken
    → takings_of s.market (with_step named s ledger) ≡ takings_of m ledger + taken
takings-moved m ledger named s gains pays taken moves = omega (arith, moves.taking)

-- nothing of a token for any account
abbrev pub no_gains : Token → Address → ℕ
no_gains token a = 0

-- a step that moves no worth, changes no side and appends no fill is a row that changes nothing
pub paid-still : (m : Market) (ledger : Ledger) (named : List Address) (s : Step) → Moves m named s no_gains no_gains 0
    → s.market.bids ≡ m.bids → s.market.asks ≡ m.asks → s.market.next_sequence ≡ m.next_sequence → maker_fills (appended m s.market) ≡ []
    → IsPaidAs m ledger named s (unchanged (eager_at m ledger))
paid-still m ledger named s moves bids asks sequence fills = record {
  market = eager-same (eager_at s.market (with_step named s ledger)) (eager_at m ledger)
      (ap (λ listing. listing.sizes) moves.keeps.listing) (ap (λ listing. listing.bid_capacity) moves.keeps.listing) (ap (λ listing. listing.ask_capacity) moves.keeps.listing)
      (ap without_slots bids) (ap without_slots asks) sequence
      (worths-moved m ledger named s no_gains no_gains 0 moves
      ∙ worths-agree (λ a. plus (worth_of a m ledger) (net (λ token. 0) (λ token. 0))) (λ a. worth_of a m ledger) (addresses m.traders) (λ a. plus-none (worth_of a m ledger))
      ∙ sym (worths-by (λ a. worth_of a m ledger) m.traders))
      (takings-moved m ledger named s no_gains no_gains 0 moves ∙ omega arith);
  fills = fills;
}

-- the events that stand after those that stood are those that were appended
pub appended-is : (events more : List QueuedEvent) → drop (length events) (events ++ more) ≡ more
appended-is events more = drop-append_seam events more

-- an amount of nothing is nothing for every account
pub for_account-none : (a : Address) (named : List Address) → for_account a named 0 ≡ 0
for_account-none a named = cond_both (is_first a named) 0 0 (λ amount. amount ≡ 0) (λ first. refl) (λ other. refl)

-- a step that deposits nothing and settles nothing moves what the market holds alone
pub moves-inside : (m : Market) (named : List Address) (s : Step) (gains pays : Token → Address → ℕ) (taken : ℕ)
    → KeepsMarket m s
    → ((token : Token) → deposit_in token s.reply s.transfers ≡ 0) → ((token : Token) → settled_in token s.reply ≡ 0)
    → ((token : Token) (a : Address) → held_for token a s.market + pays token a ≡ held_for token a m + gains token a)
    → s.market.pc_fees + s.market.referrer_rebates + swept_in s.reply + referred_in s.reply ≡ m.pc_fees + m.referrer_rebates + taken
    → Moves m named s gains pays taken
moves-inside m named s gains pays taken keeps deposits settles held taking = record {
  keeps = keeps;
  held = λ token a.
      let out : for_account a named (settled_in token s.reply) ≡ 0 = ap (for_account a named) (settles token) ∙ for_account-none a named in
      let in_ : for_account a named (deposit_in token s.reply s.transfers) ≡ 0 = ap (for_account a named) (deposits token) ∙ for_account-none a named in
      omega (arith, out, in_, held token a);
  taking = taking;
}

-- what a trader has free, after one was put where another stood
pub free_in-put : (token : Token) (address a : Address) (old trader : Trader) (traders : Traders) → trader_at address traders ≡ Some old
    → free_in token (trader_at a (put_trader address trader traders)) + cond (is_same a address) (free_of token old) 0
    ≡ free_in token (trader_at a traders) + cond (is_same a address) (free_of token trader) 0
free_in-put token address a old trader traders found =
    ⊎_elim
    (λ (same : is_same a address ≡ true).
    let is : a ≡ address = is_same-true a address same in
    let after : free_in token (trader_at a (put_trader address trader traders)) ≡ free_of token trader =
    ap (λ x. free_in token (trader_at x (put_trader address trader traders))) is ∙ ap (free_in token) (trader_at-put_same address old trader traders found) in
    let before : free_in token (trader_at a traders) ≡ free_of token old = ap (λ x. free_in token (trader_at x traders)) is ∙ ap (free_in token) found in
    rw same (omega (arith, after, before)))
    (λ (apart : is_same a address ≡ false).
    let same : free_in token (trader_at a (put_trader address trader traders)) ≡ free_in token (trader_at a traders) =
    ap (free_in token) (trader_at-put_other address a trader traders apart) in
    rw apart (omega (arith, same)))
    (cases_Bool (is_same a address))
