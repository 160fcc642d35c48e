-- What entries tell of what moved is what moved.
use Rattle.std.proofs.Common.{ℕ, ◌+◌, ◌≡◌, true, List, [], ◌∷◌, Option, Some, None, Result, Ok, Err, refl, sym, ap, ◌∙◌, arith}
use Rattle.std.proofs.lemmas.Bool.{and_parts, cond_both, false≢true}
use Rattle.dex_types.specs.declared.addresses.Address.{Address}
use Rattle.dex_types.specs.declared.instructions.BadData.{BadData}
use Rattle.dex_types.specs.declared.instructions.Ix.{Ix}
use Rattle.dex_types.specs.declared.instructions.Ix.TheVariants.{SettleFunds, NewOrderV3, CancelOrderV2, CancelOrderByClientIdV2, SendTake, CloseOpenOrders, InitOpenOrders, Prune, CancelOrdersByClientIds}
use Rattle.dex_types.specs.declared.movements.Entry.{Entry}
use Rattle.dex_types.specs.declared.refusals.Refusal.{Refusal}
use Rattle.dex_types.specs.declared.rows.Seen.{Seen}
use Rattle.dex_types.specs.declared.terms.Side.{Side}
use Rattle.dex_types.specs.declared.terms.Side.TheVariants.{Bid, Ask}
use Rattle.dex_types.specs.Market.{Market}
use Rattle.dex_types.specs.NewOrder.{NewOrder, Ordering, order_on}
use Rattle.dex_types.specs.Requests.{Request, Party, party_of}
use Rattle.dex_types.specs.Side.{Token, Coin, Pc, by_token, locked_token}
use Rattle.dex_types.specs.Soundness.{IsSound}
use Rattle.dex_types.specs.Steps.{Step, ordered, act_order, act, act_decoded, act_init, by_party, unless_refused}
use Rattle.dex_types.specs.Terms.{terms_order}
use Rattle.dex_types.specs.Totals.{total}
use Rattle.dex_types.specs.Why.{why}
use Rattle.dex_history.specs.Journal.{Asked, Call, IsLegal, Stands, acted_of, idle, is_done, is_held, is_take, step_of}
use Rattle.dex_history.proofs.HeldLaws.{acted-priced}
use Rattle.dex_history.proofs.PriceLaws.{asked-sound}
use Rattle.dex_eager.specs.Histories.{moves_after}
use Rattle.dex_eager.specs.Worth.{Ledger, deposit_in, for_account, settled_in, with_step}
use Rattle.dex_replay.specs.Told.{entering, side_of, told_deposit, told_in, told_out}
use Rattle.dex_worth.proofs.Debits.{debits-are}

-- what a step takes from a wallet for its account is told by how much it takes in all
abbrev Tells : Option Side → Step → Type 0
Tells side s = (token : Token) → deposit_in token s.reply s.transfers
    ≡ by_token token (entering side (s.transfers.coin_in + s.transfers.pc_in)).coin_in (entering side (s.transfers.coin_in + s.transfers.pc_in)).pc_in

nothing : (token : Token) → let none : ℕ = 0 in none ≡ by_token token none none
nothing Coin = refl
nothing Pc = refl

no-deposit : (side : Option Side) (token : Token) → 0 ≡ by_token token (entering side 0).coin_in (entering side 0).pc_in
no-deposit None token = nothing token
no-deposit (Some Bid) Coin = refl
no-deposit (Some Bid) Pc = refl
no-deposit (Some Ask) Coin = refl
no-deposit (Some Ask) Pc = refl

party-tells : (side : Option Side) (does : Party → Step) (m : Market) (party : Option Party) → ((p : Party) → Tells side (does p)) → Tells side (by_party does m party)
party-tells side does m None tells = no-deposit side
party-tells side does m (Some party) tells = tells party

init-tells : (named : List Address) (signer : Address) (m : Market) → Tells None (act_init named signer m)
init-tells [] signer m = nothing
init-tells (address ∷ others) signer m = nothing

entered : (side : Side) (token : Token) (d : ℕ) → by_token token (by_token (locked_token side) d 0) (by_token (locked_token side) 0 d)
    ≡ by_token token (entering (Some side) (by_token (locked_token side) d 0 + by_token (locked_token side) 0 d)).coin_in
    (entering (Some side) (by_token (locked_token side) d 0 + by_token (locked_token side) 0 d)).pc_in
entered Bid Coin d = omega arith
entered Bid Pc d = omega arith
entered Ask Coin d = omega arith
entered Ask Pc d = omega arith

ordered-tells : (side : Side) (n : NewOrder) (m : Market) (party : Party) (ordering : Ordering) → Tells (Some side) (ordered side n m party ordering)
ordered-tells side n m party ordering token = entered side token ordering.deposit

acts : (ix : Ix) (request : Request) (seen : Seen) (m : Market) → Tells (side_of (Ok ix)) (act ix request seen m)
acts SettleFunds request seen m = party-tells None _ m (party_of request.named m.traders) (λ party. nothing)
acts (NewOrderV3 side price lots max_pc self_trade order_type client limit latest) request seen m =
    party-tells (Some side) (act_order side (terms_order request seen price lots max_pc self_trade order_type client limit latest) m) m (party_of request.named m.traders)
    (λ party. let n : NewOrder = terms_order request seen price lots max_pc self_trade order_type client limit latest party.address in
    ordered-tells side n m party (order_on side m party.account n))
acts (CancelOrderV2 side id) request seen m = party-tells None _ m (party_of request.named m.traders) (λ party. nothing)
acts (CancelOrderByClientIdV2 client) request seen m = party-tells None _ m (party_of request.named m.traders) (λ party. nothing)
acts CloseOpenOrders request seen m = party-tells None _ m (party_of request.named m.traders) (λ party. nothing)
acts InitOpenOrders request seen m = init-tells request.named request.signer m
acts (Prune limit) request seen m = party-tells None _ m (party_of request.named m.traders) (λ party. nothing)
acts (CancelOrdersByClientIds ids) request seen m = party-tells None _ m (party_of request.named m.traders) (λ party. nothing)
acts ix request seen m = nothing

decoded-tells : (decodes : Result Ix BadData) (request : Request) (seen : Seen) (m : Market) → Tells (side_of decodes) (act_decoded decodes request seen m)
decoded-tells (Err rule) request seen m = nothing
decoded-tells (Ok ix) request seen m = acts ix request seen m

unless-tells : (side : Option Side) (reason : Option Refusal) (m : Market) (acted : Step) → Tells side acted → Tells side (unless_refused reason m acted)
unless-tells side None m acted tells = tells
unless-tells side (Some refusal) m acted tells = no-deposit side

step-tells : (call : Call) (m : Market) → Tells (side_of (acted_of call).request.instruction) (step_of call m)
step-tells call m =
    let request : Request = (acted_of call).request in
    unless-tells (side_of request.instruction) (why request call.seen m) m (act_decoded request.instruction request call.seen m)
    (decoded-tells request.instruction request call.seen m)

-- a take that is held back is no order, before or after

take-side : (instruction : Result Ix BadData) → is_take instruction ≡ true → side_of instruction ≡ None
take-side (Ok (SendTake side price lots max_pc min_lots min_pc limit)) is = refl
take-side instruction is = absurd (false≢true is)

acted-side : (call : Call) → side_of (acted_of call).request.instruction ≡ side_of call.asked.request.instruction
acted-side call =
    cond_both (is_held call) (idle call.asked) call.asked (λ (asked : Asked). side_of asked.request.instruction ≡ side_of call.asked.request.instruction)
    (λ held. sym (take-side call.asked.request.instruction (and_parts (is_take call.asked.request.instruction) (is_done call.entry.reply) held).0))
    (λ own. refl)

acted-named : (call : Call) → (acted_of call).request.named ≡ call.asked.request.named
acted-named call =
    cond_both (is_held call) (idle call.asked) call.asked (λ (asked : Asked). asked.request.named ≡ call.asked.request.named) (λ held. refl) (λ own. refl)

-- so by the debits of its entry
pub deposit-told : (token : Token) (call : Call) (m : Market) → IsSound m → Stands call m
    → deposit_in token (step_of call m).reply (step_of call m).transfers ≡ told_deposit token call.asked call.entry
deposit-told token call m sound stands =
    step-tells call m token
    ∙ ap (λ (side : Option Side). by_token token (entering side moved).coin_in (entering side moved).pc_in) (acted-side call)
    ∙ ap (λ (all : ℕ). by_token token (entering (side_of call.asked.request.instruction) all).coin_in (entering (side_of call.asked.request.instruction) all).pc_in)
    (sym (debits-are call m sound stands))
  where
    moved : ℕ
    moved = (step_of call m).transfers.coin_in + (step_of call m).transfers.pc_in

pub settled-told : (token : Token) (call : Call) (m : Market) → Stands call m → settled_in token (step_of call m).reply ≡ settled_in token call.entry.reply
settled-told token call m stands = ap (λ (e : Entry). settled_in token e.reply) (sym stands.entry)

-- and over a history
pub all-told : (token : Token) (owner : Address) (m : Market) (calls : List Call) (ledger : Ledger) → IsSound m → IsLegal m calls
    → ((moves_after m calls ledger).deposited token owner ≡ ledger.deposited token owner + total (told_in token owner) calls)
    × ((moves_after m calls ledger).settled token owner ≡ ledger.settled token owner + total (told_out token owner) calls)
all-told token owner m [] ledger sound legal = (omega arith, omega arith)
all-told token owner m (call ∷ calls) ledger sound legal =
    let next : Ledger = with_step (acted_of call).request.named (step_of call m) ledger in
    let later = all-told token owner (step_of call m).market calls next (asked-sound (acted_of call) call.seen m sound (acted-priced call legal.0.price)) legal.1 in
    let deposit =
    ap (λ (named : List Address). for_account owner named (deposit_in token (step_of call m).reply (step_of call m).transfers)) (acted-named call)
    ∙ ap (for_account owner call.asked.request.named) (deposit-told token call m sound legal.0) in
    let settled =
    ap (λ (named : List Address). for_account owner named (settled_in token (step_of call m).reply)) (acted-named call)
    ∙ ap (for_account owner call.asked.request.named) (settled-told token call m legal.0) in
    (omega (arith, later.0, deposit), omega (arith, later.1, settled))
