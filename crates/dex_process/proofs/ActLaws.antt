-- What is decided of an instruction, on a market and on lent wallets.
use Rattle.std.proofs.Common.{◌≡◌, ℕ, ⊎_elim, List, Bool, true, false, Option, Some, None, Result, Ok, Err, refl, sym, ap, subst, ◌∙◌}
use Rattle.std.specs.Prelude.{is_some, if◌then◌else◌}
use Rattle.std.specs.Result.{is_err}
use Rattle.std.proofs.lemmas.Bool.{cases_Bool, false≢true}
use Rattle.dex_accounts.specs.Decoded.{AreSound, market_in}
use Rattle.dex_history.specs.Journal.{Asked, is_refusal}
use Rattle.dex_history.proofs.RefusalLaws as refusals
use Rattle.dex_history.proofs.StepMoves.{row-moves}
use Rattle.dex_plan.specs.declared.ask.Ask.{Ask}
use Rattle.dex_plan.specs.declared.plan.Plan.{Plan}
use Rattle.dex_plan.specs.Given.{SeesEachOnce, asked_by}
use Rattle.dex_plan.specs.Owing.{plan_transfers}
use Rattle.dex_plan.specs.Plans.{decided, plan_decoded}
use Rattle.dex_plan.proofs.StepLaws.{planned-moves, step-refused}
use Rattle.dex_process.specs.declared.processing.Terms.{Terms}
use Rattle.dex_process.specs.Process.{Acting, CanAct, HasActed, HasProcessed, acting, seen_by, step_of}
use Rattle.dex_purse.specs.declared.lent_wallets.Roles.{Roles}
use Rattle.dex_purse.specs.declared.lent_wallets.Slot.{Slot}
use Rattle.dex_purse.specs.declared.lent_wallets.Slot.TheVariants.{First, Second, Third, Fourth}
use Rattle.dex_purse.specs.Purse.{AreApart, CanMoveEach, Purse, address_as, amount_for, brought_at, is_slot, moved, moved_by, taken_at, wallet_at}
use Rattle.dex_purse.proofs.PurseLaws.{can-each, seen-by}
use Rattle.dex_ring.specs.declared.pending_fills.PendingFills.{PendingFills}
use Rattle.dex_ring.specs.PendingFills.{pending_fills_of}
use Rattle.dex_step.specs.Acting.{HasStepped}
use Rattle.dex_types.specs.declared.refusals.Refusal.{Refusal}
use Rattle.dex_types.specs.declared.replies.Reply.{Reply}
use Rattle.dex_types.specs.declared.replies.Reply.TheVariants.{Refused}
use Rattle.dex_types.specs.declared.rows.Seen.{Seen}
use Rattle.dex_types.specs.Accounts.{PlainMarketAccounts}
use Rattle.dex_types.specs.Market.{Market}
use Rattle.dex_types.specs.Reasons.{answered}
use Rattle.dex_types.specs.Requests.{Request}
use Rattle.dex_types.specs.Steps.{Step, refused, step}
use Rattle.dex_types.specs.Transfers.{Transfers, no_transfers}
use Rattle.dex_types.specs.Why.{why}

-- what is asked for, as a row would ask it
abbrev asked_for : Ask → Roles → Purse → Asked
asked_for ask roles purse = record {
  lane = 0;
  number = 0;
  market = ask.signer;
  request = asked_by ask;
  coin = address_as roles.coin purse;
  pc = address_as roles.pc purse;
  discount = address_as roles.discount purse;
  referrer = address_as roles.referrer purse;
}

pub sees-once : (ask : Ask) (roles : Roles) (terms : Terms) (purse : Purse) → AreApart roles purse → SeesEachOnce (seen_by roles terms purse)
sees-once ask roles terms purse apart =
    let sees = seen-by (asked_for ask roles purse) roles purse (seen_by roles terms purse) (record { coin = refl; pc = refl; discount = refl; referrer = refl })
    (record { coin = refl; pc = refl; discount = refl; referrer = refl }) apart in
    record {
      coin_pc = sees.coin_pc;
      coin_discount = sees.coin_discount;
      coin_referrer = sees.coin_referrer;
      pc_discount = sees.pc_discount;
      pc_referrer = sees.pc_referrer;
      discount_referrer = sees.discount_referrer;
    }

-- what was decided can move each wallet
pub can-move-each : (ask : Ask) (roles : Roles) (seen : Seen) (on : Acting) (plan : Plan) (t : Transfers) → CanAct roles seen on
    → Ok plan ≡ decided (asked_by ask) seen (market_in on.accounts) → t ≡ plan_transfers plan → CanMoveEach roles t on.wallets
can-move-each ask roles seen on plan t can told is =
    subst (λ (u : Transfers). CanMoveEach roles u on.wallets) (sym (is ∙ planned-moves plan (asked_by ask) seen (market_in on.accounts) told))
    (λ (at : Slot). can-each roles on.wallets seen (step_of ask seen on.accounts).transfers can.sees can.apart can.wallets
    (λ wallet. row-moves (asked_for ask roles on.wallets) seen (market_in on.accounts) wallet can.sound.sound
    (seen-by (asked_for ask roles on.wallets) roles on.wallets seen (record { coin = refl; pc = refl; discount = refl; referrer = refl }) can.sees can.apart))
    at)

pub acted : (ask : Ask) (roles : Roles) (seen : Seen) (on : Acting) (plan : Plan) (t : Transfers) (after : PlainMarketAccounts) (purse : Purse) (pending : PendingFills)
    (reply : Reply) → Ok plan ≡ decided (asked_by ask) seen (market_in on.accounts) → t ≡ plan_transfers plan
    → HasStepped on.accounts after reply pending (step_of ask seen on.accounts) → purse ≡ moved_by roles t on.wallets
    → HasActed roles reply on (acting after purse pending) (step_of ask seen on.accounts)
acted ask roles seen on plan t after purse pending reply told is stepped moves = record {
  reply_is = stepped.reply_is;
  market = stepped.market;
  sound = stepped.sound;
  wallets = moves ∙ ap (λ (u : Transfers). moved_by roles u on.wallets) (is ∙ planned-moves plan (asked_by ask) seen (market_in on.accounts) told);
  pending = stepped.pending_is;
  kept = stepped.kept;
}

-- a plan is no refusal
answered-refused : (reason : Option Refusal) (plan : Plan) → is_err (answered reason plan) ≡ is_some reason
answered-refused None plan = refl
answered-refused (Some reason) plan = refl

pub planned-done : (plan : Plan) (request : Request) (seen : Seen) (m : Market) → Ok plan ≡ decided request seen m
    → is_refusal (step request seen m).reply ≡ false
planned-done plan request seen m is =
    refusals.step-refused request seen m
    ∙ sym (ap (λ (answer : Result Plan Refusal). is_err answer) is ∙ answered-refused (why request seen m) (plan_decoded request.instruction request seen m))

pub processed : (ask : Ask) (roles : Roles) (seen : Seen) (plan : Plan) (reply : Reply) (on after : Acting)
    → Ok plan ≡ decided (asked_by ask) seen (market_in on.accounts) → HasActed roles reply on after (step_of ask seen on.accounts)
    → HasProcessed roles reply on after (step_of ask seen on.accounts)
processed ask roles seen plan reply on after told acts = record {
  acted = acts;
  same = λ (is : is_refusal reply ≡ true).
      absurd (false≢true (sym (ap is_refusal acts.reply_is ∙ planned-done plan (asked_by ask) seen (market_in on.accounts) told) ∙ is));
}

-- nothing moves by a refusal
amount-zero : (slot : Slot) (role : Option Slot) → amount_for slot role 0 ≡ 0
amount-zero slot None = refl
amount-zero slot (Some other) =
    ⊎_elim (λ (is : is_slot slot other ≡ true). ap (λ (b : Bool). if b then 0 else 0) is)
    (λ (not : is_slot slot other ≡ false). ap (λ (b : Bool). if b then 0 else 0) not)
    (cases_Bool (is_slot slot other))

moved-zero : (takes brings : ℕ) (bytes : List ℕ) → takes ≡ 0 → brings ≡ 0 → moved takes brings bytes ≡ bytes
moved-zero takes brings bytes nothing none = ap (λ (n : ℕ). moved n brings bytes) nothing ∙ ap (λ (n : ℕ). moved 0 n bytes) none

quiet : (roles : Roles) (purse : Purse) (slot : Slot)
    → moved (taken_at slot roles no_transfers) (brought_at slot roles no_transfers) (wallet_at slot purse).bytes ≡ (wallet_at slot purse).bytes
quiet roles purse slot =
    moved-zero (taken_at slot roles no_transfers) (brought_at slot roles no_transfers) (wallet_at slot purse).bytes
    (rw (amount-zero slot roles.coin, amount-zero slot roles.pc) refl)
    (rw (amount-zero slot roles.coin, amount-zero slot roles.pc, amount-zero slot roles.referrer) refl)

still : (roles : Roles) (purse : Purse) → purse ≡ moved_by roles no_transfers purse
still roles purse = rw (quiet roles purse First, quiet roles purse Second, quiet roles purse Third, quiet roles purse Fourth) refl

pub refused-processed : (ask : Ask) (roles : Roles) (seen : Seen) (why : Refusal) (on : Acting) → AreSound on.accounts
    → on.pending ≡ pending_fills_of (market_in on.accounts).events
    → decided (asked_by ask) seen (market_in on.accounts) ≡ Err why → HasProcessed roles (Refused why) on on (step_of ask seen on.accounts)
refused-processed ask roles seen why on sound pending told =
    let is : step_of ask seen on.accounts ≡ refused why (market_in on.accounts) = step-refused (asked_by ask) seen (market_in on.accounts) why told in
    subst (λ (s : Step). HasProcessed roles (Refused why) on on s) (sym is)
    (record {
      acted = record {
        reply_is = refl;
        market = refl;
        sound = sound;
        wallets = still roles on.wallets;
        pending = pending;
        kept = record { address = refl; authority = refl; addresses = refl; accepted = λ accepted. accepted };
      };
      same = λ is. refl;
    })
