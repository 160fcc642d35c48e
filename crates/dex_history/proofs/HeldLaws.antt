-- calls that were held back, and calls that were not
use Rattle.std.proofs.Common.{◌≡◌, ◌&&◌, is_some, ⊎_elim, Bool, true, false, List, [], ◌∷◌, map, Option, Some, None, Result, Ok, refl, sym, ap, ◌∙◌, subst}
use Rattle.std.proofs.lemmas.Bool.{cases_Bool, cond-false, cond-true, cond_both, false≢true}
use Rattle.dex_types.specs.declared.instructions.BadData.{BadData}
use Rattle.dex_types.specs.declared.instructions.Ix.{Ix}
use Rattle.dex_types.specs.declared.instructions.Ix.TheVariants.{SendTake}
use Rattle.dex_types.specs.declared.movements.Entry.{Entry}
use Rattle.dex_types.specs.declared.refusals.Refusal.{Refusal}
use Rattle.dex_types.specs.declared.rows.Seen.{Seen}
use Rattle.dex_types.specs.Market.{Market}
use Rattle.dex_types.specs.Requests.{HasPrice, Request}
use Rattle.dex_types.specs.Steps.{Step, act_decoded, done, unless_refused}
use Rattle.dex_types.specs.Why.{why}
use Rattle.dex_history.specs.Journal.{Asked, Call, IsLegal, Sees, Stands, acted_of, asked_step, entry_by, idle, is_done, is_held, is_refusal, is_refused, is_take, market_after, step_of}
use Rattle.dex_history.proofs.RefusalLaws.{step-refused}

-- ---- a take is refused, or tells what it took

not-done : (instruction : Result Ix BadData) (request : Request) (seen : Seen) (m : Market) (refusal : Option Refusal) → is_take instruction ≡ true
    → is_done (unless_refused refusal m (act_decoded instruction request seen m)).reply ≡ false
not-done (Ok (SendTake side price lots max_pc min_lots min_pc limit)) request seen m None take = refl
not-done (Ok (SendTake side price lots max_pc min_lots min_pc limit)) request seen m (Some refusal) take = refl
not-done instruction request seen m refusal take = absurd (false≢true take)

pub take-tells : (asked : Asked) (seen : Seen) (m : Market) → is_take asked.request.instruction ≡ true → is_done (asked_step asked seen m).reply ≡ false
take-tells asked seen m take = not-done asked.request.instruction asked.request seen m (why asked.request seen m) take

-- ---- what a call acts as states a price and sees what it saw

pub acted-priced : (call : Call) → HasPrice call.asked.request.instruction → HasPrice (acted_of call).request.instruction
acted-priced call priced =
    cond_both (is_held call) (idle call.asked) call.asked (λ (asked : Asked). HasPrice asked.request.instruction) (λ held. tt) (λ own. priced)

pub acted-sees : (call : Call) → Sees call.asked call.seen → Sees (acted_of call) call.seen
acted-sees call sees =
    cond_both (is_held call) (idle call.asked) call.asked (λ (asked : Asked). Sees asked call.seen) (λ held. record {
      coin = sees.coin;
      pc = sees.pc;
      discount = sees.discount;
      referrer = sees.referrer;
      coin_pc = sees.coin_pc;
      coin_discount = sees.coin_discount;
      coin_referrer = sees.coin_referrer;
      pc_discount = sees.pc_discount;
      pc_referrer = sees.pc_referrer;
      discount_referrer = sees.discount_referrer;
    }) (λ own. sees)

-- ---- a call that acts as it asks

-- a call with the entry of its own step was not held back
pub own-not_held : (call : Call) (m : Market) → call.entry ≡ entry_by call (asked_step call.asked call.seen m) → is_held call ≡ false
own-not_held call m is =
    either (is_take call.asked.request.instruction)
    (λ take. ap (λ (entry : Entry). is_done entry.reply) is ∙ take-tells call.asked call.seen m take) refl
  where
    either : (b : Bool) → (b ≡ true → is_done call.entry.reply ≡ false) → is_take call.asked.request.instruction ≡ b → (b && is_done call.entry.reply) ≡ false
    either true tells same = tells refl
    either false tells same = refl

pub own-step : (call : Call) (m n : Market) → call.entry ≡ entry_by call (asked_step call.asked call.seen m) → step_of call n ≡ asked_step call.asked call.seen n
own-step call m n is =
    ap (λ (asked : Asked). asked_step asked call.seen n) (cond-false (is_held call) (idle call.asked) call.asked (own-not_held call m is))

-- it stands there
pub own-stands : (call : Call) (m : Market) → call.asked.market ≡ m.listing.address → HasPrice call.asked.request.instruction → Sees call.asked call.seen
    → call.entry ≡ entry_by call (asked_step call.asked call.seen m) → Stands call m
own-stands call m market price sees is = record {
  market = market;
  price = price;
  sees = sees;
  held = λ held. absurd (false≢true (sym (own-not_held call m is) ∙ held));
  entry = is ∙ ap (entry_by call) (sym (own-step call m m is));
}

-- ---- a call that was held back

pub held-step : (call : Call) (m : Market) → is_held call ≡ true → step_of call m ≡ done m
held-step call m held = ap (λ (asked : Asked). asked_step asked call.seen m) (cond-true (is_held call) (idle call.asked) call.asked held)

-- a take that would not be refused, with the entry of nothing done, stands
pub held-stands : (call : Call) (m : Market) → call.asked.market ≡ m.listing.address → HasPrice call.asked.request.instruction → Sees call.asked call.seen
    → is_take call.asked.request.instruction ≡ true → why call.asked.request call.seen m ≡ None → call.entry ≡ entry_by call (done m) → Stands call m
held-stands call m market price sees take spared is =
    let done_is : is_done call.entry.reply ≡ true = ap (λ (entry : Entry). is_done entry.reply) is in
    let held : is_held call ≡ true = ap (λ (b : Bool). b && is_done call.entry.reply) take ∙ done_is in
    record { market = market; price = price; sees = sees; held = λ is_so. spared; entry = is ∙ ap (entry_by call) (sym (held-step call m held)) }

-- ---- calls that ask for what they did

-- the call with what the market did for it in place of what it asked
abbrev pub settled : Call → Call
settled call = record call { asked = acted_of call }

pub settled-not_held : (call : Call) → is_held (settled call) ≡ false
settled-not_held call =
    either (is_held call) refl
  where
    either : (b : Bool) → is_held call ≡ b → is_held (settled call) ≡ false
    either true held = ap (λ (asked : Asked). is_take asked.request.instruction && is_done call.entry.reply) (cond-true (is_held call) (idle call.asked) call.asked held)
    either false own =
        ap (λ (asked : Asked). is_take asked.request.instruction && is_done call.entry.reply) (cond-false (is_held call) (idle call.asked) call.asked own) ∙ own

pub settled-step : (call : Call) (m : Market) → step_of (settled call) m ≡ step_of call m
settled-step call m =
    ap (λ (asked : Asked). asked_step asked call.seen m) (cond-false (is_held (settled call)) (idle (acted_of call)) (acted_of call) (settled-not_held call))

pub acted-market : (call : Call) → (acted_of call).market ≡ call.asked.market
acted-market call = cond_both (is_held call) (idle call.asked) call.asked (λ (asked : Asked). asked.market ≡ call.asked.market) (λ held. refl) (λ own. refl)

-- an entry goes by lane, number and what moves alone, which are those of the row
settled-entry : (call : Call) (s : Step) → entry_by (settled call) s ≡ entry_by call s
settled-entry call s =
    cond_both (is_held call) (idle call.asked) call.asked
    (λ (asked : Asked). entry_by (record { asked = asked; seen = call.seen; entry = call.entry }) s ≡ entry_by call s) (λ held. refl) (λ own. refl)

pub settled-stands : (call : Call) (m : Market) → Stands call m → Stands (settled call) m
settled-stands call m stands = record {
  market = acted-market call ∙ stands.market;
  price = acted-priced call stands.price;
  sees = acted-sees call stands.sees;
  held = λ held. absurd (false≢true (sym (settled-not_held call) ∙ held));
  entry = stands.entry ∙ ap (entry_by call) (sym (settled-step call m)) ∙ sym (settled-entry call (step_of (settled call) m));
}

pub settled-legal : (calls : List Call) (m : Market) → IsLegal m calls → IsLegal m (map settled calls)
settled-legal [] m legal = tt
settled-legal (call ∷ calls) m legal = (
  settled-stands call m legal.0,
  subst (λ (s : Step). IsLegal s.market (map settled calls)) (sym (settled-step call m)) (settled-legal calls (step_of call m).market legal.1),
)

pub settled-after : (calls : List Call) (m : Market) → market_after m (map settled calls) ≡ market_after m calls
settled-after [] m = refl
settled-after (call ∷ calls) m =
    ap (λ (s : Step). market_after s.market (map settled calls)) (settled-step call m) ∙ settled-after calls (step_of call m).market

-- ---- which calls are refused

-- a call is refused where there is a reason against what it asks, and only there
pub refused-told : (call : Call) (m : Market) → Stands call m → is_refused call ≡ is_some (why call.asked.request call.seen m)
refused-told call m stands =
    ⊎_elim
    (λ (held : is_held call ≡ true).
    ap (λ (entry : Entry). is_refusal entry.reply) (stands.entry ∙ ap (entry_by call) (held-step call m held))
    ∙ sym (ap (λ (reason : Option Refusal). is_some reason) (stands.held held)))
    (λ (own : is_held call ≡ false).
    ap (λ (entry : Entry). is_refusal entry.reply) stands.entry
    ∙ ap (λ (asked : Asked). is_refusal (asked_step asked call.seen m).reply) (cond-false (is_held call) (idle call.asked) call.asked own)
    ∙ step-refused call.asked.request call.seen m)
    (cases_Bool (is_held call))
