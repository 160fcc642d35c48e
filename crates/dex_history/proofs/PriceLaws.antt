-- what data decodes to states a price, so each row keeps a market sound
use Rattle.std.proofs.Common.{ℕ, ◌≤◌, ◌≡◌, Bool, true, false, ◌||◌, cond, eqb, List, [], ◌∷◌, Option, Some, None, Result, Ok, refl, ap, subst, arith}
use Rattle.std.proofs.lemmas.Bool.{eqb-true, eqb-false, or_parts}
use Rattle.dex_types.specs.declared.instructions.BadData.{BadData}
use Rattle.dex_types.specs.declared.instructions.Ix.{Ix}
use Rattle.dex_types.specs.declared.instructions.Ix.TheVariants.{ConsumeEvents}
use Rattle.dex_types.specs.declared.replies.Reply.TheVariants.{Consumed}
use Rattle.dex_types.specs.declared.rows.Seen.{Seen}
use Rattle.dex_types.specs.Market.{Market}
use Rattle.dex_types.specs.Payment.{consumable}
use Rattle.dex_types.specs.Requests.{HasPrice, Request}
use Rattle.dex_types.specs.Rows.{PlainRow}
use Rattle.dex_types.specs.Soundness.{IsSound}
use Rattle.dex_types.specs.Steps.{step}
use Rattle.dex_instruction.specs.Numbers.{number_at}
use Rattle.dex_instruction.specs.Reading.{decoded, instruction, tagged, unless_broken}
use Rattle.dex_instruction.specs.Rules.{tag_in, is_zero_at, has_zero_field, broken}
use Rattle.dex_instruction.proofs.Whole.{is_whole}
use Rattle.dex_sound.proofs.StepSound.{step-sound}
use Rattle.dex_history.specs.Journal.{Asked, Call, IsLegal, acted_of, asked_step, request_of, row_step, step_of, market_after}
use Rattle.dex_history.proofs.HeldLaws.{acted-priced}

-- one of two instructions, by a test
either : (test : Bool) (ix other : Ix) → (test ≡ true → HasPrice (Ok ix)) → HasPrice (Ok other) → HasPrice (Ok (cond test ix other))
either true ix other here there = here refl
either false ix other here there = there

-- the price is the first of three fields that must not be 0
price-some : (bytes : List ℕ) → ((is_zero_at 9 bytes || is_zero_at 17 bytes) || is_zero_at 25 bytes) ≡ false → 1 ≤ number_at 8 9 bytes
price-some bytes none =
    let price : eqb (number_at 8 9 bytes) 0 ≡ false = (or_parts _ _ (or_parts _ _ none).0).0 in
    let some : number_at 8 9 bytes ≡ 0 → ⊥ = eqb-false _ _ price in
    omega arith

tagged-priced : (tag : ℕ) (bytes : List ℕ) → has_zero_field tag bytes ≡ false → HasPrice (Ok (tagged tag bytes))
tagged-priced tag bytes none =
    let no_zero : (k : ℕ) → eqb tag k ≡ true → has_zero_field k bytes ≡ false =
    λ k is. subst (λ t. has_zero_field t bytes ≡ false) (eqb-true tag k is) none in
    either (eqb tag 0) _ _ (λ is. tt)
    (either (eqb tag 2) _ _ (λ is. tt)
    (either (eqb tag 3) _ _ (λ is. tt)
    (either (eqb tag 5) _ _ (λ is. tt)
    (either (eqb tag 7) _ _ (λ is. tt)
    (either (eqb tag 8) _ _ (λ is. tt)
    (either (eqb tag 10) _ _ (λ is. price-some bytes (no_zero 10 is))
    (either (eqb tag 11) _ _ (λ is. tt)
    (either (eqb tag 12) _ _ (λ is. tt)
    (either (eqb tag 13) _ _ (λ is. price-some bytes (no_zero 13 is))
    (either (eqb tag 14) _ _ (λ is. tt)
    (either (eqb tag 15) _ _ (λ is. tt)
    (either (eqb tag 16) _ _ (λ is. tt) tt))))))))))))

unless-priced : (fault : Option BadData) (ix : Ix) → (fault ≡ None → HasPrice (Ok ix)) → HasPrice (unless_broken fault ix)
unless-priced None ix priced = priced refl
unless-priced (Some fault) ix priced = tt

-- so whatever bytes decode to states a price, where it is an order or a take
pub decoded-priced : (bytes : List ℕ) → HasPrice (decoded bytes)
unfolding decoded instruction
decoded-priced bytes = unless-priced (broken bytes) (instruction bytes) (λ none. tagged-priced (tag_in bytes) bytes (is_whole bytes none).fields)

-- each row keeps a market sound
pub row-sound : (row : PlainRow) (seen : Seen) (m : Market) → IsSound m → IsSound (row_step row seen m).market
row-sound row seen m sound = step-sound (request_of row) seen m sound (decoded-priced row.bytes)

-- so does whatever is asked for at a price
pub asked-sound : (asked : Asked) (seen : Seen) (m : Market) → IsSound m → HasPrice asked.request.instruction → IsSound (asked_step asked seen m).market
asked-sound asked seen m sound priced = step-sound asked.request seen m sound priced

-- and so do calls, one after the other
pub calls-sound : (calls : List Call) (m : Market) → IsSound m → IsLegal m calls → IsSound (market_after m calls)
calls-sound [] m sound legal = sound
calls-sound (call ∷ calls) m sound legal =
    calls-sound calls (step_of call m).market (asked-sound (acted_of call) call.seen m sound (acted-priced call legal.0.price)) legal.1

-- a crank is answered how many events it consumed
pub crank-answered : (row : PlainRow) (seen : Seen) (m : Market) (limit : ℕ) → decoded row.bytes ≡ Ok (ConsumeEvents limit)
    → (row_step row seen m).reply ≡ Consumed (consumable limit row.named m.events)
crank-answered row seen m limit is =
    ap (λ (instruction : Result Ix BadData).
    let request : Request = record { instruction = instruction; signer = row.signer; named = row.named; now = row.now } in
    (step request seen m).reply) is
