-- In a lawful outcome both legs of a swap took, or neither.
use Rattle.std.proofs.Common.{◌≡◌, ◌⊎◌, ℕ, ◌&&◌, ◌||◌, not, inl, inr, Bool, true, false, eqb, List, [], ◌∷◌, get_or, map, Option, Some, None, Result, Ok, Err, refl, sym, ap, ◌∙◌, subst, arith, ⊎_elim}
use Rattle.dex_world.proofs.Common.{All-cons, All-filter, All-head, All-map, All-nil, Asked, BadData, Call, EachTwo, Entry, IsLegal, Ix, Market, PlainMarketAccounts, PlainRow, Refusal, Reply, Seen, Stands, asked_of, cases_Bool, cond-false, cond-true, decoded, eq-eqb, false≢true, filter, get_or-map, is_done, is_held, is_refusal, is_same, is_take, length-map, list_any, list_any_at, members, rows_of_lane, step_of}
use Rattle.dex_replay.proofs.Common.{AllThree, AreLegs, IsLawful, IsLawfulMarket, IsScript, PlainMarketJournal, PlainOutcome, PlainScript, has_market, is_answered, rows_of_market, was_held}
use Rattle.std.specs.List.{All, Any}
use Rattle.std.proofs.lemmas.List.Folds.{Any-from_list_any}
use Rattle.dex_types.specs.declared.instructions.Ix.TheVariants.{SendTake}
use Rattle.dex_types.specs.Requests.{Request}
use Rattle.dex_types.specs.Steps.{Step, act_decoded, unless_refused}
use Rattle.dex_types.specs.Why.{why_decoded}
use Rattle.dex_history.specs.Journal.{asked_step, idle, is_take_or_bad, is_took}
use Rattle.dex_world.specs.Items.{Item, items_of}
use Rattle.dex_replay.specs.Lawful.{entries_at}
use Rattle.dex_replay.proofs.Groups.{grouped-each, unfilter}
use Rattle.dex_replay.proofs.MappedLists.{All-unmap, head-same, tail-same}
use Rattle.dex_replay.proofs.Orders.{each-item, items-in, own-order}
use Rattle.dex_script_types.specs.Facts.{HasNoSwap}
use Rattle.dex_replay.specs.Replays.{IsLeftByRows, IsReplayOf}
use Rattle.dex_replay.specs.Runs.{IsRunOf}
use Rattle.dex_answers.specs.Answers.{IsPlayed}
use Rattle.dex_answers.specs.Paired.{ArePaired, BothOrNeither, HasTaken, WasHeldBack, WasRefused}

-- ---- what a leg answers

-- what data of a leg is answered: it is refused, or it is a take, which took or was held back
abbrev IsLegReply : Result Ix BadData → Reply → Type 0
IsLegReply it reply = (is_refusal reply ≡ true) ⊎ ((is_take it ≡ true) × ((is_took reply ≡ true) ⊎ (is_done reply ≡ true)))

by-reason : (it : Result Ix BadData) (refusal : Option Refusal) (m : Market) (s : Step) → is_take it ≡ true → is_took s.reply ≡ true → IsLegReply it (unless_refused refusal m s).reply
by-reason it None m s take took = inr (take, inl took)
by-reason it (Some refusal) m s take took = inl refl

leg-replies : (it : Result Ix BadData) (request : Request) (seen : Seen) (m : Market) → is_take_or_bad it ≡ true
    → IsLegReply it (unless_refused (why_decoded it request seen m) m (act_decoded it request seen m)).reply
leg-replies (Err bad) request seen m leg = inl refl
leg-replies (Ok (SendTake side price lots max_pc min_lots min_pc limit)) request seen m leg =
    let it : Result Ix BadData = Ok (SendTake side price lots max_pc min_lots min_pc limit) in
    by-reason it (why_decoded it request seen m) m (act_decoded it request seen m) refl refl
leg-replies (Ok ix) request seen m leg = absurd (false≢true leg)

both-true : (a b : Bool) → (a && b) ≡ true → (a ≡ true) × (b ≡ true)
both-true true true is = (refl, refl)
both-true true false is = absurd (false≢true is)
both-true false b is = absurd (false≢true is)

call-replies : (call : Call) (m : Market) → Stands call m → is_take_or_bad call.asked.request.instruction ≡ true
    → IsLegReply call.asked.request.instruction call.entry.reply
call-replies call m stands leg =
    ⊎_elim
    (λ (held : is_held call ≡ true).
    let both = both-true (is_take call.asked.request.instruction) (is_done call.entry.reply) held in inr (both.0, inr both.1))
    (λ (own : is_held call ≡ false).
    subst (IsLegReply call.asked.request.instruction)
    (sym (ap (λ (entry : Entry). entry.reply) stands.entry
    ∙ ap (λ (asked : Asked). (asked_step asked call.seen m).reply) (cond-false (is_held call) (idle call.asked) call.asked own)))
    (leg-replies call.asked.request.instruction call.asked.request call.seen m leg))
    (cases_Bool (is_held call))

-- ---- what a journal tells of a leg

-- among entries there is one of this number with such a reply
abbrev tells : ℕ → (Reply → Bool) → List Entry → Bool
tells number test entries = list_any (λ (entry : Entry). eqb entry.row number && test entry.reply) entries

-- entries tell of one that asks so: where it is a leg, what a leg is answered
abbrev TellLeg : List Entry → Asked → Type 0
TellLeg entries asked = is_take_or_bad asked.request.instruction ≡ true
    → (tells asked.number is_refusal entries ≡ true)
    ⊎ ((is_take asked.request.instruction ≡ true) × ((tells asked.number is_took entries ≡ true) ⊎ (tells asked.number is_done entries ≡ true)))

abbrev entries_of_calls : List Call → List Entry
entries_of_calls calls = map (λ (call : Call). call.entry) calls

abbrev StandsHere : Call → Type 0
StandsHere call = (m : Market) × Stands call m

each-stands : (calls : List Call) (m : Market) → IsLegal m calls → All StandsHere calls
each-stands [] m legal = All-nil StandsHere
each-stands (call ∷ calls) m legal = All-cons StandsHere call calls (m, legal.0) (each-stands calls (step_of call m).market legal.1)

calls-tell : (calls : List Call) (m : Market) → IsLegal m calls → All (λ (call : Call). TellLeg (entries_of_calls calls) call.asked) calls
calls-tell calls m legal k d within leg =
    let call : Call = get_or calls k d in
    let stands : StandsHere call = each-stands calls m legal k d within in
    let number : ℕ = call.asked.number in
    let same : eqb call.entry.row number ≡ true = ap (λ (entry : Entry). eqb entry.row number) stands.1.entry ∙ eq-eqb number number refl in
    let at : (test : Reply → Bool) → test call.entry.reply ≡ true → tells number test (entries_of_calls calls) ≡ true = λ test is.
    list_any_at (λ (entry : Entry). eqb entry.row number && test entry.reply) (entries_of_calls calls) k call.entry
    (omega (arith, within, length-map calls (λ (one : Call). one.entry)))
    (ap (λ (entry : Entry). eqb entry.row number && test entry.reply) (get_or-map (λ (one : Call). one.entry) calls k d call.entry within)
    ∙ ap (λ (b : Bool). b && test call.entry.reply) same ∙ is) in
    ⊎_elim (λ (refused : is_refusal call.entry.reply ≡ true). inl (at is_refusal refused))
    (λ (other : (is_take call.asked.request.instruction ≡ true) × ((is_took call.entry.reply ≡ true) ⊎ (is_done call.entry.reply ≡ true))).
    inr (other.0, ⊎_elim (λ (took : is_took call.entry.reply ≡ true). inl (at is_took took)) (λ (held : is_done call.entry.reply ≡ true). inr (at is_done held)) other.1))
    (call-replies call stands.0 stands.1 leg)

-- ---- the journals

market-tells : (script : PlainScript) (first last : PlainMarketAccounts) (journal : PlainMarketJournal) → IsLawfulMarket script first last journal
    → All (λ (row : PlainRow). is_same row.market first.address ≡ true → TellLeg journal.entries (asked_of row)) script.rows
market-tells script first last journal is k d within same =
    let lane : ℕ = (get_or script.rows k d).lane in
    let Told : Asked → Type 0 = TellLeg (entries_of_calls is.calls) in
    let in_lane : PlainRow → Bool = λ (row : PlainRow). eqb row.lane lane in
    let on_it : PlainRow → Bool = λ (row : PlainRow). is_same row.market first.address in
    let own : List Call = filter (λ (call : Call). eqb call.asked.lane lane) is.calls in
    let called : All (λ (call : Call). Told call.asked) own =
    All-filter (λ (call : Call). eqb call.asked.lane lane) (λ (call : Call). Told call.asked) is.calls (calls-tell is.calls _ is.legal) in
    let asked : All Told (map asked_of (rows_of_market lane first.address script.rows)) =
    subst (All Told) (is.rows lane) (All-map Told (λ (call : Call). call.asked) own called) in
    let rows : All (λ (row : PlainRow). Told (asked_of row)) (rows_of_market lane first.address script.rows) =
    All-unmap Told asked_of (rows_of_market lane first.address script.rows) asked in
    let here : All (λ (row : PlainRow). in_lane row ≡ true → Told (asked_of row)) (filter on_it script.rows) =
    unfilter (λ (row : PlainRow). Told (asked_of row)) in_lane (filter on_it script.rows) rows in
    let told : Told (asked_of (get_or script.rows k d)) =
    unfilter (λ (row : PlainRow). in_lane row ≡ true → Told (asked_of row)) on_it script.rows here k d within same (eq-eqb lane lane refl) in
    subst (λ (entries : List Entry). TellLeg entries (asked_of (get_or script.rows k d))) (sym is.entries) told

journals-tell : (script : PlainScript) (firsts lasts : List PlainMarketAccounts) (journals : List PlainMarketJournal) → AllThree (IsLawfulMarket script) firsts lasts journals
    → map (λ (journal : PlainMarketJournal). journal.address) journals ≡ map (λ (first : PlainMarketAccounts). first.address) firsts
    → All (λ (row : PlainRow). has_market row.market firsts ≡ true → TellLeg (entries_at row.market journals) (asked_of row)) script.rows
journals-tell script [] [] [] are same k d within known = absurd (false≢true known)
journals-tell script [] [] (z ∷ journals) are same k d within known = absurd are
journals-tell script [] (y ∷ lasts) journals are same k d within known = absurd are
journals-tell script (first ∷ firsts) [] journals are same k d within known = absurd are
journals-tell script (first ∷ firsts) (last ∷ lasts) [] are same k d within known = absurd are
journals-tell script (first ∷ firsts) (last ∷ lasts) (journal ∷ journals) are same k d within known =
    let row : PlainRow = get_or script.rows k d in
    let own : journal.address ≡ first.address = head-same same in
    ⊎_elim
    (λ (here : is_same row.market first.address ≡ true).
    subst (λ (entries : List Entry). TellLeg entries (asked_of row))
    (sym (cond-true (is_same row.market journal.address) journal.entries (entries_at row.market journals) (ap (is_same row.market) own ∙ here)))
    (market-tells script first last journal are.0 k d within here))
    (λ (apart : is_same row.market first.address ≡ false).
    subst (λ (entries : List Entry). TellLeg entries (asked_of row))
    (sym (cond-false (is_same row.market journal.address) journal.entries (entries_at row.market journals) (ap (is_same row.market) own ∙ apart)))
    (journals-tell script firsts lasts journals are.1 (tail-same same) k d within (sym (ap (λ (b : Bool). b || has_market row.market firsts) apart) ∙ known)))
    (cases_Bool (is_same row.market first.address))

-- ---- a swap

abbrev Told : List PlainMarketJournal → PlainRow → Type 0
Told journals row = TellLeg (entries_at row.market journals) (asked_of row)

abbrev MayBeLeg : PlainRow → Type 0
MayBeLeg row = is_take_or_bad (decoded row.bytes) ≡ true

each-leg : (rows : List PlainRow) (first : PlainRow) → EachTwo AreLegs (first ∷ rows) → ¬ (rows ≡ []) → All MayBeLeg (first ∷ rows)
each-leg [] first legs some = absurd (some refl)
each-leg (other ∷ rows) first legs some =
    All-cons MayBeLeg first (other ∷ rows) (All-head (AreLegs first) other rows legs.0).first.take (λ k d within. (legs.0 k d within).second.take)

module _ (journals : List PlainMarketJournal) (rows : List PlainRow) (told : All (Told journals) rows) (legs : All MayBeLeg rows)
    (right : All (λ (row : PlainRow). was_held journals row ≡ (list_any (is_answered is_refusal journals) rows && not (is_answered is_refusal journals row))) rows) where
  -- where one is refused, each that is not was held back
  one-refused : list_any (is_answered is_refusal journals) rows ≡ true → All (λ (row : PlainRow). WasRefused journals row ⊎ WasHeldBack journals row) rows
  one-refused any k d within =
      let row : PlainRow = get_or rows k d in
      ⊎_elim (λ (refused : is_answered is_refusal journals row ≡ true). inl refused)
      (λ (spared : is_answered is_refusal journals row ≡ false).
      inr (both-true (is_take (decoded row.bytes)) (is_answered is_done journals row)
      (right k d within ∙ ap (λ (b : Bool). b && not (is_answered is_refusal journals row)) any ∙ ap not spared)).1)
      (cases_Bool (is_answered is_refusal journals row))

  -- where none is, each took
  none-refused : list_any (is_answered is_refusal journals) rows ≡ false → All (HasTaken journals) rows
  none-refused none k d within =
      let row : PlainRow = get_or rows k d in
      ⊎_elim
      (λ (refused : is_answered is_refusal journals row ≡ true).
      absurd (false≢true (sym none ∙ list_any_at (is_answered is_refusal journals) rows k d within refused)))
      (λ (other : (is_take (decoded row.bytes) ≡ true) × ((is_answered is_took journals row ≡ true) ⊎ (is_answered is_done journals row ≡ true))).
      ⊎_elim (λ (took : is_answered is_took journals row ≡ true). took)
      (λ (held : is_answered is_done journals row ≡ true).
      absurd (false≢true
      (sym (right k d within ∙ ap (λ (b : Bool). b && not (is_answered is_refusal journals row)) none)
      ∙ ap (λ (b : Bool). b && is_answered is_done journals row) other.0 ∙ held)))
      other.1)
      (told k d within (legs k d within))

  both-or-neither : All (HasTaken journals) rows
      ⊎ (Any (WasRefused journals) rows × All (λ (row : PlainRow). WasRefused journals row ⊎ WasHeldBack journals row) rows)
  both-or-neither =
      ⊎_elim
      (λ (any : list_any (is_answered is_refusal journals) rows ≡ true). inr (Any-from_list_any (is_answered is_refusal journals) rows any, one-refused any))
      (λ (none : list_any (is_answered is_refusal journals) rows ≡ false). inl (none-refused none))
      (cases_Bool (list_any (is_answered is_refusal journals) rows))

-- ---- all swaps of a script

pub are-paired : (script : PlainScript) → IsScript script → (outcome : PlainOutcome) → IsLawful script outcome → ArePaired script outcome
are-paired script is outcome lawful =
    let journals : List PlainMarketJournal = outcome.markets in
    let each : All (Told journals) script.rows = λ k d within.
    journals-tell script script.start.markets outcome.accounts.markets journals lawful.markets lawful.start.market_journals k d within (is.rows.each k d within).market in
    each-item (items_of script.rows) (λ lane item. BothOrNeither journals item)
    (λ lane.
    subst (All (BothOrNeither journals)) (sym (own-order script is.rows lane))
    (λ k d within some.
    let items : List Item = items_of (rows_of_lane lane script.rows) in
    let item : Item = get_or items k d in
    both-or-neither journals (members item)
    (grouped-each (λ (row : PlainRow). row.number) (Told journals) (rows_of_lane lane script.rows)
    (All-filter (λ (row : PlainRow). eqb row.lane lane) (Told journals) script.rows each) k d within)
    (each-leg item.others item.first (items-in script is.rows lane k d within).legs some)
    (lawful.items lane k d within)))

-- what is left when all items of a script have acted
pub played : (script : PlainScript) (outcome : PlainOutcome) → IsScript script → IsReplayOf script outcome → IsRunOf script outcome
    → (HasNoSwap script.rows → IsReplayOf script outcome → IsLeftByRows script script.rows outcome) → IsPlayed script outcome
played script outcome is replay run by_rows = record {
  replay = replay;
  run = run;
  paired = are-paired script is outcome run.lawful;
  rows = λ single. by_rows single replay;
}
