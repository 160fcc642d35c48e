-- The calls that entries tell, one by one.
use Rattle.std.proofs.Common.{ℕ, zero, suc, ◌+◌, ◌≡◌, ◌<◌, List, [], ◌∷◌, ◌++◌, length, get_or, map, Option, Some, None, is_some, refl, sym, ap, ◌∙◌, arith}
use Rattle.std.specs.Option.{unwrap_or}
use Rattle.std.proofs.lemmas.Bool.{false≢true}
use Rattle.std.proofs.lemmas.Simd.{map-map}
use Rattle.dex_types.specs.declared.addresses.Address.{Address}
use Rattle.dex_types.specs.declared.movements.Entry.{Entry}
use Rattle.dex_types.specs.Side.{Token, Coin, Pc}
use Rattle.dex_types.specs.Totals.{total}
use Rattle.dex_laws.proofs.TotalLaws.{total-append}
use Rattle.dex_history.specs.Journal.{Call}
use Rattle.dex_script_types.specs.PlainScript.{PlainScript}
use Rattle.dex_replay.specs.EntryCalls.{call_told, calls_told, with_call}
use Rattle.dex_replay.specs.Told.{told_in, told_out}
use Rattle.dex_worth.specs.declared.amounts.TokenAmounts.{TokenAmounts}
use Rattle.dex_worth.specs.declared.entries.Moved.{Moved}
use Rattle.dex_worth.specs.Amounts.{both, capped_amounts}
use Rattle.dex_worth.specs.Entries.{AreMoved, all_in, all_out, deposited_in, moved_told, settled_in, with_moved}
use Rattle.dex_worth.proofs.Sums.{both-none, pair, same-pair, with-own}

-- the first call and the others
pub record Parts (one : Option Call) (rest : Option (List Call)) (calls : List Call) : Type 0 where
  pub call : Call
  pub others : List Call
  pub first : one ≡ Some call
  pub behind : rest ≡ Some others
  pub are : calls ≡ call ∷ others

pub parts : (one : Option Call) (rest : Option (List Call)) (calls : List Call) → with_call one rest ≡ Some calls → Parts one rest calls
parts (Some call) (Some others) calls told =
    record { call = call; others = others; first = refl; behind = refl; are = ap (λ (o : Option (List Call)). unwrap_or o calls) (sym told) }
parts (Some call) None calls told = absurd (false≢true (ap is_some told))
parts None rest calls told = absurd (false≢true (ap is_some told))

pub calls-long : (script : PlainScript) (market : Address) (entries : List Entry) (calls : List Call) → calls_told script market entries ≡ Some calls → length calls ≡ length entries
calls-long script market [] calls told = ap (λ (o : Option (List Call)). length (unwrap_or o calls)) (sym told)
calls-long script market (entry ∷ entries) calls told =
    let p = parts (call_told script market entry) (calls_told script market entries) calls told in
    ap length p.are ∙ ap suc (calls-long script market entries p.others p.behind)

pub calls-at : (script : PlainScript) (market : Address) (entries : List Entry) (calls : List Call) → calls_told script market entries ≡ Some calls
    → (k : ℕ) (e : Entry) (d : Call) → k < length entries → call_told script market (get_or entries k e) ≡ Some (get_or calls k d)
calls-at script market [] calls told k e d lt = absurd (omega arith)
calls-at script market (entry ∷ entries) calls told zero e d lt =
    let p = parts (call_told script market entry) (calls_told script market entries) calls told in
    p.first ∙ ap (λ (some : List Call). Some (get_or some 0 d)) (sym p.are)
calls-at script market (entry ∷ entries) calls told (suc k) e d lt =
    let p = parts (call_told script market entry) (calls_told script market entries) calls told in
    calls-at script market entries p.others p.behind k e d (omega arith) ∙ ap (λ (some : List Call). Some (get_or some (suc k) d)) (sym p.are)

-- a call of a list that has one
pub some-call : (calls : List Call) → 0 < length calls → Call
some-call [] lt = absurd (omega arith)
some-call (call ∷ calls) lt = call

-- ---- one call more

amounts-more : (told : Token → Address → Call → ℕ) (calls : List Call) (call : Call) (of : Address) (amounts : TokenAmounts) → amounts ≡ pair (told Coin of call) (told Pc of call)
    → capped_amounts (both (pair (total (told Coin of) calls) (total (told Pc of) calls)) amounts)
    ≡ capped_amounts (pair (total (told Coin of) (calls ++ call ∷ [])) (total (told Pc of) (calls ++ call ∷ [])))
amounts-more told calls call of amounts is =
    ap (λ (more : TokenAmounts). capped_amounts (both (pair (total (told Coin of) calls) (total (told Pc of) calls)) more)) is
    ∙ ap capped_amounts (same-pair {coin = total (told Coin of) calls + told Coin of call} {pc = total (told Pc of) calls + told Pc of call}
    {more = total (told Coin of) (calls ++ call ∷ [])} {most = total (told Pc of) (calls ++ call ∷ [])}
    (omega (arith, total-append (told Coin of) calls (call ∷ []))) (omega (arith, total-append (told Pc of) calls (call ∷ []))))

pub moved-none : (calls : List Call) (call : Call) (owners : List Address) → AreMoved call None → map (moved_told calls) owners ≡ map (moved_told (calls ++ call ∷ [])) owners
moved-none calls call owners are = λ i. map (λ (of : Address). record {
  owner = of;
  deposited = (sym (both-none (all_in calls of)) ∙ amounts-more told_in calls call of (deposited_in of None) (are.deposited of)) i;
  settled = (sym (both-none (all_out calls of)) ∙ amounts-more told_out calls call of (settled_in of None) (are.settled of)) i;
}) owners

pub moved-more : (calls : List Call) (call : Call) (more : Moved) (owners : List Address) → AreMoved call (Some more)
    → map (with_moved more) (map (moved_told calls) owners) ≡ map (moved_told (calls ++ call ∷ [])) owners
moved-more calls call more owners are =
    map-map (with_moved more) (moved_told calls) owners
    ∙ λ i. map (λ (of : Address). record {
      owner = of;
      deposited = (with-own more.owner of (all_in calls of) more.deposited more.deposited refl ∙ amounts-more told_in calls call of (deposited_in of (Some more)) (are.deposited of)) i;
      settled = (with-own more.owner of (all_out calls of) more.settled more.settled refl ∙ amounts-more told_out calls call of (settled_in of (Some more)) (are.settled of)) i;
    }) owners
