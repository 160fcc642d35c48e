use Rattle.std.proofs.Common.{ℕ, ◌+◌, ◌≡◌, ◌<◌, List, [], ◌∷◌, ◌++◌, length, get_or, map, take, sym, ap, ◌∙◌, append_assoc, arith}
use Rattle.std.proofs.lemmas.List.{append-nil, take_all, take_more}
use Rattle.dex_history.specs.Journal.{Call}
use Rattle.dex_worth.specs.Entries.{moved_told}
use Rattle.dex_worth.proofs.Calling.{calls-at, calls-long, some-call}
use Rattle.dex_worth.proofs.ledger.add_entries.Goals as goal

pub loop-place-init : goal.loop-place-init
loop-place-init c = λ script owners calls more are told was.
    was ∙ ap (λ (some : List Call). map (moved_told some) owners) (sym (append-nil calls))

pub loop-place-preserved : goal.loop-place-preserved
loop-place-preserved c = λ script owners calls more are told was.
    let place : ℕ = c.loop-place.place in
    let lt : place < length c.args.entries.now = c.loop-place-test.true in
    let long : place < length more = omega (arith, lt, calls-long script c.args.market c.args.entries.now more told) in
    let call : Call = some-call more (omega (arith, long)) in
    let next : (calls ++ take place more) ++ get_or more place call ∷ [] ≡ calls ++ take (place + 1) more =
    append_assoc calls (take place more) (get_or more place call ∷ []) ∙ ap (λ (some : List Call). calls ++ some) (sym (take_more more place call long)) in
    c.add_moved.ensures owners (calls ++ take place more) (get_or more place call)
    (c.moved_by-moved.ensures script (get_or more place call) are (calls-at script c.args.market c.args.entries.now more told place _ call lt))
    (c.loop-place.invariant script owners calls more are told was)
    ∙ ap (λ (some : List Call). map (moved_told some) owners) next

pub returns : goal.returns
returns c = λ script owners calls more are told was.
    c.loop-place.invariant script owners calls more are told was
    ∙ ap (λ (some : List Call). map (moved_told (calls ++ some)) owners)
    (take_all c.loop-place.place more (omega (arith, c.loop-place-test.false, calls-long script c.args.market c.args.entries.now more told)))
