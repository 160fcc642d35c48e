use Rattle.std.proofs.Common.{◌+◌, ◌∷◌, [], ◌∙◌, ap, arith, length, length-append, sym}
use Rattle.dex_world.proofs.Common.{Row}
use Rattle.dex_replay.proofs.Common.{PlainScript}
use Rattle.dex_run.proofs.LaneItems.{rest-behind}
use Rattle.dex_run.proofs.LaneRows.{are-legs, begins-alone, higher-behind, lower-before, next-both, next-own, one-number, places-long, row-placed}
use Rattle.dex_run.proofs.lane.Lanes.submit_item.Goals as goal

pub is_swap-requires : goal.is_swap-requires
is_swap-requires g c = omega (arith, c.requires.item.within, places-long c.args.self.now.bank.now c.args.self.now.rows.now c.args.self.now.places.now c.requires.rows)

-- ---- two legs

-- the places are as many as the rows
pub overflow_add-next : goal.overflow_add-next
overflow_add-next g c = omega (arith, c.requires.item.within, places-long c.args.self.now.bank.now c.args.self.now.rows.now c.args.self.now.places.now c.requires.rows)

pub at-second-requires : goal.at-second-requires
at-second-requires g c = (c.is_swap.ensures.yes c.if-is_swap.true c.args.self.now.rows.now c.requires.rows.beside c.at-first.result.now).0

pub bounds-places-place : goal.bounds-places-place
bounds-places-place g c = omega (arith, c.requires.item.within, places-long c.args.self.now.bank.now c.args.self.now.rows.now c.args.self.now.places.now c.requires.rows)

pub bounds-places-next : goal.bounds-places-next
bounds-places-next g c =
    omega (arith, (c.is_swap.ensures.yes c.if-is_swap.true c.args.self.now.rows.now c.requires.rows.beside c.at-first.result.now).0, places-long c.args.self.now.bank.now c.args.self.now.rows.now c.args.self.now.places.now c.requires.rows)

pub offset_bounds-places-place : goal.offset_bounds-places-place
offset_bounds-places-place g c = omega (arith, c.requires.item.within, places-long c.args.self.now.bank.now c.args.self.now.rows.now c.args.self.now.places.now c.requires.rows)

pub offset_bounds-places-next : goal.offset_bounds-places-next
offset_bounds-places-next g c =
    omega (arith, (c.is_swap.ensures.yes c.if-is_swap.true c.args.self.now.rows.now c.requires.rows.beside c.at-first.result.now).0, places-long c.args.self.now.bank.now c.args.self.now.rows.now c.args.self.now.places.now c.requires.rows)

pub swap_two-requires-clause-legs : goal.swap_two-requires-clause-legs
swap_two-requires-clause-legs g c =
    let first = c.at-first.result.now in
    let second = c.at-second.result.now in
    let at = c.at-first.ensures first in
    let next = c.at-second.ensures second in
    let item = c.requires.item in
    let swap = c.is_swap.ensures.yes c.if-is_swap.true c.args.self.now.rows.now c.requires.rows.beside in
    next-both c.args.self.now.rows.now c.args.place first second c.args.seat.now (swap first).0 at next
    (c.requires.rows.rows_are ∙ ap (λ (s : PlainScript). s.rows) (sym c.requires.bank.script)) (sym item.so_far)
    (lower-before c.args.self.now.rows.now c.args.place first item.within at item.begins)
    (one-number c.args.self.now.rows.now c.args.place first second at next swap)
    (are-legs c.args.self.now.bank.now.script c.args.self.now.rows.now c.requires.rows.rows_are c.requires.rows.is.rows c.args.place first second at next swap)
    (ap (λ (r : Row). r.lane) at ∙ item.own first)

pub swap_two-requires-clause-first : goal.swap_two-requires-clause-first
swap_two-requires-clause-first g c =
    row-placed c.args.self.now.bank.now c.args.self.now.rows.now c.args.self.now.places.now c.requires.rows c.args.place c.at-first.result.now _ c.requires.item.within
    (c.at-first.ensures c.at-first.result.now)

pub swap_two-requires-clause-second : goal.swap_two-requires-clause-second
swap_two-requires-clause-second g c =
    row-placed c.args.self.now.bank.now c.args.self.now.rows.now c.args.self.now.places.now c.requires.rows (c.args.place + 1) c.at-second.result.now _
    (c.is_swap.ensures.yes c.if-is_swap.true c.args.self.now.rows.now c.requires.rows.beside c.at-first.result.now).0 (c.at-second.ensures c.at-second.result.now)

pub returns-then-is_swap-clause-rest : goal.returns-then-is_swap-clause-rest
returns-then-is_swap-clause-rest g c = λ later rest.
    let submitted = c.swap_two.ensures.submitted in
    rest-behind c.args.self.now.rows.now c.args.seat.now c.swap_two.new.seat later (length c.args.seat.now.calls + 2) submitted.lane
    (ap length submitted.calls ∙ length-append c.args.seat.now.calls (submitted.one ∷ submitted.two ∷ []))
    (rest.1.1 (c.is_swap.ensures.yes c.if-is_swap.true c.args.self.now.rows.now c.requires.rows.beside))

-- ---- a row alone

pub bounds-places-place-else-is_swap : goal.bounds-places-place-else-is_swap
bounds-places-place-else-is_swap g c = omega (arith, c.requires.item.within, places-long c.args.self.now.bank.now c.args.self.now.rows.now c.args.self.now.places.now c.requires.rows)

pub offset_bounds-places-place-else-is_swap : goal.offset_bounds-places-place-else-is_swap
offset_bounds-places-place-else-is_swap g c = omega (arith, c.requires.item.within, places-long c.args.self.now.bank.now c.args.self.now.rows.now c.args.self.now.places.now c.requires.rows)

pub submit-requires-clause-row : goal.submit-requires-clause-row
submit-requires-clause-row g c =
    let row = c.at-row.result.now in
    let at = c.at-row.ensures row in
    let item = c.requires.item in
    next-own c.args.self.now.rows.now c.args.place row c.args.seat.now item.within at
    (c.requires.rows.rows_are ∙ ap (λ (s : PlainScript). s.rows) (sym c.requires.bank.script)) (sym item.so_far)
    (lower-before c.args.self.now.rows.now c.args.place row item.within at item.begins)
    (higher-behind c.args.self.now.bank.now.script c.args.self.now.rows.now c.requires.rows.rows_are c.requires.rows.is.rows c.args.place row item.within at
    (begins-alone c.args.self.now.bank.now.script c.args.self.now.rows.now c.requires.rows.rows_are c.requires.rows.is.rows c.args.place item.begins (c.is_swap.ensures.no c.if-is_swap.false c.args.self.now.rows.now c.requires.rows.beside)))
    (ap (λ (r : Row). r.lane) at ∙ item.own row)

pub submit-requires-clause-placed : goal.submit-requires-clause-placed
submit-requires-clause-placed g c =
    row-placed c.args.self.now.bank.now c.args.self.now.rows.now c.args.self.now.places.now c.requires.rows c.args.place c.at-row.result.now _ c.requires.item.within
    (c.at-row.ensures c.at-row.result.now)

pub returns-else-is_swap-clause-rest : goal.returns-else-is_swap-clause-rest
returns-else-is_swap-clause-rest g c = λ later rest.
    let submitted = c.submit.ensures.submitted in
    rest-behind c.args.self.now.rows.now c.args.seat.now c.submit.new.seat later (length c.args.seat.now.calls + 1) submitted.lane
    (ap length submitted.calls ∙ length-append c.args.seat.now.calls (submitted.call ∷ [])) (rest.1.0 (c.is_swap.ensures.no c.if-is_swap.false c.args.self.now.rows.now c.requires.rows.beside))
