use Rattle.std.proofs.Common.{◌≡◌, ◌∙◌, ◌++◌, ◌∷◌, [], ℤ, List, ap, map, refl, sym, w64}
use Rattle.std.proofs.lemmas.Int.{to_z-of_z}
use Rattle.std.proofs.lemmas.List.{append_assoc, map-append}
use Rattle.dex_types.specs.declared.rows.Row.{Row}
use Rattle.dex_types.specs.Rows.{PlainRow, row_of}
use Rattle.dex_script_types.proofs.PlacedLaws.{beside-push, placed-push, stands-beside}
use Rattle.dex_statement.specs.Stated.{PlainInstruction}
use Rattle.dex_script.specs.Names.{wallet_among}
use Rattle.dex_script.specs.Rows.{instruction_row}
use Rattle.dex_script.proofs.instruction.push_placed.Goals as goal

-- a row more after those before
pushed : (front : List PlainRow) (before after : List Row) (one : Row) (row : PlainRow) → after ≡ before ++ one ∷ [] → row_of one ≡ row
    → front ++ map row_of after ≡ (front ++ map row_of before) ++ row ∷ []
pushed front before after one row is told =
    ap (λ (rows : List PlainRow). front ++ rows)
    (ap (map row_of) is ∙ map-append row_of before (one ∷ []) ∙ ap (λ (last : PlainRow). map row_of before ++ last ∷ []) told)
    ∙ sym (append_assoc front (map row_of before) (row ∷ []))

pub returns-clause-placed : goal.returns-clause-placed
returns-clause-placed c = λ start front is are.
    let row = instruction_row c.args.number c.args.now c.args.words.now in
    let all = pushed front c.args.rows.now.items c.push_reserved-2.new.self.items c.take_row.result row c.push_reserved-2.ensures.items
    (c.take_row.ensures ∙ ap (λ (time : ℤ). instruction_row c.args.number time c.args.words.now) (to_z-of_z w64 c.args.now c.ranges.now)) in
    rw (c.push_reserved.ensures.items, all)
    (placed-push start (front ++ map row_of c.args.rows.now.items) c.args.places.now.items row _ are
    (record { market = is.market; wallets = is.wallets }))

pub returns-clause-beside : goal.returns-clause-beside
returns-clause-beside c = λ start front is are.
    let row = instruction_row c.args.number c.args.now c.args.words.now in
    let all = pushed front c.args.rows.now.items c.push_reserved-2.new.self.items c.take_row.result row c.push_reserved-2.ensures.items
    (c.take_row.ensures ∙ ap (λ (time : ℤ). instruction_row c.args.number time c.args.words.now) (to_z-of_z w64 c.args.now c.ranges.now)) in
    rw (c.push_reserved.ensures.items, all)
    (beside-push (front ++ map row_of c.args.rows.now.items) c.args.places.now.items row _ are
    (stands-beside (wallet_among start) row _ is.wallets refl
    (ap (λ (words : PlainInstruction). words.lane) c.words.view_is)))
