use Rattle.std.proofs.Common.{◌≡◌, ◌∙◌, ◌||◌, ◌++◌, ◌∷◌, [], ℤ, w64, to_z, of_z, rules, List, Bool, true, false, None, Some, Ok, ap, arith, map, refl, subst, sym}
use Rattle.std.proofs.lemmas.Int.{to_z-of_z}
use Rattle.dex_statement.specs.Stated.{PlainInstruction}
use Rattle.dex_types.specs.declared.rows.Row.{Row}
use Rattle.dex_types.specs.Rows.{row_of}
use Rattle.dex_script.specs.Rows.{exceeds_row, instruction_row, is_full}
use Rattle.dex_desk.specs.BlockInside.{block_inside}
use Rattle.dex_desk.specs.Blocks.{IsBlock, PlainBlock, with_words}
use Rattle.dex_desk.proofs.BlockLaws.{found-by, grown, grown-block, grown-is, made, next-is, not-here, too-much, with-it}
use Rattle.dex_desk.proofs.block.Block.add_instruction.Goals.{then-is_full-via-then-is_full, then-is_full-via-else-is_full+then-exceeds_row}
use Rattle.dex_desk.proofs.block.Block.add_instruction.Goals as goal

or-left : (a b : Bool) → a ≡ true → a || b ≡ true
or-left true b is = refl
or-left false b is = absurd (cc)

or-right : (a b : Bool) → b ≡ true → a || b ≡ true
or-right true b is = refl
or-right false b is = is

pub returns-in_default : goal.returns-in_default
returns-in_default c =
    let block = block_inside c.self.inside in
    let words = c.args.words.now in
    let none = found-by c.self.inside.names block.draft.script.start words _ c.places_of.result None c.self.invariant.names c.words.view_is c.places_of.ensures c.in_default.is in
    (ap (λ (b : PlainBlock). with_words b words) (sym c.self.view_is) ∙ not-here block words none, refl)

pub returns-then-is_full : goal.returns-then-is_full
returns-then-is_full c =
    let block = block_inside c.self.inside in
    let words = c.args.words.now in
    let found = found-by c.self.inside.names block.draft.script.start words _ c.places_of.result (Some c.in-Some.at) c.self.invariant.names c.words.view_is c.places_of.ensures c.in-Some.is in
    let full : is_full block.draft block.number || exceeds_row words ≡ true = elim c.then-is_full.branch [
      | then-is_full-via-then-is_full w ↦ or-left (is_full block.draft block.number) (exceeds_row words) (sym c.is_full.ensures ∙ w.if-is_full.true)
      | then-is_full-via-else-is_full+then-exceeds_row w ↦ or-right (is_full block.draft block.number) (exceeds_row words) (sym w.exceeds_row.ensures ∙ w.if-exceeds_row.true)
    ] in
    (ap (λ (b : PlainBlock). with_words b words) (sym c.self.view_is) ∙ too-much block words c.in-Some.at found full, refl)

pub invariant_of-self-2 : goal.invariant_of-self-2
invariant_of-self-2 c =
    let block = block_inside c.self.inside in
    let words = c.args.words.now in
    let start = block.draft.script.start in
    let found = found-by c.self.inside.names start words _ c.places_of.result (Some c.in-Some.at) c.self.invariant.names c.words.view_is c.places_of.ensures c.in-Some.is in
    let room : is_full block.draft block.number ≡ false = sym c.is_full.ensures ∙ c.if-is_full.false in
    let within : exceeds_row words ≡ false = sym c.exceeds_row.ensures ∙ c.if-exceeds_row.false in
    let time_is : to_z w64 (of_z w64 c.self.inside.clock) ≡ c.self.inside.clock = search (rules, to_z-of_z) in
    let same : grown block words ≡ made block _ _ _ =
    grown-is block words _ _ _
    (c.push_placed.ensures.row
    ∙ ap (λ (time : ℤ). map row_of c.make_room.new.rows.items ++ instruction_row block.number time words ∷ []) time_is
    ∙ ap (λ (rows : List Row). map row_of rows ++ instruction_row block.number block.draft.clock words ∷ []) c.in_ok-make_room.ensures.rows)
    (omega (arith, c.max-self-inside.ensures, ap (λ (w : PlainInstruction). w.lane) c.words.view_is))
    (sym (next-is block c.self.invariant.block room)) in
    record {
      block = subst IsBlock same (grown-block block words c.in-Some.at c.requires.0 c.self.invariant.block c.requires.1 found room within);
      placed = c.push_placed.ensures.placed start [] found (rw (c.in_ok-make_room.ensures.rows, c.in_ok-make_room.ensures.places) c.self.invariant.placed);
      beside = c.push_placed.ensures.beside start [] found (rw (c.in_ok-make_room.ensures.rows, c.in_ok-make_room.ensures.places) c.self.invariant.beside);
      names = c.self.invariant.names;
    }

pub returns : goal.returns
returns c =
    let block = block_inside c.self.inside in
    let words = c.args.words.now in
    let start = block.draft.script.start in
    let found = found-by c.self.inside.names start words _ c.places_of.result (Some c.in-Some.at) c.self.invariant.names c.words.view_is c.places_of.ensures c.in-Some.is in
    let room : is_full block.draft block.number ≡ false = sym c.is_full.ensures ∙ c.if-is_full.false in
    let within : exceeds_row words ≡ false = sym c.exceeds_row.ensures ∙ c.if-exceeds_row.false in
    let time_is : to_z w64 (of_z w64 c.self.inside.clock) ≡ c.self.inside.clock = search (rules, to_z-of_z) in
    ap (λ (b : PlainBlock). with_words b words) (sym c.self.view_is)
    ∙ with-it block words c.in-Some.at found room within
    ∙ ap (λ (b : PlainBlock). Ok b)
    (grown-is block words _ _ _
    (c.push_placed.ensures.row
    ∙ ap (λ (time : ℤ). map row_of c.make_room.new.rows.items ++ instruction_row block.number time words ∷ []) time_is
    ∙ ap (λ (rows : List Row). map row_of rows ++ instruction_row block.number block.draft.clock words ∷ []) c.in_ok-make_room.ensures.rows)
    (omega (arith, c.max-self-inside.ensures, ap (λ (w : PlainInstruction). w.lane) c.words.view_is))
    (sym (next-is block c.self.invariant.block room)))
