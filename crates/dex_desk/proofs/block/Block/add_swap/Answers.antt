use Rattle.std.proofs.Common.{◌≡◌, ◌∙◌, [], w64, to_z, of_z, rules, List, true, false, None, Some, Ok, ap, arith, map, refl, subst, sym}
use Rattle.std.proofs.lemmas.Int.{to_z-of_z}
use Rattle.dex_statement.specs.Stated.{PlainSwap}
use Rattle.dex_types.specs.declared.rows.Row.{Row}
use Rattle.dex_types.specs.Rows.{row_of}
use Rattle.dex_script.specs.Rows.{is_bad_swap}
use Rattle.dex_script.proofs.FaultLaws.{or-none}
use Rattle.dex_script.proofs.ItemRows.{first_leg, second_leg}
use Rattle.dex_desk.specs.BlockInside.{block_inside}
use Rattle.dex_desk.specs.Blocks.{IsBlock, PlainBlock, with_both}
use Rattle.dex_desk.proofs.BlockLaws.{AreHere, both-bad, both-behind, both-too-much, both_full, first-not-here, found-by, grown-both-block, grown-both-is, grown_both, made, next-is, of-legs, second-not-here, with-both}
use Rattle.dex_desk.proofs.block.Block.add_swap.Goals.{In-Some-places_of}
use Rattle.dex_desk.proofs.block.Block.add_swap.Goals as goal

-- both legs name markets and wallets that are here
legs-here : (c : In-Some-places_of) → AreHere (block_inside c.self.inside) c.args.words c.in-Some.first_at c.in-Some-places_of.second_at
legs-here c =
    let start = (block_inside c.self.inside).draft.script.start in
    let names = c.self.inside.names in
    let words = c.args.words in
    let one = c.into_instruction-first.ensures ∙ ap first_leg c.words.view_is in
    let two = c.into_instruction-second.ensures ∙ ap second_leg c.words.view_is in
    record {
      first = found-by names start (first_leg words) _ c.places_of.result (Some c.in-Some.first_at) c.self.invariant.names (c.first.view_is ∙ one) c.places_of.ensures c.in-Some.is;
      second = found-by names start (second_leg words) _ c.places_of-2.result (Some c.in-Some-places_of.second_at) c.self.invariant.names (c.second.view_is ∙ two) c.places_of-2.ensures c.in-Some-places_of.is;
    }

pub returns-in_default : goal.returns-in_default
returns-in_default c =
    let block = block_inside c.self.inside in
    let words = c.args.words in
    let one = c.into_instruction-first.ensures ∙ ap first_leg c.words.view_is in
    let none = found-by c.self.inside.names block.draft.script.start (first_leg words) _ c.places_of.result None c.self.invariant.names (c.first.view_is ∙ one) c.places_of.ensures c.in_default.is in
    (ap (λ (b : PlainBlock). with_both b words) (sym c.self.view_is) ∙ first-not-here block words none, refl)

pub returns-in_default-places_of : goal.returns-in_default-places_of
returns-in_default-places_of c =
    let block = block_inside c.self.inside in
    let start = block.draft.script.start in
    let names = c.self.inside.names in
    let words = c.args.words in
    let one = c.into_instruction-first.ensures ∙ ap first_leg c.words.view_is in
    let two = c.into_instruction-second.ensures ∙ ap second_leg c.words.view_is in
    let here = found-by names start (first_leg words) _ c.places_of.result (Some c.in-Some.first_at) c.self.invariant.names (c.first.view_is ∙ one) c.places_of.ensures c.in-Some.is in
    let none = found-by names start (second_leg words) _ c.places_of-2.result None c.self.invariant.names (c.second.view_is ∙ two) c.places_of-2.ensures c.in_default-places_of.is in
    (ap (λ (b : PlainBlock). with_both b words) (sym c.self.view_is) ∙ second-not-here block words c.in-Some.first_at here none, refl)

pub returns-then-exceeds_swap : goal.returns-then-exceeds_swap
returns-then-exceeds_swap c =
    let block = block_inside c.self.inside in
    let words = c.args.words in
    let one = c.into_instruction-first.ensures ∙ ap first_leg c.words.view_is in
    let two = c.into_instruction-second.ensures ∙ ap second_leg c.words.view_is in
    let here = legs-here (goal.at.returns-then-exceeds_swap c).In-Some-places_of in
    let full = of-legs (both_full block) words c.into_instruction-first.result c.into_instruction-second.result c.exceeds_swap.result true one two c.exceeds_swap.ensures c.if-exceeds_swap.true in
    (ap (λ (b : PlainBlock). with_both b words) (sym c.self.view_is) ∙ both-too-much block words c.in-Some.first_at c.in-Some-places_of.second_at here full, refl)

pub returns-then-is_bad_swap : goal.returns-then-is_bad_swap
returns-then-is_bad_swap c =
    let block = block_inside c.self.inside in
    let words = c.args.words in
    let one = c.into_instruction-first.ensures ∙ ap first_leg c.words.view_is in
    let two = c.into_instruction-second.ensures ∙ ap second_leg c.words.view_is in
    let here = legs-here (goal.at.returns-then-is_bad_swap c).In-Some-places_of in
    let room = of-legs (both_full block) words c.into_instruction-first.result c.into_instruction-second.result c.exceeds_swap.result false one two c.exceeds_swap.ensures c.if-exceeds_swap.false in
    let bad = of-legs is_bad_swap words c.into_instruction-first.result c.into_instruction-second.result c.is_bad_swap.result true one two c.is_bad_swap.ensures c.if-is_bad_swap.true in
    (ap (λ (b : PlainBlock). with_both b words) (sym c.self.view_is) ∙ both-bad block words c.in-Some.first_at c.in-Some-places_of.second_at here room bad, refl)

pub invariant_of-self-2 : goal.invariant_of-self-2
invariant_of-self-2 c =
    let block = block_inside c.self.inside in
    let kept = c.self.invariant in
    let start = block.draft.script.start in
    let names = c.self.inside.names in
    let words = c.args.words in
    let time_is : to_z w64 (of_z w64 c.self.inside.clock) ≡ c.self.inside.clock = search (rules, to_z-of_z) in
    let first = c.into_instruction-first.result in
    let second = c.into_instruction-second.result in
    let one = c.into_instruction-first.ensures ∙ ap first_leg c.words.view_is in
    let two = c.into_instruction-second.ensures ∙ ap second_leg c.words.view_is in
    let at = c.in-Some.first_at in
    let other = c.in-Some-places_of.second_at in
    let first_here = found-by names start first _ c.places_of.result (Some at) kept.names c.first.view_is c.places_of.ensures c.in-Some.is in
    let second_here = found-by names start second _ c.places_of-2.result (Some other) kept.names c.second.view_is c.places_of-2.ensures c.in-Some-places_of.is in
    let here = legs-here (goal.at.invariant_of-self-2 c).In-Some-places_of in
    let room = of-legs (both_full block) words first second c.exceeds_swap.result false one two c.exceeds_swap.ensures c.if-exceeds_swap.false in
    let good = of-legs is_bad_swap words first second c.is_bad_swap.result false one two c.is_bad_swap.ensures c.if-is_bad_swap.false in
    let free = (or-none _ _ (or-none _ _ room).0).0 in
    let same : grown_both block words ≡ made block _ _ _ =
    grown-both-is block words _ _ _
    (both-behind block words (map row_of c.make_room.new.rows.items) (map row_of c.push_placed.new.rows.items) (map row_of c.push_placed-2.new.rows.items) first second _ one two time_is
    (ap (λ (rows : List Row). map row_of rows) c.in_ok-make_room.ensures.rows) c.push_placed.ensures.row c.push_placed-2.ensures.row)
    (omega (arith, c.max-self-inside.ensures, ap (λ (w : PlainSwap). w.lane) c.words.view_is))
    (sym (next-is block kept.block free)) in
    record {
      block = subst IsBlock same (grown-both-block block words at other here c.requires.0 kept.block c.requires.1 room good refl);
      placed = c.push_placed-2.ensures.placed start [] second_here
          (c.push_placed.ensures.placed start [] first_here (rw (c.in_ok-make_room.ensures.rows, c.in_ok-make_room.ensures.places) kept.placed));
      beside = c.push_placed-2.ensures.beside start [] second_here
          (c.push_placed.ensures.beside start [] first_here (rw (c.in_ok-make_room.ensures.rows, c.in_ok-make_room.ensures.places) kept.beside));
      names = kept.names;
    }

pub returns : goal.returns
returns c =
    let block = block_inside c.self.inside in
    let kept = c.self.invariant in
    let words = c.args.words in
    let time_is : to_z w64 (of_z w64 c.self.inside.clock) ≡ c.self.inside.clock = search (rules, to_z-of_z) in
    let first = c.into_instruction-first.result in
    let second = c.into_instruction-second.result in
    let one = c.into_instruction-first.ensures ∙ ap first_leg c.words.view_is in
    let two = c.into_instruction-second.ensures ∙ ap second_leg c.words.view_is in
    let here = legs-here (goal.at.returns c).In-Some-places_of in
    let room = of-legs (both_full block) words first second c.exceeds_swap.result false one two c.exceeds_swap.ensures c.if-exceeds_swap.false in
    let good = of-legs is_bad_swap words first second c.is_bad_swap.result false one two c.is_bad_swap.ensures c.if-is_bad_swap.false in
    let free = (or-none _ _ (or-none _ _ room).0).0 in
    ap (λ (b : PlainBlock). with_both b words) (sym c.self.view_is)
    ∙ with-both block words c.in-Some.first_at c.in-Some-places_of.second_at here room good refl
    ∙ ap (λ (b : PlainBlock). Ok b)
    (grown-both-is block words _ _ _
    (both-behind block words (map row_of c.make_room.new.rows.items) (map row_of c.push_placed.new.rows.items) (map row_of c.push_placed-2.new.rows.items) first second _ one two time_is
    (ap (λ (rows : List Row). map row_of rows) c.in_ok-make_room.ensures.rows) c.push_placed.ensures.row c.push_placed-2.ensures.row)
    (omega (arith, c.max-self-inside.ensures, ap (λ (w : PlainSwap). w.lane) c.words.view_is))
    (sym (next-is block kept.block free)))
