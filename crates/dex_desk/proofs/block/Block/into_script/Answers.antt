use Rattle.std.proofs.Common.{subst}
use Rattle.dex_script_types.specs.Facts.{IsScript}
use Rattle.dex_desk.specs.BlockInside.{block_inside}
use Rattle.dex_desk.specs.Blocks.{PlainBlock}
use Rattle.dex_desk.proofs.BlockLaws.{is-script}
use Rattle.dex_desk.proofs.block.Block.into_script.Goals as goal

pub returns-in_err-push_piece-clause-is : goal.returns-in_err-push_piece-clause-is
returns-in_err-push_piece-clause-is c =
    subst (λ (block : PlainBlock). IsScript block.draft.script) c.self.view_is (is-script (block_inside c.self.inside) c.self.invariant.block)

pub invariant_of-script : goal.invariant_of-script
invariant_of-script c =
    rw (c.in_ok-push_piece.ensures, c.new-list.ensures)
    (is-script (block_inside c.self.inside) c.self.invariant.block, c.self.invariant.placed, c.self.invariant.beside)

pub returns-clause-is : goal.returns-clause-is
returns-clause-is c =
    subst (λ (block : PlainBlock). IsScript block.draft.script) c.self.view_is (is-script (block_inside c.self.inside) c.self.invariant.block)
