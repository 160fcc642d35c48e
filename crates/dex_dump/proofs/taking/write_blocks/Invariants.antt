use Rattle.std.proofs.Common.{◌≡◌, ◌++◌}
use Rattle.std.specs.Slice.Iter.{chunks_rest, chunks_size}
use Rattle.dex_dump.specs.DumpText.{base64_text}
use Rattle.dex_dump.specs.Pieces.{text_in}
use Rattle.dex_dump.proofs.taking.write_blocks.Given as goal

abbrev pub invariant-pieces : goal.invariant-pieces
invariant-pieces l = record {
  can_next : goal.iterator-pieces.can_next l.block-iterator;
  is_finite : goal.iterator-pieces.is_finite l.block-iterator;
  size : chunks_size l.block-iterator ≡ 49152;
  text : text_in l.text ++ base64_text (chunks_rest l.block-iterator) ≡ text_in l.fn.text ++ base64_text l.fn.bytes;
}
