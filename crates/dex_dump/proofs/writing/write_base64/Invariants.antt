use Rattle.std.proofs.Common.{◌≡◌, ◌++◌}
use Rattle.std.specs.Slice.Iter.{chunks_rest, chunks_size}
use Rattle.dex_dump.specs.DumpText.{base64_text}
use Rattle.dex_dump.proofs.writing.write_base64.Given as goal

abbrev pub invariant-pieces : goal.invariant-pieces
invariant-pieces l = record {
  can_next : goal.iterator-pieces.can_next l.piece-iterator;
  is_finite : goal.iterator-pieces.is_finite l.piece-iterator;
  size : chunks_size l.piece-iterator ≡ 768;
  text : l.text.items ++ base64_text (chunks_rest l.piece-iterator) ≡ l.fn.text.items ++ base64_text l.fn.bytes;
}
