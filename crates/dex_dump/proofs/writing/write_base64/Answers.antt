use Rattle.std.proofs.Common.{◌∙◌, ◌++◌, ℕ, List, rules, sym, ap, append_assoc, append-nil, refl}
use Rattle.std.proofs.lemmas.List.{nil_from_length}
use Rattle.std.specs.Slice.Iter.{chunks_rest}
use Rattle.base64.specs.Engines.{standard}
use Rattle.base64.proofs.EngineFacts.{encode_of-nil}
use Rattle.dex_dump.specs.DumpText.{base64_text}
use Rattle.dex_dump.proofs.BlockLaws.{piece-first}
use Rattle.dex_dump.proofs.writing.write_base64.Goals as goal

pub pieces-preserved : goal.pieces-preserved
pieces-preserved c =
    let steps = c.in-Some.ensures.steps in
    let size = c.pieces.invariant.size in
    let parts = piece-first 768 256 _ c.in-Some.piece.now (chunks_rest c.next.new.self) refl steps.1.0 (rw size at steps.1.1) in
    record {
      can_next = search rules;
      is_finite = tt;
      size = steps.0 ∙ size;
      text = rw c.in_ok-write_piece.ensures (append_assoc c.pieces.text.items _ _ ∙ ap (λ (t : List ℕ). c.pieces.text.items ++ t) (sym parts) ∙ c.pieces.invariant.text);
    }

pub returns-clause-text : goal.returns-clause-text
unfolding base64_text
returns-clause-text c =
    let none = nil_from_length _ c.in-None.ensures.steps.1.0 in
    rw (none, encode_of-nil standard, append-nil) at c.pieces.invariant.text
