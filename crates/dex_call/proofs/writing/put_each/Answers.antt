use Rattle.std.proofs.Common.{◌∙◌, ◌≡◌, ◌+◌, ◌++◌, ℕ, List, ap, arith, suc, sym, take}
use Rattle.std.specs.List.{flat_map}
use Rattle.dex_dump.specs.Pieces.{piece_text}
use Rattle.dex_commands.proofs.Pieces.{text-more}
use Rattle.dex_call.proofs.Pieces.{inside-whole, put-more, room-left}
use Rattle.dex_call.proofs.writing.put_each.Goals as goal

pub put_at-place-requires : goal.put_at-place-requires
put_at-place-requires c =
    let part = inside-whole c.args.pieces.now c.pieces.piece-index c.piece-item.result c.pieces-test.true c.piece-item.is in
    room-left (flat_map piece_text (take c.pieces.piece-index c.args.pieces.now)) c.bytes_of.result.now c.args.room.now c.pieces.room c.pieces.place _
    c.pieces.invariant.place c.pieces.invariant.room (rw c.bytes_of.ensures part) c.requires

pub pieces-preserved : goal.pieces-preserved
pieces-preserved c =
    let pieces = c.args.pieces.now in
    let front = flat_map piece_text (take c.pieces.piece-index pieces) in
    let one_more : c.pieces.piece-index + 1 ≡ suc c.pieces.piece-index = omega arith in
    let next : flat_map piece_text (take (c.pieces.piece-index + 1) pieces) ≡ front ++ c.bytes_of.result.now =
    ap (λ (n : ℕ). flat_map piece_text (take n pieces)) one_more
    ∙ text-more pieces c.pieces.piece-index c.piece-item.result c.pieces-test.true c.piece-item.is ∙ ap (λ (t : List ℕ). front ++ t) (sym c.bytes_of.ensures) in
    let put = put-more front c.bytes_of.result.now c.args.room.now c.pieces.room _ c.pieces.place c.pieces.invariant.place c.pieces.invariant.room next in
    record { place = c.put_at-place.ensures.end ∙ put.end; room = c.put_at-place.ensures.written ∙ put.text }
