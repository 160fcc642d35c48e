use Rattle.std.proofs.Common.{◌≡◌, ◌∙◌, Err, Result, length, map-id, rules, subst, sym, take}
use Rattle.std.proofs.lemmas.Iterator.Adapters.{YieldsList-from_vec}
use Rattle.std.proofs.lemmas.Iterator.Consumers.{YieldsList-so_far, YieldsList-turn}
use Rattle.dex_script.specs.declared.fault.ScriptError.{ScriptError}
use Rattle.dex_script.specs.Drafts.{PlainDraft}
use Rattle.dex_script.specs.Scripts.{draft_after}
use Rattle.dex_script.specs.Telling.{TellsDraft}
use Rattle.dex_script_pieces.specs.Pieces.{rows_of}
use Rattle.dex_script_pieces.proofs.Behind.{piece-here, piece-number, piece-read, piece-refused, stays-more}
use Rattle.dex_script_pieces.proofs.reading.behind_pieces.Goals as goal

pub behind_piece-requires-clause-read : goal.behind_piece-requires-clause-read
behind_piece-requires-clause-read c =
    let loop = c.loop-piece in
    let road = YieldsList-from_vec c.args.pieces.items c.into_iter-piece-iterator.ensures.into_iter_gives.0 (search rules) in
    let turn = YieldsList-turn road loop.yielded loop.piece-iterator loop.yielded_by c.next.result c.next.new.self c.in-Some.piece c.in-Some.is c.next.ensures.steps in
    let so_far : loop.yielded ≡ take (length loop.yielded) c.args.pieces.items =
    sym (map-id loop.yielded) ∙ YieldsList-so_far road loop.yielded loop.piece-iterator loop.yielded_by in
    piece-here c.args.reader c.args.number c.args.pieces.items loop.yielded c.in-Some.piece so_far turn.0 turn.1 loop.reader loop.number
    loop.invariant.stays loop.invariant.read loop.invariant.number c.requires.read

pub returns-in_err-reader : goal.returns-in_err-reader
returns-in_err-reader c =
    let error = c.in_err-reader.field-0.0 in
    let is : c.from_residual.result ≡ Err error = search rules in
    let loop = c.loop-piece in
    let road = YieldsList-from_vec c.args.pieces.items c.into_iter-piece-iterator.ensures.into_iter_gives.0 (search rules) in
    let turn = YieldsList-turn road loop.yielded loop.piece-iterator loop.yielded_by c.next.result c.next.new.self c.in-Some.piece c.in-Some.is c.next.ensures.steps in
    let so_far : loop.yielded ≡ take (length loop.yielded) c.args.pieces.items =
    sym (map-id loop.yielded) ∙ YieldsList-so_far road loop.yielded loop.piece-iterator loop.yielded_by in
    subst (λ (r : Result PlainDraft ScriptError). TellsDraft r (draft_after c.args.reader c.args.number (rows_of c.args.pieces.items))) (sym is)
    (piece-refused c.args.reader c.args.number c.args.pieces.items loop.yielded c.in-Some.piece so_far turn.0 turn.1 loop.reader loop.number
    loop.invariant.stays loop.invariant.read loop.invariant.number error c.in_err-reader.ensures.told)

pub loop-piece-preserved : goal.loop-piece-preserved
loop-piece-preserved c =
    let loop = c.loop-piece in
    let road = YieldsList-from_vec c.args.pieces.items c.into_iter-piece-iterator.ensures.into_iter_gives.0 (search rules) in
    let turn = YieldsList-turn road loop.yielded loop.piece-iterator loop.yielded_by c.next.result c.next.new.self c.in-Some.piece c.in-Some.is c.next.ensures.steps in
    let so_far : loop.yielded ≡ take (length loop.yielded) c.args.pieces.items =
    sym (map-id loop.yielded) ∙ YieldsList-so_far road loop.yielded loop.piece-iterator loop.yielded_by in
    record {
      stays = stays-more c.args.reader loop.reader c.in_ok-reader.reader loop.number c.in-Some.piece.rows loop.invariant.stays c.in_ok-reader.ensures.told;
      read =
          piece-read c.args.reader c.args.number c.args.pieces.items loop.yielded c.in-Some.piece so_far turn.0 turn.1 loop.reader loop.number
          loop.invariant.stays loop.invariant.read loop.invariant.number c.in_ok-reader.reader c.in_ok-reader.ensures.told;
      number =
          piece-number c.args.reader c.args.number c.args.pieces.items loop.yielded c.in-Some.piece so_far turn.0 turn.1 loop.reader loop.number
          loop.invariant.stays loop.invariant.read loop.invariant.number c.behind_piece.new.number c.in_ok-reader.ensures.number;
    }
