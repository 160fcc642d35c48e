use Rattle.std.proofs.Common.{◌≡◌, ◌+◌, ℕ, [], List, arith, get_or, length, map, ap, sym, subst, ◌∙◌, get_or-set_other, length-append, length-set}
use Rattle.dex_world.proofs.Common.{named_of, row_of}
use Rattle.dex_replay.proofs.Common.{AreCells, CellState, MarketCellState}
use Rattle.dex_batch.specs.Shares.{ShareState, own_cells, share, share_at}
use Rattle.dex_world.proofs.MappedLists.{zip-at}
use Rattle.dex_batch.proofs.PartLaws.{each-more}
use Rattle.dex_batch.proofs.shares.shares.Goals as goal

pub of-cells-requires : goal.of-cells-requires
of-cells-requires g c =
    let number = c.loop-number.number in
    let markets : c.take_all.result.items ≡ get_or c.args.markets.items number [] = c.take_all.ensures.taken [] ∙ c.loop-number.invariant.markets_left number [] (omega arith) in
    let wallets : c.take_all-in-loop-number.result.items ≡ get_or c.args.wallets.items number [] =
    c.take_all-in-loop-number.ensures.taken [] ∙ c.loop-number.invariant.wallets_left number [] (omega arith) in
    let are : AreCells (own_cells c.args.terms c.take_all.result.items c.take_all-in-loop-number.result.items) =
    subst AreCells (λ i. own_cells c.args.terms (sym markets i) (sym wallets i))
    (zip-at (λ (m : List MarketCellState) (w : List CellState). AreCells (own_cells c.args.terms m w)) c.args.markets.items c.args.wallets.items number [] [] c.requires.cells
    (omega (arith, c.loop-number-test.true, c.len-number-end.ensures))) in
    record { cells = record { markets = are.markets; wallets = are.wallets; apart = are.apart } }

pub loop-number-preserved : goal.loop-number-preserved
loop-number-preserved g c =
    let number = c.loop-number.number in
    let terms = c.args.terms in
    let ms = c.args.markets.items in
    let ws = c.args.wallets.items in
    let told : ℕ → ShareState = share_at (map row_of c.args.window.now.rows.now) c.args.window.now.numbers.now terms ms ws in
    let markets : c.take_all.result.items ≡ get_or ms number [] = c.take_all.ensures.taken [] ∙ c.loop-number.invariant.markets_left number [] (omega arith) in
    let wallets : c.take_all-in-loop-number.result.items ≡ get_or ws number [] = c.take_all-in-loop-number.ensures.taken [] ∙ c.loop-number.invariant.wallets_left number [] (omega arith) in
    let cells : c.of-cells.result ≡ own_cells terms (get_or ms number []) (get_or ws number []) =
    c.of-cells.ensures
    ∙ (λ i. record { mints = map named_of (c.new.ensures.items i); srm = terms.srm; msrm = terms.msrm; markets = markets i; wallets = wallets i; program = terms.program }) in
    record {
      markets_long = ap length c.take_all.ensures.left ∙ length-set c.loop-number.markets.items number [] ∙ c.loop-number.invariant.markets_long;
      wallets_long = ap length c.take_all-in-loop-number.ensures.left ∙ length-set c.loop-number.wallets.items number [] ∙ c.loop-number.invariant.wallets_long;
      markets_left = λ k d le.
          ap (λ (piles : List (List MarketCellState)). get_or piles k d) c.take_all.ensures.left
          ∙ get_or-set_other c.loop-number.markets.items number k [] d (λ same. omega (arith, same, le))
          ∙ c.loop-number.invariant.markets_left k d (omega (arith, le));
      wallets_left = λ k d le.
          ap (λ (piles : List (List CellState)). get_or piles k d) c.take_all-in-loop-number.ensures.left
          ∙ get_or-set_other c.loop-number.wallets.items number k [] d (λ same. omega (arith, same, le))
          ∙ c.loop-number.invariant.wallets_left k d (omega (arith, le));
      long = ap length c.in_ok-add.ensures ∙ length-append c.loop-number.shares.items _ ∙ ap (λ (n : ℕ). n + 1) c.loop-number.invariant.long;
      each = λ k d within.
          ap (λ (shares : List ShareState). get_or shares k d) c.in_ok-add.ensures
          ∙ each-more told c.loop-number.shares.items _ (λ j e inside. c.loop-number.invariant.each j e (omega (arith, inside, c.loop-number.invariant.long)))
          (ap (share (map row_of c.args.window.now.rows.now) c.args.window.now.numbers.now number) cells ∙ ap told (sym c.loop-number.invariant.long)) k d
          (omega (arith, within, c.loop-number.invariant.long));
    }
