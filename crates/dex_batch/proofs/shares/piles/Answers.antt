use Rattle.std.proofs.Common.{◌≡◌, [], ◌∷◌, ◌++◌, List, ap, sym, subst, ◌∙◌}
use Rattle.std.proofs.lemmas.List.{map-append}
use Rattle.std.proofs.lemmas.List.Elements.{All-push}
use Rattle.dex_replay.proofs.Common.{AreCells, CellState, MarketCellState}
use Rattle.dex_batch.specs.Shares.{ShareState}
use Rattle.dex_batch.proofs.shares.piles.Goals as goal

pub loop-share-preserved : goal.loop-share-preserved
loop-share-preserved g c =
    let yielded : List ShareState = c.loop-share.yielded in
    let share : ShareState = c.in-Some.share in
    let markets : ShareState → List MarketCellState = λ s. s.cells.markets in
    let wallets : ShareState → List CellState = λ s. s.cells.wallets in
    let own_markets : c.of.result ≡ markets share = c.of.ensures ∙ c.into_parts-own_markets.ensures.markets ∙ ap markets c.share.view_is in
    let own_wallets : c.of-in-loop-share.result ≡ wallets share = c.of-in-loop-share.ensures ∙ c.into_parts-own_markets.ensures.wallets ∙ ap wallets c.share.view_is in
    record {
      markets = c.in_ok-add.ensures
          ∙ (λ i. c.loop-share.invariant.markets i ++ own_markets i ∷ []) ∙ sym (map-append markets yielded (share ∷ []));
      wallets = c.in_ok-add-2.ensures
          ∙ (λ i. c.loop-share.invariant.wallets i ++ own_wallets i ∷ []) ∙ sym (map-append wallets yielded (share ∷ []));
      cells = All-push (λ (s : ShareState). AreCells s.cells) yielded share c.loop-share.invariant.cells
          (subst (λ (s : ShareState). AreCells s.cells) c.share.view_is c.into_parts-own_markets.ensures.cells);
    }
