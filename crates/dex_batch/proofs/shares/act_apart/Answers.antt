use Rattle.std.proofs.Common.{◌≡◌, ◌<◌, ℕ, List, length, map, refl, sym, subst, ap, ◌∙◌, All}
use Rattle.dex_replay.proofs.Common.{CellState, MarketCellState}
use Rattle.dex_types.specs.Rows.{row_of}
use Rattle.dex_batch.specs.Acting.{HaveActed}
use Rattle.dex_batch.specs.Parts.{AreAsLong, AreParts}
use Rattle.dex_batch.proofs.ShareLaws.{AreDealt, all-kept, all-ready, as-long, below, left-acted, left-kept}
use Rattle.dex_batch.proofs.shares.act_apart.Given.{Over}
use Rattle.dex_batch.proofs.shares.act_apart.Goals as goal
use Rattle.dex_batch.proofs.shares.act_apart.Goals.{In_ok-of_wallets}

-- the parts are those of a list, whatever each is called
are-parts : {A : Type 0} {told numbers : List ℕ} {items whole : List A} {piles parts : List (List A)} → told ≡ numbers → items ≡ whole → piles ≡ parts
    → AreParts A told items piles → AreParts A numbers whole parts
are-parts {A} numbers items piles are = subst (λ (all : List ℕ × List A × List (List A)). AreParts A all.0 all.1 all.2) (λ i. (numbers i, items i, piles i)) are

-- the cells are dealt
dealt : (g : Over) (c : In_ok-of_wallets g)
    → AreDealt c.args.cells c.terms-terms.result (map row_of c.args.window.now.rows.now) c.args.window.now.numbers.now c.args.groups.now c.in_ok-of_markets.of_markets.items
    c.in_ok-of_wallets.of_wallets.items
dealt g c = record {
  terms_in = c.terms-terms.ensures;
  kept = c.into_parts-mints.ensures.cells;
  groups = c.requires.groups;
  can = c.requires.can;
  many_markets = c.in_ok-of_markets.ensures.count;
  many_wallets = c.in_ok-of_wallets.ensures.count;
  in_markets = are-parts c.deref.ensures.value c.into_parts-mints.ensures.markets refl c.in_ok-of_markets.ensures.parts;
  in_wallets = are-parts c.deref-2.ensures.value c.into_parts-mints.ensures.wallets refl c.in_ok-of_wallets.ensures.parts;
}

pub shares-requires-clause-cells : goal.shares-requires-clause-cells
shares-requires-clause-cells g c = all-kept (dealt g (goal.at.shares-requires-clause-cells g c).In_ok-of_wallets)

pub all_run-requires-clause-ready : goal.all_run-requires-clause-ready
all_run-requires-clause-ready g c κs within =
    all-ready (dealt g (goal.at.all_run-requires-clause-ready g c).In_ok-of_wallets) c.in_ok-shares.shares.items c.in_ok-shares.ensures

pub gather-requires : goal.gather-requires
gather-requires g c =
    let so = dealt g (goal.at.gather-requires g c).In_ok-of_wallets in
    let shares = c.in_ok-shares.shares.items in
    record {
      within = subst (λ (all : List ℕ × List (List MarketCellState)). All (λ (n : ℕ). n < length all.1) all.0) (λ i. (sym c.deref-3.ensures.value i, sym c.in_ok-of_markets-2.ensures.markets i))
          (below so shares c.in_ok-shares.ensures c.all_run.result.items c.all_run.ensures).0;
      long = subst (λ (all : List ℕ × List (List MarketCellState)). AreAsLong all.0 all.1) (λ i. (sym c.deref-3.ensures.value i, sym c.in_ok-of_markets-2.ensures.markets i))
          (as-long so shares c.in_ok-shares.ensures c.all_run.result.items c.all_run.ensures).0;
    }

pub gather-requires-2 : goal.gather-requires-2
gather-requires-2 g c =
    let so = dealt g (goal.at.gather-requires-2 g c).In_ok-of_wallets in
    let shares = c.in_ok-shares.shares.items in
    record {
      within = subst (λ (all : List ℕ × List (List CellState)). All (λ (n : ℕ). n < length all.1) all.0) (λ i. (sym c.deref-4.ensures.value i, sym c.in_ok-of_markets-2.ensures.wallets i))
          (below so shares c.in_ok-shares.ensures c.all_run.result.items c.all_run.ensures).1;
      long = subst (λ (all : List ℕ × List (List CellState)). AreAsLong all.0 all.1) (λ i. (sym c.deref-4.ensures.value i, sym c.in_ok-of_markets-2.ensures.wallets i))
          (as-long so shares c.in_ok-shares.ensures c.all_run.result.items c.all_run.ensures).1;
    }

pub of-requires : goal.of-requires
of-requires g c =
    let are =
    left-kept (dealt g (goal.at.of-requires g c).In_ok-of_wallets) c.in_ok-shares.shares.items c.in_ok-shares.ensures c.all_run.result.items c.all_run.ensures
    c.in_ok-of_markets-2.ensures.cells c.in_ok-markets.markets.items c.in_ok-wallets.wallets.items
    (are-parts c.deref-3.ensures.value refl c.in_ok-of_markets-2.ensures.markets c.in_ok-markets.ensures)
    (are-parts c.deref-4.ensures.value refl c.in_ok-of_markets-2.ensures.wallets c.in_ok-wallets.ensures) in
    record { cells = record { markets = are.markets; wallets = are.wallets; apart = are.apart } }

pub returns : goal.returns
returns g c =
    let acted =
    left-acted (dealt g (goal.at.returns g c).In_ok-of_wallets) c.in_ok-shares.shares.items c.in_ok-shares.ensures c.all_run.result.items c.all_run.ensures
    c.in_ok-of_markets-2.ensures.cells c.in_ok-markets.markets.items c.in_ok-wallets.wallets.items
    (are-parts c.deref-3.ensures.value refl c.in_ok-of_markets-2.ensures.markets c.in_ok-markets.ensures)
    (are-parts c.deref-4.ensures.value refl c.in_ok-of_markets-2.ensures.wallets c.in_ok-wallets.ensures) in
    let rows = map row_of c.args.window.now.rows.now in
    subst (HaveActed rows rows c.args.cells) (sym (c.of.ensures ∙ ap (λ mints. record { mints = mints; srm = c.terms-terms.result.srm; msrm = c.terms-terms.result.msrm; markets = c.in_ok-markets.markets.items; wallets = c.in_ok-wallets.wallets.items; program = c.terms-terms.result.program }) c.into_parts-mints.ensures.mints)) acted
