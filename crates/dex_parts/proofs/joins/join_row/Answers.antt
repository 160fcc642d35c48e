use Rattle.std.proofs.Common.{◌≡◌, List, ◌∷◌, ◌++◌, ℕ, refl, subst}
use Rattle.dex_parts.specs.Joins.{Link, place_links, row_links, wallet_links}
use Rattle.dex_parts.proofs.JoinLaws.{AreLeft, first-within, left-less}
use Rattle.dex_parts.proofs.joins.join_row.Goals as goal

-- the next wallet, and those behind it
next : (labels now : List ℕ) (all : List Link) (markets market place : ℕ) (left others : List ℕ) → left ≡ place ∷ others
    → AreLeft labels now all (wallet_links markets market left) → AreLeft labels now all (place_links markets market place ++ wallet_links markets market others)
next labels now all markets market place left others is are = subst (λ (some : List ℕ). AreLeft labels now all (wallet_links markets market some)) is are

pub wallets-init : goal.wallets-init
wallets-init c = record { joins = refl; within = c.requires.within }

pub join_wallet-requires : goal.join_wallet-requires
join_wallet-requires c =
    let markets = c.args.markets in
    let at = c.args.at.now in
    let place = c.in-Some.place.now in
    let others = c.in-Some.others.now in
    record {
      within = first-within c.args.labels.now c.wallets.labels (row_links markets at) (place_links markets at.market place) (wallet_links markets at.market others)
          (next c.args.labels.now c.wallets.labels (row_links markets at) markets at.market place c.wallets.left.now others c.in-Some.ensures.cases.0 c.wallets.invariant);
    }

pub wallets-preserved : goal.wallets-preserved
wallets-preserved c =
    let markets = c.args.markets in
    let at = c.args.at.now in
    let place = c.in-Some.place.now in
    let others = c.in-Some.others.now in
    left-less c.args.labels.now c.wallets.labels (row_links markets at) (place_links markets at.market place) (wallet_links markets at.market others)
    (next c.args.labels.now c.wallets.labels (row_links markets at) markets at.market place c.wallets.left.now others c.in-Some.ensures.cases.0 c.wallets.invariant)
    c.join_wallet.new.labels c.join_wallet.ensures
