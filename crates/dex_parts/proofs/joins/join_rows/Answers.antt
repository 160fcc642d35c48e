use Rattle.std.proofs.Common.{◌≡◌, List, ◌∷◌, ◌++◌, ℕ, refl, subst}
use Rattle.dex_world.specs.declared.places.RowPlaces.{RowPlaces}
use Rattle.dex_parts.specs.Joins.{Link, all_joined, leg_links, links_of, row_links}
use Rattle.dex_parts.proofs.JoinLaws.{AreLeft, first-within, left-less}
use Rattle.dex_parts.proofs.joins.join_rows.Goals as goal

-- the next row, and what is left behind it
module _ (start labels : List ℕ) (all : List Link) (markets : ℕ) (left others : List RowPlaces) (at : RowPlaces) (is : left ≡ at ∷ others)
    (are : AreLeft start labels all (links_of markets left)) where
  next : AreLeft start labels all (row_links markets at ++ (leg_links at others ++ links_of markets others))
  next = subst (λ (some : List RowPlaces). AreLeft start labels all (links_of markets some)) is are

  behind : (joined : List ℕ) → joined ≡ all_joined labels (row_links markets at) → AreLeft start joined all (leg_links at others ++ links_of markets others)
  behind joined row = left-less start labels all (row_links markets at) (leg_links at others ++ links_of markets others) next joined row

pub rows-init : goal.rows-init
rows-init c = record { joins = refl; within = c.requires.within }

pub join_row-requires : goal.join_row-requires
join_row-requires c =
    let markets = c.args.markets in
    let at = c.in-Some.at.now in
    let others = c.in-Some.others.now in
    let all = links_of markets c.args.places.now in
    record {
      within = first-within c.args.labels.now c.rows.labels all (row_links markets at) (leg_links at others ++ links_of markets others)
          (next c.args.labels.now c.rows.labels all markets c.rows.left.now others at c.in-Some.ensures.cases.0 c.rows.invariant);
    }

pub join_legs-requires : goal.join_legs-requires
join_legs-requires c =
    let markets = c.args.markets in
    let at = c.in-Some.at.now in
    let others = c.in-Some.others.now in
    let all = links_of markets c.args.places.now in
    record {
      within = first-within c.args.labels.now c.join_row.new.labels all (leg_links at others) (links_of markets others)
          (behind c.args.labels.now c.rows.labels all markets c.rows.left.now others at c.in-Some.ensures.cases.0 c.rows.invariant c.join_row.new.labels c.join_row.ensures);
    }

pub rows-preserved : goal.rows-preserved
rows-preserved c =
    let markets = c.args.markets in
    let at = c.in-Some.at.now in
    let others = c.in-Some.others.now in
    let all = links_of markets c.args.places.now in
    left-less c.args.labels.now c.join_row.new.labels all (leg_links at others) (links_of markets others)
    (behind c.args.labels.now c.rows.labels all markets c.rows.left.now others at c.in-Some.ensures.cases.0 c.rows.invariant c.join_row.new.labels c.join_row.ensures)
    c.join_legs.new.labels c.join_legs.ensures
