use Rattle.std.proofs.Common.{rules}
use Rattle.std.proofs.lemmas.List.Sorted.{IsPartitionPoint-from_clause}
use Rattle.dex_book.proofs.PlaceLaws.{is_before, IsPartitionedBy-sorted, place_of-point}
use Rattle.dex_book.proofs.places.place_in_book.Goals as goal

pub returns-clause-place : goal.returns-clause-place
returns-clause-place c =
    let parted = IsPartitionedBy-sorted c.args.side c.args.id c.args.orders.now c.requires in
    place_of-point c.args.side c.args.id c.args.orders.now c.partition_point.result c.partition_point.ensures.bound
    (IsPartitionPoint-from_clause (is_before c.args.side c.args.id) _ _ c.partition_point.ensures.partitioned parted (λ a r q k. search rules))
