-- Facts of lists that are made of others, passed on. Declares nothing.
pub use Rattle.dex_world.proofs.MappedLists.{All-across, All-behind, All-front, All-second, All-unmap, AllZip-maps, Any-across, Any-map, any-here, any-there, both-same, filter-across, filter-of, filter-push_no, filter-push_yes, filter-swap, flat_map-agree, head-same, length-filter_map, list_any-agree, list_any-map, map-agree, map-map, tail-same, three-weaker, zip-map}
