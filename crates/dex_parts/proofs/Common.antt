-- The names that many proofs of this crate cite, passed on from one place. Declares nothing.
pub use Rattle.dex_cell.specs.CellState.{AreOfOneMarket}
pub use Rattle.dex_replay.proofs.Common.{AreAccepted, AreRows, PlainMarketJournal, PlainOutcome, PlainScript, PlainWalletJournal, StandsFor, WalletWords, address_of, balance_of, wallet_words, wallet_words-with_amount, with_amount}
pub use Rattle.dex_script_types.specs.Facts.{HasNoThree}
pub use Rattle.dex_types.specs.declared.limits.Limits.{Limits}
pub use Rattle.dex_types.specs.declared.terms.Program.{Program}
pub use Rattle.dex_world.specs.Items.{Item, held_in, is_any_refused, items_of}
pub use Rattle.dex_world.specs.World.{market_at}
pub use Rattle.dex_world.specs.declared.places.RowPlaces.{RowPlaces}
pub use Rattle.std.specs.List.{All}
pub use Rattle.dex_replay.specs.Replays.{IsLeftBy, IsLeftIn, IsReplayOf, market_state, start_world, wallet_state, with_amounts, world_after}
pub use Rattle.dex_script_types.specs.Places.{AreBeside, ArePlaced, IsBeside, IsPlaced, market_place, wallet_place}
pub use Rattle.dex_world.proofs.MappedLists.{All-behind, All-front, All-second, All-unmap, filter-of, head-same, item_at, list_any-agree, list_any-map, map-agree, map-map, tail-same, zip-map}
pub use Rattle.dex_world.specs.Places.{ArePlacesOf}
pub use Rattle.std.proofs.lemmas.Bool.{both_ways, cases_eq, le-ltb, ltb-true, or_cases}
pub use Rattle.std.proofs.lemmas.List.{append-nil, drop-map, get_or-append-add, get_or-drop, get_or-take, get_or_append_left, get_or_default, length-append, length-drop, length-take-le, nil_from_length, take-map}
