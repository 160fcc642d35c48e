-- The names that many proofs of this crate and of those above it cite, passed on from one place. Declares nothing.
pub use Rattle.dex_world.proofs.MappedLists.{All-unmap, any-there, filter-of, filter-push_no, filter-push_yes, flat_map-agree, head-same, map-agree, map-map, tail-same}
pub use Rattle.dex_journals.proofs.StampedLists.{items_of-stamped}
pub use Rattle.dex_journals.specs.Journals.{BankMarketState, BankWalletState, IsBankMarket, IsBankWallet, MarketOrigin, WalletOrigin, market_calls, wallet_entries}
pub use Rattle.dex_journals.specs.Lanes.{AreAllOrNone, IsAsOthers, IsBefore, IsLane, IsLaneDone, Lane, number_in}
pub use Rattle.dex_journals.specs.StampedCalls.{calls_on, entries_in, entries_on, entry_made}
pub use Rattle.dex_serializable.specs.Merged.{AreMerged, Histories, IsMarketMerged, IsWalletMerged}
pub use Rattle.dex_replay.proofs.Ends.{is-left}
pub use Rattle.dex_replay.proofs.Groups.{each-two, each-two-weaker, filter-all, filter-none}
pub use Rattle.dex_replay.proofs.LastAccounts.{listing-in, market_after-listing}
pub use Rattle.dex_replay.proofs.Starts.{AreOfScript, start_account}
pub use Rattle.dex_script_types.proofs.Apart.{market-once, wallet-once}
pub use Rattle.dex_stamps.specs.Stamped.{Stamped}
