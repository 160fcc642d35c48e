-- The names that many proofs of this crate and of those above it cite, passed on from one place. Declares nothing.
pub use Rattle.dex_world.proofs.FarLaws.{why-far}
pub use Rattle.dex_world.proofs.GroupLaws.{EachTwo, Goes, Rise, grouped-firsts, grouped-flat, grouped-rise}
pub use Rattle.dex_world.proofs.ItemLaws.{idle-step}
pub use Rattle.dex_world.proofs.NameLaws.{names-roles}
pub use Rattle.dex_world.proofs.OnceLaws.{asked-once}
pub use Rattle.dex_world.specs.Fold.{act, acted, fold, is_role, market_acted, markets_acted, names, wallet_acted, wallet_moved}
pub use Rattle.dex_world.specs.Groups.{Group, alone, grouped, members}
pub use Rattle.dex_world.specs.Items.{EachApart, ShareNothing, act_item, chosen, fold_items, idle_row, items_of_lane, nothing_to_do, rows_of_lane, why_in, why_on}
pub use Rattle.dex_world.specs.World.{MarketState, WalletState, World, role_at, seen_by, wallet_at}
pub use Rattle.dex_history.proofs.HistoryLaws.{IsWalletLegal-append, balance_after-append, market_after-one}
pub use Rattle.dex_history.proofs.RefusalLaws.{step-refused}
pub use Rattle.dex_history.proofs.WalletLaws.{places-movements, wallet-movement_by}
pub use Rattle.dex_history.specs.Journal.{Agree, Asked, Call, IsLegal, Sees, Stands, acted_of, asked_of, asked_wallets, is_done, is_held, is_refusal, is_refused, is_take, market_after, request_of, row_step, step_of, wallet_entry_of}
pub use Rattle.dex_instruction.specs.Reading.{decoded}
pub use Rattle.dex_laws.proofs.TraderLaws.{is_same-refl, is_same-sym, is_same-true}
pub use Rattle.dex_movements.proofs.PlaceLaws.{seen-wallets}
pub use Rattle.dex_movements.specs.Entries.{entry_by, wallet_entry_by}
pub use Rattle.dex_sound.proofs.KeepLaws.{step-keeps}
pub use Rattle.dex_types.specs.Accounts.{PlainAccount, PlainAccounts, PlainMarketAccounts, accounts_of, market_accounts_of, named_of}
pub use Rattle.dex_types.specs.Addresses.{is_same}
pub use Rattle.dex_types.specs.Market.{Listing, Market}
pub use Rattle.dex_types.specs.Rows.{PlainRow, row_of}
pub use Rattle.dex_types.specs.Soundness.{IsSound}
pub use Rattle.dex_types.specs.Steps.{Step, done}
pub use Rattle.dex_types.specs.Totals.{total}
pub use Rattle.dex_types.specs.Transfers.{Transfers}
pub use Rattle.dex_types.specs.WalletJournal.{CanMove, IsWalletLegal, balance_after, moved_balance}
pub use Rattle.dex_types.specs.Wallets.{address_seen, balance_in, balance_seen, brought_to, movement_by, movement_of, row_wallets, seen_wallets, taken_from}
pub use Rattle.dex_types.specs.Why.{why}
pub use Rattle.dex_types.specs.declared.addresses.Address.{Address}
pub use Rattle.dex_types.specs.declared.instructions.BadData.{BadData}
pub use Rattle.dex_types.specs.declared.instructions.Ix.{Ix}
pub use Rattle.dex_types.specs.declared.movements.Entry.{Entry}
pub use Rattle.dex_types.specs.declared.movements.Movement.{Movement}
pub use Rattle.dex_types.specs.declared.movements.WalletEntry.{WalletEntry}
pub use Rattle.dex_types.specs.declared.refusals.Refusal.{Refusal}
pub use Rattle.dex_types.specs.declared.replies.Reply.{Reply}
pub use Rattle.dex_types.specs.declared.rows.Row.{Row}
pub use Rattle.dex_types.specs.declared.rows.Seen.{Seen}
pub use Rattle.dex_types.specs.declared.rows.WalletSeen.{WalletSeen}
pub use Rattle.std.proofs.Math.Nat.{le-max_left}
pub use Rattle.std.proofs.lemmas.Bool.{cases_Bool, cond-false, cond-true, cond_both, eq-eqb, eqb-false, eqb-true, false_from_ne_true, false≢true, lt-ltb, ltb-false, ne_eqb, or_left, or_parts, or_right}
pub use Rattle.std.proofs.lemmas.Iterator.Adapters.{YieldsList-from_vec}
pub use Rattle.std.proofs.lemmas.Iterator.Consumers.{YieldsList-turn}
pub use Rattle.std.proofs.lemmas.List.{get_or-map, length-map, map-id, map_push, take_all, take_at, take_more, with_items_is}
pub use Rattle.std.proofs.lemmas.List.Concat.{flat_map-append}
pub use Rattle.std.proofs.lemmas.List.Elements.{All-append, All-cons, All-filter, All-head, All-map, All-nil, All-push, All-tail, All-weaker, Contains-append_left, filter-append, filter_passes}
pub use Rattle.std.proofs.lemmas.List.Folds.{flat_map-map, list_any_at}
pub use Rattle.std.proofs.lemmas.List.FromFn.{length-range_with_len}
pub use Rattle.std.proofs.lemmas.List.Kept.{AllPairs-filter}
pub use Rattle.std.proofs.lemmas.List.Sums.{sum_by-append, sum_by-cons}
pub use Rattle.std.proofs.lemmas.Slice.Zip.{AllZip-long}
pub use Rattle.std.specs.List.{AllPairs, AllZip, Contains, filter, flat_map, list_any, range_with_len}
