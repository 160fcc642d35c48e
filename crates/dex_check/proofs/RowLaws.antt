-- Instructions that are rows of a replay are answered as the rows.
use Rattle.std.proofs.Common.{◌≡◌, ◌∙◌, List, [], ◌∷◌, ◌++◌, map, Option, Some, sym, ap, inl, inr, append_assoc, append-nil}
use Rattle.std.proofs.lemmas.Bool.{cases_Bool, cond-false, cond-true}
use Rattle.std.proofs.lemmas.List.{map-append}
use Rattle.dex_types.specs.declared.addresses.Address.{Address}
use Rattle.dex_types.specs.declared.movements.Entry.{Entry}
use Rattle.dex_types.specs.declared.replies.Reply.{Reply}
use Rattle.dex_types.specs.declared.rows.Seen.{Seen}
use Rattle.dex_types.specs.Addresses.{is_same}
use Rattle.dex_types.specs.Market.{Listing, Market}
use Rattle.dex_types.specs.Rows.{PlainRow}
use Rattle.dex_types.specs.Steps.{Step}
use Rattle.dex_sound.proofs.KeepLaws.{step-keeps}
use Rattle.dex_history.specs.Journal.{Asked, asked_of, asked_step, request_of, row_step}
use Rattle.dex_movements.specs.Entries.{entry_by}
use Rattle.dex_process.specs.Histories.{AreProcessed, IsProcessed, Processed, left_by}
use Rattle.dex_world.specs.Fold.{act, acted, fold, market_acted, markets_acted}
use Rattle.dex_world.specs.World.{MarketState, World, market_at, seen_by}
use Rattle.dex_check.specs.Rows.{AreOfRows, IsOfRow, replies_at}

some-same : {X : Type 0} (x y : X) → Some x ≡ Some y → x ≡ y
some-same x y is = cc

-- ---- the market of a row's address after it

module _ (row : PlainRow) (seen : Seen) (m : Market) where
  stays : (state : MarketState) → is_same row.market (market_acted row seen state).market.listing.address ≡ is_same row.market state.market.listing.address
  stays state = ap (λ (l : Listing). is_same row.market l.address) (step-keeps (request_of row) seen state.market).listing

  abbrev told : Entry → Reply
  told entry = entry.reply

  market-here : (states : List MarketState) → market_at row.market states ≡ Some m
      → market_at row.market (markets_acted row seen states) ≡ Some (row_step row seen m).market
  market-here [] found = absurd cc
  market-here (state ∷ states) found = elim (cases_Bool (is_same row.market state.market.listing.address)) [
    | inl same ↦
        let is : state.market ≡ m = some-same state.market m (sym (cond-true _ (Some state.market) (market_at row.market states) same) ∙ found) in
        ap (market_at row.market) (cond-true _ (market_acted row seen state ∷ states) (state ∷ markets_acted row seen states) same)
        ∙ cond-true _ (Some (market_acted row seen state).market) (market_at row.market states) (stays state ∙ same)
        ∙ ap (λ (m : Market). Some (row_step row seen m).market) is
    | inr apart ↦
        ap (market_at row.market) (cond-false _ (market_acted row seen state ∷ states) (state ∷ markets_acted row seen states) apart)
        ∙ cond-false _ (Some state.market) (market_at row.market (markets_acted row seen states)) apart
        ∙ market-here states (sym (cond-false _ (Some state.market) (market_at row.market states) apart) ∙ found)
  ]

  replies-here : (states : List MarketState) → market_at row.market states ≡ Some m
      → replies_at row.market (markets_acted row seen states) ≡ replies_at row.market states ++ (row_step row seen m).reply ∷ []
  replies-here [] found = absurd cc
  replies-here (state ∷ states) found = elim (cases_Bool (is_same row.market state.market.listing.address)) [
    | inl same ↦
        let is : state.market ≡ m = some-same state.market m (sym (cond-true _ (Some state.market) (market_at row.market states) same) ∙ found) in
        let s : Step = row_step row seen state.market in
        ap (replies_at row.market) (cond-true _ (market_acted row seen state ∷ states) (state ∷ markets_acted row seen states) same)
        ∙ cond-true _ (map told (market_acted row seen state).entries) (replies_at row.market states) (stays state ∙ same)
        ∙ map-append told state.entries (entry_by row seen s.reply s.transfers ∷ [])
        ∙ ap (λ (m : Market). map told state.entries ++ (row_step row seen m).reply ∷ []) is
        ∙ ap (λ (l : List Reply). l ++ (row_step row seen m).reply ∷ []) (sym (cond-true _ (map told state.entries) (replies_at row.market states) same))
    | inr apart ↦
        ap (replies_at row.market) (cond-false _ (market_acted row seen state ∷ states) (state ∷ markets_acted row seen states) apart)
        ∙ cond-false _ (map told state.entries) (replies_at row.market (markets_acted row seen states)) apart
        ∙ replies-here states (sym (cond-false _ (Some state.market) (market_at row.market states) apart) ∙ found)
        ∙ ap (λ (l : List Reply). l ++ (row_step row seen m).reply ∷ []) (sym (cond-false _ (map told state.entries) (replies_at row.market states) apart))
  ]

-- ---- one row, and all of them

module _ (m : Market) (world : World) (row : PlainRow) (one : Processed) (is : IsProcessed one m) (of : IsOfRow one row world)
    (found : market_at m.listing.address world.markets ≡ Some m) where
  abbrev s : Step
  s = row_step row (seen_by row world) m

  address-is : row.market ≡ m.listing.address
  address-is = sym (ap (λ (a : Asked). a.market) of.asked) ∙ is.market

  step-is : asked_step one.asked one.seen m ≡ s
  step-is = ap (λ (a : Asked). asked_step a one.seen m) of.asked ∙ ap (λ (seen : Seen). asked_step (asked_of row) seen m) of.seen

  left-is : one.left ≡ s.market
  left-is = is.left ∙ ap (λ (s : Step). s.market) step-is

  found-row : market_at row.market world.markets ≡ Some m
  found-row = ap (λ (a : Address). market_at a world.markets) address-is ∙ found

  markets-are : (act row world).markets ≡ markets_acted row (seen_by row world) world.markets
  markets-are = ap (λ (o : Option Market). (acted row o world).markets) found-row

  address-left : one.left.listing.address ≡ m.listing.address
  address-left = ap (λ (n : Market). n.listing.address) left-is ∙ ap (λ (l : Listing). l.address) (step-keeps (request_of row) (seen_by row world) m).listing

  -- its market then
  after-market : market_at one.left.listing.address (act row world).markets ≡ Some one.left
  after-market =
      ap (λ (a : Address). market_at a (act row world).markets) (address-left ∙ sym address-is)
      ∙ ap (market_at row.market) markets-are
      ∙ market-here row (seen_by row world) m world.markets found-row
      ∙ ap (λ (n : Market). Some n) (sym left-is)

  -- and the replies
  after-replies : replies_at m.listing.address (act row world).markets ≡ replies_at m.listing.address world.markets ++ one.reply ∷ []
  after-replies =
      ap (λ (a : Address). replies_at a (act row world).markets) (sym address-is)
      ∙ ap (replies_at row.market) markets-are
      ∙ replies-here row (seen_by row world) m world.markets found-row
      ∙ ap (λ (a : Address). replies_at a world.markets ++ s.reply ∷ []) address-is
      ∙ ap (λ (r : Reply). replies_at m.listing.address world.markets ++ r ∷ []) (sym (is.reply ∙ ap (λ (s : Step). s.reply) step-is))

pub rows-market : (m : Market) (world : World) (rows : List PlainRow) (all : List Processed) → market_at m.listing.address world.markets ≡ Some m
    → AreProcessed m all → AreOfRows world rows all → market_at m.listing.address (fold rows world).markets ≡ Some (left_by m all)
rows-market m world [] [] found are of = found
rows-market m world [] (one ∷ others) found are of = absurd of
rows-market m world (row ∷ rows) [] found are of = absurd of
rows-market m world (row ∷ rows) (one ∷ others) found are of =
    let then = rows-market one.left (act row world) rows others (after-market m world row one are.0 of.0 found) are.1 of.1 in
    ap (λ (a : Address). market_at a (fold rows (act row world)).markets) (sym (address-left m world row one are.0 of.0 found)) ∙ then

pub rows-replies : (m : Market) (world : World) (rows : List PlainRow) (all : List Processed) → market_at m.listing.address world.markets ≡ Some m
    → AreProcessed m all → AreOfRows world rows all
    → replies_at m.listing.address (fold rows world).markets ≡ replies_at m.listing.address world.markets ++ map (λ (one : Processed). one.reply) all
rows-replies m world [] [] found are of = sym (append-nil (replies_at m.listing.address world.markets))
rows-replies m world [] (one ∷ others) found are of = absurd of
rows-replies m world (row ∷ rows) [] found are of = absurd of
rows-replies m world (row ∷ rows) (one ∷ others) found are of =
    let same = sym (address-left m world row one are.0 of.0 found) in
    let then = rows-replies one.left (act row world) rows others (after-market m world row one are.0 of.0 found) are.1 of.1 in
    let later = map (λ (one : Processed). one.reply) others in
    ap (λ (a : Address). replies_at a (fold rows (act row world)).markets) same ∙ then
    ∙ ap (λ (a : Address). replies_at a (act row world).markets ++ later) (sym same)
    ∙ ap (λ (l : List Reply). l ++ later) (after-replies m world row one are.0 of.0 found)
    ∙ append_assoc (replies_at m.listing.address world.markets) (one.reply ∷ []) later
