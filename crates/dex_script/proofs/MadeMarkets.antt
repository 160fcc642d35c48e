-- What a market row asks for can be made, can trade, and stands for a market as it is made.
use Rattle.std.proofs.Common.{◌≡◌, ◌∙◌, ◌<◌, ◌≤◌, ◌+◌, ◌*◌, ◌-◌, ◌/◌, ◌^◌, [], ◌==◌, ◌||◌, if◌then◌else◌, ℕ, Bool, true, false, List, Option, Some, None, Result, Ok, Err, ap, arith, length, lit<, nat_lt, refl, subst, sym}
use Rattle.std.proofs.lemmas.Bool.{eqb-false}
use Rattle.std.proofs.lemmas.Bool.Decides.{nat_tests}
use Rattle.std.proofs.lemmas.List.{length-set}
use Rattle.std.proofs.lemmas.List.Elements.{All-nil}
use Rattle.std.proofs.lemmas.Option.{cond_some, none-some}
use Rattle.dex_instruction.specs.Numbers.{AreBytes}
use Rattle.dex_types.specs.declared.addresses.Address.{Address}
use Rattle.dex_types.specs.declared.instructions.BadData.{BadData}
use Rattle.dex_types.specs.declared.instructions.Ix.{Ix}
use Rattle.dex_types.specs.declared.instructions.Ix.TheVariants.{InitializeMarket, SettleFunds}
use Rattle.dex_types.specs.declared.terms.Side.{Side}
use Rattle.dex_types.specs.declared.terms.Side.TheVariants.{Bid, Ask}
use Rattle.dex_types.specs.Addresses.{is_same}
use Rattle.dex_types.specs.Market.{Market, capacity, orders}
use Rattle.dex_fields.proofs.EmptyLaw.{IsFramed-empty_account, flags-empty_account}
use Rattle.dex_instruction.specs.Reading.{decoded, instruction, unless_broken}
use Rattle.dex_instruction.specs.Rules.{broken}
use Rattle.dex_instruction.specs.Spelling.{Fits, has_zero, spelling}
use Rattle.dex_instruction.proofs.Unbroken.{decoded-spelling}
use Rattle.dex_instruction.proofs.Whole.{spelling-instruction}
use Rattle.dex_orders.specs.StandsFor.{IsOnMarket}
use Rattle.dex_ring.specs.Blank as queue
use Rattle.dex_ring.specs.StandsFor.{StandsForEvents}
use Rattle.dex_ring.proofs.BlankLaw.{IsEventQueue-blank_queue, ring_of-blank_queue}
use Rattle.dex_slab.specs.Blank as slab
use Rattle.dex_slab.specs.Nodes.{nodes_within, room_of}
use Rattle.dex_slab.specs.StandsFor.{StandsForSide}
use Rattle.dex_slab.proofs.BlankLaw.{IsSlab-blank_side, resting-blank_side, room_in-blank_side, side_flags-fit}
use Rattle.dex_sound.specs.Made.{made_market}
use Rattle.dex_token.specs.StandsFor.{StandsForVault, vault_words}
use Rattle.dex_types.specs.Side.{Token, Coin, Pc}
use Rattle.dex_make.specs.declared.market.MarketSet.{MarketSet}
use Rattle.dex_make.specs.declared.parts.MarketPart.TheVariants.{VaultOwner}
use Rattle.dex_make.specs.Derived.{derived}
use Rattle.dex_make.specs.MarketBytes.{HasAddresses, made_accounts}
use Rattle.dex_make.specs.MarketSet.{CanTrade, IsInitialize, IsMarketSet, initial_terms, listing_of}
use Rattle.dex_make.specs.TokenBytes.{wallet_bytes}
use Rattle.dex_make.proofs.MarketLaws.{FitWords, StandsForMarket-made}
use Rattle.dex_make.proofs.RequestLaws.{IsRequestQueue-made, next_sequence-made}
use Rattle.dex_make.proofs.TokenLaws.{IsWallet-made, wallet_words-made}
use Rattle.dex_accounts.specs.StandsFor.{StandsFor}
use Rattle.dex_statement.specs.declared.faults.FaultKind.{FaultKind}
use Rattle.dex_statement.specs.declared.faults.FaultKind.TheVariants.{SetupRefused}
use Rattle.dex_statement.specs.declared.faults.SetupCode.TheVariants as code
use Rattle.dex_statement.specs.Faults.{◌>>=◌, found_or, unless}
use Rattle.dex_statement.specs.Stated.{PlainMarketWords}
use Rattle.dex_script.specs.Rows.{exceeds_market, has_no_room, market_ix, market_set, set_of}
use Rattle.dex_script.proofs.FaultLaws.{bind-ok, found-ok, no-error, ok-same, or-none, unless-ok}
use Rattle.dex_script.proofs.StatedLaws.{IsMarketStated}

-- ---- the instruction of a market

read-ok : (found : Option BadData) (whole ix : Ix) → unless_broken found whole ≡ Ok ix → (found ≡ None) × (whole ≡ ix)
read-ok None whole ix is = (refl, ok-same {E = BadData} whole ix is)
read-ok (Some fault) whole ix is = absurd (no-error fault ix is)

no-zero : (zero_there : Bool) (fault : BadData) (ix : Ix) → (if zero_there then Err fault else Ok ix) ≡ Ok ix → zero_there ≡ false
no-zero true fault ix is = absurd (no-error fault ix is)
no-zero false fault ix is = refl

-- what is read of bytes fits its words, and no field is 0 that must not be
read-fits : (bytes : List ℕ) (ix : Ix) → AreBytes bytes → decoded bytes ≡ Ok ix → Fits ix × (has_zero ix ≡ false)
unfolding decoded
read-fits bytes ix are is =
    let read = read-ok (broken bytes) (instruction bytes) ix is in
    let theirs = spelling-instruction bytes are read.0 in
    let fits : Fits ix = subst Fits read.1 theirs.1 in
    let same : spelling ix ≡ bytes = subst (λ (x : Ix). spelling x ≡ bytes) read.1 theirs.0 in
    (fits, no-zero (has_zero ix) _ ix (sym (decoded-spelling ix fits) ∙ ap decoded same ∙ is))

asked : (r : Result Ix BadData) (ix : Ix) → market_ix r ≡ Some ix → (r ≡ Ok ix) × IsInitialize ix
asked (Err fault) ix is = absurd (none-some ix is)
asked (Ok (InitializeMarket coin_lot pc_lot fee_rate_bps nonce dust)) ix is =
    let read = InitializeMarket coin_lot pc_lot fee_rate_bps nonce dust in
    let a = cond_some (nat_lt fee_rate_bps 100) read ix is in
    (ap (λ (x : Ix). Ok x) a.1, subst IsInitialize a.1 tt)
asked (Ok SettleFunds) ix is = absurd (none-some ix is)
asked (Ok other) ix is = absurd (none-some ix is)

-- what it says: lots of each token, and numbers that fit
pub record IsAsked (ix : Ix) : Type 0 where
  pub coin_lot : 1 ≤ (initial_terms ix).coin_lot
  pub pc_lot : 1 ≤ (initial_terms ix).pc_lot
  pub fits : FitWords (initial_terms ix)

says : (ix : Ix) → IsInitialize ix → Fits ix → has_zero ix ≡ false → IsAsked ix
says (InitializeMarket coin_lot pc_lot fee_rate_bps nonce dust) is fits none =
    let a = or-none ((coin_lot == 0) || (pc_lot == 0)) (dust == 0) none in
    let b = or-none (coin_lot == 0) (pc_lot == 0) a.0 in
    let fee : fee_rate_bps < 2 ^ 16 = fits.0.1.1.0 in
    record {
      coin_lot = omega (arith, eqb-false coin_lot 0 b.0);
      pc_lot = omega (arith, eqb-false pc_lot 0 b.1);
      fits = record {
        nonce = fits.0.1.1.1.0;
        dust = fits.0.1.1.1.1.0;
        coin_lot = fits.0.0;
        pc_lot = fits.0.1.0;
        fee_rate_bps = omega (arith, fee);
      };
    }
says SettleFunds is fits none = absurd is
says other is fits none = absurd is

-- ---- what a row asks for

-- a market can be made of it, with two mints, lot sizes, addresses of 32 bytes and numbers that fit
pub record IsSet (words : PlainMarketWords) (set : MarketSet) : Type 0 where
  pub ix : Ix
  pub is : market_set words ix ≡ set
  pub made : IsMarketSet (market_set words ix)
  pub mints : is_same words.coin words.pc ≡ false
  pub wide : HasAddresses (market_set words ix)
  pub told : IsAsked ix

module _ (words : PlainMarketWords) (stated : IsMarketStated words) (within : exceeds_market words ≡ false) where
  set-made : (ix : Ix) → IsInitialize ix → has_no_room words ≡ false → IsMarketSet (market_set words ix)
  set-made ix is room = record {
    instruction = is;
    some_bids = grind (arith, nat_tests);
    few_bids = grind (arith, nat_tests);
    some_asks = grind (arith, nat_tests);
    few_asks = grind (arith, nat_tests);
    some_events = grind (arith, nat_tests);
    few_events = grind (arith, nat_tests);
    last_byte = stated.last_byte;
  }

  pub set-is : (set : MarketSet) → set_of words ≡ Ok set → IsSet words set
  unfolding set_of
  set-is set is =
      let last : Ix → Result MarketSet FaultKind = λ ix. unless (has_no_room words) (SetupRefused code.Capacity) (Ok (market_set words ix)) in
      let found = market_ix (decoded words.bytes) in
      let a = unless-ok (is_same words.coin words.pc) (SetupRefused code.OneMint) (found_or found (SetupRefused code.Data) >>= last) set is in
      let b = bind-ok (found_or found (SetupRefused code.Data)) last set a.1 in
      let c = unless-ok (has_no_room words) (SetupRefused code.Capacity) (Ok (market_set words b.0)) set b.2 in
      let read = asked (decoded words.bytes) b.0 (found-ok found (SetupRefused code.Data) b.0 b.1) in
      let fit = read-fits words.bytes b.0 stated.bytes read.0 in
      record {
        ix = b.0;
        is = ok-same {E = FaultKind} (market_set words b.0) set c.1;
        made = set-made b.0 read.1 c.0;
        mints = a.0;
        wide = record { address = stated.address; coin = stated.coin; pc = stated.pc };
        told = says b.0 read.1 fit.0 fit.1;
      }

-- ---- its accounts as they are made

queue-size : (events : ℕ) → 1 ≤ events → events ≤ 65535 → queue.IsMadeSize (queue.made_size events)
queue-size events some few = record {
  least = omega arith;
  most = omega arith;
  whole = ap queue.made_size (queue-room events);
}
  where
    queue-room : (events : ℕ) → (44 + 88 * events - 44) / 88 ≡ events
    queue-room events = omega arith

side-size : (nodes : ℕ) → 1 ≤ nodes → nodes ≤ 65536 → slab.IsMadeSize (slab.made_size nodes) × (nodes_within (slab.made_size nodes) ≡ nodes)
side-size nodes some few =
    let room : nodes_within (slab.made_size nodes) ≡ nodes = omega arith in
    (record { least = omega arith; most = omega arith; whole = ap slab.made_size room }, room)

vault-made : (token : Token) (market : Market) (mint owner : Address) → length mint.0 ≡ 32 → length owner.0 ≡ 32
    → vault_words token market ≡ record { mint = mint; owner = owner; amount = 0 } → StandsForVault (wallet_bytes mint owner 0) token market
vault-made token market mint owner m o is =
    record { accepted = IsWallet-made mint owner 0; words = wallet_words-made mint owner 0 m o (lit< tt) ∙ sym is }

side-made : (side : Side) (nodes : ℕ) (market : Market) → 1 ≤ nodes → nodes ≤ 65536 → orders side market ≡ [] → capacity side market ≡ room_of nodes
    → StandsForSide (slab.blank_side side (slab.made_size nodes)) side market
side-made side nodes market some few none room =
    let size = slab.made_size nodes in
    let sized = side-size nodes some few in
    let long : 20 ≤ size = omega arith in
    record {
      accepted = record {
        slab = IsSlab-blank_side side size sized.0;
        framed = IsFramed-empty_account size (slab.side_flags side) long;
        flags = flags-empty_account size (slab.side_flags side) long (side_flags-fit side);
      };
      orders = resting-blank_side side size sized.0 ∙ sym none;
      room = room_in-blank_side side size sized.0 ∙ ap room_of sized.1 ∙ sym room;
    }

queue-made : (events : ℕ) (market : Market) → 1 ≤ events → events ≤ 65535 → market.events ≡ [] → market.listing.event_capacity ≡ events
    → market.events_appended ≡ 0 → StandsForEvents (queue.blank_queue (queue.made_size events)) market
queue-made events market some few none room counted =
    let size = queue.made_size events in
    let sized = queue-size events some few in
    let whole : (size - 44) / 88 ≡ events = omega arith in
    record {
      accepted = IsEventQueue-blank_queue size sized;
      ring = ring_of-blank_queue size sized ∙ rw (whole, none, room, counted) refl;
    }

pub stands-made : (set : MarketSet) → IsMarketSet set → CanTrade set → HasAddresses set → FitWords (initial_terms set.ix)
    → StandsFor (made_accounts set) (made_market (listing_of set) [])
stands-made set is trade wide fits =
    let market = made_market (listing_of set) [] in
    let owner = derived set.address VaultOwner in
    let owner_size : length owner.0 ≡ 32 = length-set set.address.0 31 7 ∙ wide.address in
    record {
      address = refl;
      authority = refl;
      terms = StandsForMarket-made set wide fits is.last_byte trade;
      coin_vault = vault-made Coin market set.coin owner wide.coin owner_size refl;
      pc_vault = vault-made Pc market set.pc owner wide.pc owner_size refl;
      requests = record { accepted = IsRequestQueue-made; next = next_sequence-made };
      events = queue-made set.events market is.some_events is.few_events refl refl refl;
      bids = side-made Bid set.bid_nodes market is.some_bids is.few_bids refl refl;
      asks = side-made Ask set.ask_nodes market is.some_asks is.few_asks refl refl;
      traders = record { each = All-nil (IsOnMarket set.address); stand = refl };
    }
