-- Each setup row keeps what is declared, and that the addresses of all are taken once.
use Rattle.std.proofs.Common.{◌≡◌, ◌<◌, ◌^◌, ◌∷◌, [], ℕ, List, true, IfSome, Option, Some, None, ap, arith, inl, length-append, refl, subst, sym}
use Rattle.std.specs.List.{All}
use Rattle.std.proofs.lemmas.List.Elements.{All-push}
use Rattle.dex_types.specs.declared.addresses.Address.{Address}
use Rattle.dex_types.specs.declared.limits.Limits.{Limits}
use Rattle.dex_types.specs.Accounts.{PlainAccount, PlainAccounts}
use Rattle.dex_market.specs.MarketAccount.{MarketWords, market_words}
use Rattle.dex_token.specs.MintAccount.{IsMint}
use Rattle.dex_token.specs.TokenAccount.{WalletWords, wallet_words}
use Rattle.dex_make.specs.declared.market.MarketSet.{MarketSet}
use Rattle.dex_make.specs.Blanks.{blank_account}
use Rattle.dex_make.specs.MarketBytes.{made_accounts}
use Rattle.dex_make.specs.MarketSet.{CanTrade}
use Rattle.dex_make.specs.TokenBytes.{mint_bytes, wallet_bytes}
use Rattle.dex_make.proofs.MadeLaws.{IsBlank-blank_orders}
use Rattle.dex_make.proofs.TokenLaws.{IsMint-made, IsWallet-made, wallet_words-made}
use Rattle.dex_state.specs.Accepted.{AreAccepted, AreApart as NamesApart, IsMintOf}
use Rattle.dex_state.specs.Addresses.{times}
use Rattle.dex_dump.proofs.SoFarLaws.{orders-each, with-account, with-market, with-mints, with-names, with-wallet}
use Rattle.dex_dump.proofs.TakenLaws.{AreFree, market-adds, mint-adds, orders-add, parts, wallet-adds}
use Rattle.dex_statement.specs.Stated.{PlainMarketWords}
use Rattle.dex_script_types.specs.Known.{has_account}
use Rattle.dex_script.specs.Drafts.{PlainDraft}
use Rattle.dex_script.specs.Known.{made_addresses}
use Rattle.dex_script.specs.Rows.{market_set, with_start}
use Rattle.dex_script.proofs.MadeMarkets.{IsSet, set-is, stands-made}
use Rattle.dex_script.proofs.MintLaws.{addresses-raised, length-with_supply, mints-raised}
use Rattle.dex_script.proofs.RowParts.{Declares, IsMarketRow, IsMintRow, IsName, IsOrdersRow, IsWalletRow, more_markets, more_mints, more_orders, more_wallets}
use Rattle.dex_script.proofs.StartAddresses.{AreTaken, are-free, made-apart, made-within, new-is-other, part-free, taken-more, taken-once}
use Rattle.dex_script.proofs.StartMints.{Grows, HasDecimals, declared-there, decimals_of, grows-push, grows-raised, has-decimals, mint_says, names-apart}
use Rattle.dex_script.proofs.StartOrders.{has-room, made-grown}
use Rattle.dex_script.proofs.StartSupplies.{IsBacked, mint-backed, none-held, wallet-backed}
use Rattle.dex_script.proofs.Started.{IsMade, blank-names, made-accepted}
use Rattle.dex_script.proofs.StatedLaws.{IsMarketStated, IsWalletStated}

-- what setup rows declare: accounts that are accepted, markets as they are made, and names of mints with their decimals;
-- their addresses are taken once, and a mint's supply is what wallets hold
pub record AreDeclared (limits : Limits) (start : PlainAccounts) (addresses : List Address) : Type 0 where
  pub accepted : AreAccepted limits start
  pub made : All IsMade start.markets
  pub srm : IfSome start.srm (HasDecimals start.mints 6)
  pub msrm : IfSome start.msrm (HasDecimals start.mints 0)
  pub taken : AreTaken start addresses
  pub backed : All (IsBacked start.wallets) start.mints

abbrev pub IsDeclared : PlainDraft → Type 0
IsDeclared draft = AreDeclared draft.script.limits draft.script.start draft.taken

-- ---- names of mints

named : (start : PlainAccounts) (decimals : ℕ) (name : Option Address) → IfSome name (HasDecimals start.mints decimals) → IfSome name (IsMintOf start)
named start decimals None h = tt
named start decimals (Some address) h = declared-there decimals_of start.mints address decimals h

apart : (mints : List PlainAccount) (srm msrm : Option Address) → IfSome srm (HasDecimals mints 6) → IfSome msrm (HasDecimals mints 0) → NamesApart srm msrm
apart mints None msrm first second = tt
apart mints (Some srm) None first second = tt
apart mints (Some srm) (Some msrm) first second = names-apart mints srm msrm 6 0 first second (λ e. absurd (omega (arith, e)))

name-stays : (mints later : List PlainAccount) → Grows mints later → (decimals : ℕ) (name : Option Address) → IfSome name (HasDecimals mints decimals)
    → IfSome name (HasDecimals later decimals)
name-stays mints later grows decimals None h = tt
name-stays mints later grows decimals (Some address) h = grows.decimals decimals address h

module _ (draft after : PlainDraft) (is : IsDeclared draft) where
  abbrev limits : Limits
  limits = draft.script.limits

  abbrev start : PlainAccounts
  start = draft.script.start

  abbrev old : AreAccepted limits start
  old = is.accepted

  -- ---- mints

  pub mint-declared : (address : Address) (decimals : ℕ) → decimals < 2 ^ 8 → IsMintRow draft address decimals after → IsDeclared after
  mint-declared address decimals fits row =
      let mint : PlainAccount = record { address = address; bytes = mint_bytes 0 decimals } in
      let next = more_mints start address decimals in
      let grows = grows-push start.mints mint in
      let taken = taken-more start next draft.taken (address ∷ []) is.taken (λ a. omega (arith, mint-adds start mint a)) (row.free, tt) (refl, tt) in
      subst IsDeclared row.declares.leaves (record {
        accepted = with-mints limits start old next.mints (All-push (λ (m : PlainAccount). IsMint m.bytes) start.mints mint old.mints (IsMint-made 0 decimals))
            grows.has (taken-once next _ taken) (omega (arith, length-append start.mints (mint ∷ []), row.few));
        made = is.made;
        srm = name-stays start.mints next.mints grows 6 start.srm is.srm;
        msrm = name-stays start.mints next.mints grows 0 start.msrm is.msrm;
        taken = taken;
        backed = mint-backed address decimals start.mints start.wallets fits
            (none-held address start.mints start.wallets (λ m known. new-is-other start draft.taken address m is.taken row.free known) old.wallet_mints) is.backed;
      })

  -- ---- names of mints

  names-declared : (srm msrm : Option Address) → IfSome srm (HasDecimals start.mints 6) → IfSome msrm (HasDecimals start.mints 0)
      → Declares draft [] (record start { srm = srm; msrm = msrm }) after → IsDeclared after
  names-declared srm msrm srm_is msrm_is row = subst IsDeclared row.leaves (record {
    accepted = with-names limits start old srm msrm (named start 6 srm srm_is) (named start 0 msrm msrm_is) (apart start.mints srm msrm srm_is msrm_is);
    made = is.made;
    srm = srm_is;
    msrm = msrm_is;
    taken = taken-more start (record start { srm = srm; msrm = msrm }) draft.taken [] is.taken (λ a. omega arith) tt tt;
    backed = is.backed;
  })

  pub srm-declared : (mint : Address) → IsName draft mint 6 × Declares draft [] (record start { srm = Some mint }) after → IsDeclared after
  srm-declared mint (name, row) =
      names-declared (Some mint) start.msrm (has-decimals start.mints mint name.words 6 name.found name.decimals_are) is.msrm row

  pub msrm-declared : (mint : Address) → IsName draft mint 0 × Declares draft [] (record start { msrm = Some mint }) after → IsDeclared after
  msrm-declared mint (name, row) =
      names-declared start.srm (Some mint) is.srm (has-decimals start.mints mint name.words 0 name.found name.decimals_are) row

  -- ---- wallets

  pub wallet-declared : (address mint owner : Address) (amount : ℕ) → IsWalletStated mint owner amount → IsWalletRow draft address mint owner amount after
      → IsDeclared after
  wallet-declared address mint owner amount stated row =
      let wallet : PlainAccount = record { address = address; bytes = wallet_bytes mint owner amount } in
      let next = more_wallets start address mint owner amount in
      let raised = record start { mints = next.mints } in
      let grows = grows-raised mint amount start.mints in
      let same = addresses-raised mint amount start.mints in
      let words = wallet_words-made mint owner amount stated.mint_size stated.owner_size stated.fits in
      let known : has_account mint next.mints ≡ true = grows.has mint (declared-there mint_says start.mints mint row.words row.found) in
      let of_mint : has_account (wallet_words wallet.bytes).mint next.mints ≡ true =
      subst (λ (w : WalletWords). has_account w.mint next.mints ≡ true) (sym words) known in
      let taken = taken-more start next draft.taken (address ∷ []) is.taken (λ a. omega (arith, wallet-adds start next.mints wallet same a)) (row.free, tt) (refl, tt) in
      let accepted = with-mints limits start old next.mints (mints-raised mint amount start.mints old.mints) grows.has
      (λ a. omega (arith, parts a start, parts a raised, ap (times a) same, old.once a)) (omega (arith, old.few_mints, length-with_supply mint amount start.mints)) in
      subst IsDeclared row.declares.leaves (record {
        accepted = with-wallet limits raised accepted wallet (IsWallet-made mint owner amount) of_mint (taken-once next _ taken)
            (omega (arith, length-append start.wallets (wallet ∷ []), row.few));
        made = is.made;
        srm = name-stays start.mints next.mints grows 6 start.srm is.srm;
        msrm = name-stays start.mints next.mints grows 0 start.msrm is.msrm;
        taken = taken;
        backed = wallet-backed address mint owner amount start.wallets stated.mint_size stated.owner_size stated.fits start.mints row.words row.found row.fits
            (omega (arith, parts mint start, old.once mint)) old.mints is.backed;
      })

  -- ---- markets

  set-trades : (words : PlainMarketWords) (set : MarketSet) (asked : IsSet words set) → AreFree draft.taken (made_addresses words.address)
      → has_account words.coin start.mints ≡ true → has_account words.pc start.mints ≡ true → CanTrade (market_set words asked.ix)
  set-trades words set asked free coin pc = record {
    mints = asked.mints;
    coin_lot = asked.told.coin_lot;
    pc_lot = asked.told.pc_lot;
    coin_apart = λ part. new-is-other start draft.taken _ words.coin is.taken (part-free draft.taken words.address free part) coin;
    pc_apart = λ part. new-is-other start draft.taken _ words.pc is.taken (part-free draft.taken words.address free part) pc;
  }

  pub market-declared : (words : PlainMarketWords) → IsMarketStated words → IsMarketRow draft words after → IsDeclared after
  market-declared words stated row =
      let asked = set-is words stated row.within row.set row.is in
      let set = market_set words asked.ix in
      let accounts = made_accounts set in
      let next = more_markets start set in
      let new = made_addresses words.address in
      let free = are-free draft.taken new row.free in
      let trade = set-trades words row.set asked free row.coin row.pc in
      let stands = stands-made set asked.made trade asked.wide asked.told.fits in
      let made : IsMade accounts = record { set = set; addresses = []; made = asked.made; trade = trade; is = refl; stands = stands } in
      let coin : has_account (market_words accounts.market).terms.coin_mint start.mints ≡ true =
      subst (λ (w : MarketWords). has_account w.terms.coin_mint start.mints ≡ true) (sym stands.terms.words) row.coin in
      let pc : has_account (market_words accounts.market).terms.pc_mint start.mints ≡ true =
      subst (λ (w : MarketWords). has_account w.terms.pc_mint start.mints ≡ true) (sym stands.terms.words) row.pc in
      let taken = taken-more start next draft.taken new is.taken (λ a. omega (arith, market-adds start accounts refl a, made-within set stands a)) free
      (made-apart words.address asked.wide.address asked.made.last_byte) in
      subst IsDeclared (subst (λ (s : MarketSet). with_start draft new (more_markets start s) ≡ after) (sym asked.is) row.declares.leaves) (record {
        accepted = with-market limits start old accounts (made-accepted set stands) (record { coin = coin; pc = pc }) (omega arith) (taken-once next _ taken)
            (omega (arith, length-append start.markets (accounts ∷ []), row.few));
        made = All-push IsMade start.markets accounts is.made made;
        srm = is.srm;
        msrm = is.msrm;
        taken = taken;
        backed = is.backed;
      })

  -- ---- open-orders accounts

  pub orders-declared : (market address : Address) → IsOrdersRow draft market address after → IsDeclared after
  orders-declared market address row =
      let account = blank_account address in
      let next = more_orders start market address in
      let room = has-room limits.orders market row.count start.markets row.found row.few in
      let taken = taken-more start next draft.taken (address ∷ []) is.taken (λ a. omega (arith, orders-add start limits.orders market account room a)) (row.free, tt) (refl, tt) in
      subst IsDeclared row.declares.leaves (record {
        accepted = with-account limits start old market account (inl IsBlank-blank_orders) (blank-names market address) room (taken-once next _ taken);
        made = orders-each IsMade market account (λ m _ made. made-grown address m made) start.markets is.made;
        srm = is.srm;
        msrm = is.msrm;
        taken = taken;
        backed = is.backed;
      })
