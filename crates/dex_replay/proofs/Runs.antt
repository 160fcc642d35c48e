-- Rows that act one after the other leave each market a history, and each wallet a journal, of the rows that name it.
use Rattle.std.proofs.Common.{◌≡◌, ℕ, Bool, true, ◌||◌, List, [], ◌∷◌, map, Option, Some, None, refl, sym, ap, ◌∙◌}
use Rattle.dex_world.proofs.Common.{Address, Agree, AllZip, Asked, Call, Contains, Entry, IsLegal, IsWalletLegal, MarketState, Movement, PlainAccount, PlainMarketAccounts, PlainRow, Reply, Sees, WalletSeen, WalletState, World, address_seen, asked_of, balance_after, cond_both, false≢true, filter, is_same, is_same-true, list_any, market_after, names, role_at, seen_by, wallet_at, wallet_entry_of}
use Rattle.dex_replay.proofs.Common.{All, Any, IsRowOf, IsSight, IsWalletSeen, Origin, PlainScript, balance_of, front, has_account, is_known_role, market_in, origin_of_entry, origin_of_row, start_world, wallet_words}
use Rattle.dex_replay.proofs.Doing.{doing}
use Rattle.dex_replay.proofs.Holdings.{held_in}
use Rattle.dex_replay.proofs.MappedLists.{any-here, any-there}

-- ---- what a run of rows leaves

-- a row of the script that acted, or was held back, and its reply
pub record RowReply : Type 0 where
  pub row : PlainRow
  pub reply : Reply

-- the rows on the market of an address, and those that name the wallet of one
abbrev pub on : Address → List RowReply → List RowReply
on address done = filter (λ (told : RowReply). is_same told.row.market address) done

abbrev pub naming : Address → List RowReply → List RowReply
naming address done = filter (λ (told : RowReply). names told.row address) done

-- what a call asked and was answered, and a row
abbrev pub said : Call → Asked × Reply
said call = (call.asked, call.entry.reply)

abbrev pub said_of : RowReply → Asked × Reply
said_of told = (asked_of told.row, told.reply)

abbrev pub origin_of : RowReply → Origin
origin_of told = origin_of_row told.row

-- a market of a script after some rows: its calls are those of the rows on it
pub record IsHistory (script : PlainScript) (done : List RowReply) (first : PlainMarketAccounts) (state : MarketState) : Type 0 where
  pub calls : List Call
  pub entries : state.entries ≡ map (λ (call : Call). call.entry) calls
  pub legal : IsLegal (market_in first) calls
  pub end_is : state.market ≡ market_after (market_in first) calls
  pub said : map said calls ≡ map said_of (on first.address done)
  pub sees : All (λ (call : Call). IsSight script call.seen) calls

-- a wallet after them: its entries are of those that name it, and follow from its first balance
pub record IsMoved (done : List RowReply) (first : PlainAccount) (state : WalletState) : Type 0 where
  pub address : state.seen.address ≡ first.address
  pub mint : state.seen.mint ≡ (wallet_words first.bytes).mint
  pub owner : state.seen.owner ≡ (wallet_words first.bytes).owner
  pub legal : IsWalletLegal (balance_of first.bytes) state.entries
  pub balance : state.seen.balance ≡ balance_after (balance_of first.bytes) state.entries
  pub origins : map origin_of_entry state.entries ≡ map origin_of (naming first.address done)

-- a movement stands in its wallet's journal
abbrev pub StandsIn : List WalletState → Address → Entry → Movement → Type 0
StandsIn wallets market entry move =
    Any (λ (state : WalletState). (state.seen.address ≡ move.wallet) × Contains state.entries (wallet_entry_of market entry move)) wallets

-- so does each of an entry, and each of a journal
abbrev pub StandIn : List WalletState → Address → Entry → Type 0
StandIn wallets market entry = All (StandsIn wallets market entry) (front entry.moves)

abbrev pub AllStandIn : List WalletState → MarketState → Type 0
AllStandIn wallets state = All (StandIn wallets state.market.listing.address) state.entries

pub record IsRun (script : PlainScript) (done : List RowReply) (world : World) : Type 0 where
  pub srm : world.srm ≡ script.start.srm
  pub msrm : world.msrm ≡ script.start.msrm
  pub program : world.program ≡ script.program
  pub markets : AllZip (IsHistory script done) script.start.markets world.markets
  pub wallets : AllZip (IsMoved done) script.start.wallets world.wallets
  pub stand : All (AllStandIn world.wallets) world.markets
  pub holds : (mint : Address) → held_in mint world ≡ held_in mint (start_world script)

-- ---- what a row sees

-- a wallet of an address is found where there is one
wallet-seen : (address : Address) (states : List WalletState) → list_any (λ (state : WalletState). is_same address state.seen.address) states ≡ true
    → address_seen (wallet_at address states) ≡ Some address
wallet-seen address [] known = absurd (false≢true known)
wallet-seen address (state ∷ states) known =
    cond_both (is_same address state.seen.address) (Some state.seen) (wallet_at address states) (λ (one : Option WalletSeen). address_seen one ≡ Some address)
    (λ same. ap (λ (a : Address). Some a) (sym (is_same-true address state.seen.address same)))
    (λ apart.
    wallet-seen address states (sym (ap (λ (b : Bool). b || list_any (λ (one : WalletState). is_same address one.seen.address) states) apart) ∙ known))

module _ (script : PlainScript) (done : List RowReply) where
  -- an account of the start is still there
  pub still-there : (address : Address) (firsts : List PlainAccount) (states : List WalletState) → AllZip (IsMoved done) firsts states
      → list_any (λ (state : WalletState). is_same address state.seen.address) states ≡ has_account address firsts
  still-there address [] [] are = refl
  still-there address (first ∷ firsts) (state ∷ states) are =
      λ i. is_same address (are.0.address i) || still-there address firsts states are.1 i
  still-there address _ _ are = absurd are

  sight-of : (address : Address) (firsts : List PlainAccount) (states : List WalletState) → AllZip (IsMoved done) firsts states
      → IsWalletSeen firsts (wallet_at address states)
  sight-of address [] [] are = tt
  sight-of address (first ∷ firsts) (state ∷ states) are =
      cond_both (is_same address state.seen.address) (Some state.seen) (wallet_at address states) (IsWalletSeen (first ∷ firsts))
      (λ same. any-here _ first firsts (seen-by state.seen are.0.address are.0.mint are.0.owner))
      (λ apart. later (wallet_at address states) (sight-of address firsts states are.1))
    where
      seen-by : (seen : WalletSeen) → seen.address ≡ first.address → seen.mint ≡ (wallet_words first.bytes).mint → seen.owner ≡ (wallet_words first.bytes).owner
          → seen ≡ record { address = first.address; mint = (wallet_words first.bytes).mint; owner = (wallet_words first.bytes).owner; balance = seen.balance }
      seen-by seen address mint owner = λ i. record seen { address = address i; mint = mint i; owner = owner i }

      later : (role : Option WalletSeen) → IsWalletSeen firsts role → IsWalletSeen (first ∷ firsts) role
      later None is = tt
      later (Some seen) is = any-there _ first firsts is
  sight-of address _ _ are = absurd are

  module _ (world : World) (run : IsRun script done world) where
    here : (address : Address) → has_account address script.start.wallets ≡ true
        → list_any (λ (state : WalletState). is_same address state.seen.address) world.wallets ≡ true
    here address known = still-there address script.start.wallets world.wallets run.wallets ∙ known

    role-seen : (role : Option Address) → is_known_role script.start.wallets role ≡ true → address_seen (role_at role world.wallets) ≡ role
    role-seen None known = refl
    role-seen (Some address) known = wallet-seen address world.wallets (here address known)

    abbrev see : Option Address → Option WalletSeen
    see role = role_at role world.wallets

    -- two roles that name one wallet see one
    roles-agree : (role other : Option Address) → is_known_role script.start.wallets role ≡ true → is_known_role script.start.wallets other ≡ true
        → Agree (see role) (see other)
    roles-agree role other known known_other = both (see role) (see other) (ap see (role-seen role known)) (ap see (role-seen other known_other))
      where
        both : (one two : Option WalletSeen) → see (address_seen one) ≡ one → see (address_seen two) ≡ two → Agree one two
        both (Some wallet) (Some another) first second = λ same.
            let own : Some wallet ≡ Some another = sym first ∙ ap (λ (a : Address). see (Some a)) same ∙ second in
            cc
        both _ _ first second = tt

    role-sight : (role : Option Address) → IsWalletSeen script.start.wallets (role_at role world.wallets)
    role-sight None = tt
    role-sight (Some address) = sight-of address script.start.wallets world.wallets run.wallets

    pub row-sees : (row : PlainRow) → IsRowOf script.start row → (bytes : List ℕ) → Sees (asked_of (doing row bytes)) (seen_by row world)
    row-sees row fits bytes = record {
      coin = role-seen row.coin fits.coin;
      pc = role-seen row.pc fits.pc;
      discount = role-seen row.discount fits.discount;
      referrer = role-seen row.referrer fits.referrer;
      coin_pc = roles-agree row.coin row.pc fits.coin fits.pc;
      coin_discount = roles-agree row.coin row.discount fits.coin fits.discount;
      coin_referrer = roles-agree row.coin row.referrer fits.coin fits.referrer;
      pc_discount = roles-agree row.pc row.discount fits.pc fits.discount;
      pc_referrer = roles-agree row.pc row.referrer fits.pc fits.referrer;
      discount_referrer = roles-agree row.discount row.referrer fits.discount fits.referrer;
    }

    pub row-sight : (row : PlainRow) → IsSight script (seen_by row world)
    row-sight row = record {
      coin = role-sight row.coin;
      pc = role-sight row.pc;
      discount = role-sight row.discount;
      referrer = role-sight row.referrer;
      srm = run.srm;
      msrm = run.msrm;
      program = run.program;
    }
