-- steps that leave the book and the events keep a market sound: settling, sweeping, opening, closing and disabling
use Rattle.std.proofs.Common.{ℕ, zero, suc, ◌+◌, ◌-◌, ◌≡◌, Bool, true, false, List, [], ◌∷◌, Option, Some, None, length, replicate, get_or, refl, sym, ap, ◌∙◌, subst, arith}
use Rattle.std.proofs.lemmas.List.{length-replicate}
use Rattle.dex_types.specs.declared.addresses.Address.{Address}
use Rattle.dex_types.specs.Market.{Market, orders}
use Rattle.dex_types.specs.Settle.{Settlement, settlement, settled_account, after_settle, after_sweep}
use Rattle.dex_types.specs.Side.{Token, Coin, Pc}
use Rattle.dex_types.specs.Owed.{order_lock, kept}
use Rattle.dex_types.specs.Tokens.{locking_side}
use Rattle.dex_types.specs.Solvency.{AddsUp, IsSolvent, IsBounded, vault, free_of, referrer_of, all_free, all_locked, all_owed, earned, own_locked, own_kept}
use Rattle.dex_types.specs.Soundness.{IsWellFormed, AreDistinct, HasSlots, held_at, held_by}
use Rattle.dex_types.specs.Trader.{Account, Holding, Trader, Blank, Closed, Open, Traders, balance, trader_at, put_trader}
use Rattle.dex_types.specs.Upkeep.{fresh_account, after_init, after_close, after_disable, taken_slots, all_funds}
use Rattle.dex_sound.specs.Places.{PlacesAgree, is_taken, IsSoundByPlace}
use Rattle.dex_sound.proofs.PlaceParts.{own-orders-none, own-events-none}
use Rattle.dex_sound.proofs.TraderSums.{all_free-put, all_referrers-put, AreDistinct-put, HasSlots-put, held_at-put_kept, AddsUp-put}

-- the market with other traders, vaults, fees and rebates
abbrev pub with_words : Traders → ℕ → ℕ → ℕ → ℕ → ℕ → Bool → Market → Market
with_words traders coin pc coin_fees pc_fees rebates disabled m = record m {
  traders = traders;
  coin_vault = coin;
  pc_vault = pc;
  coin_fees = coin_fees;
  pc_fees = pc_fees;
  referrer_rebates = rebates;
  is_disabled = disabled;
}

form-words : (traders : Traders) (coin pc coin_fees pc_fees rebates : ℕ) (disabled : Bool) (m : Market) → AreDistinct traders → HasSlots traders
    → IsWellFormed m → IsWellFormed (with_words traders coin pc coin_fees pc_fees rebates disabled m)
form-words traders coin pc coin_fees pc_fees rebates disabled m distinct slots form = record {
  mints = form.mints;
  coin_lot = form.coin_lot;
  pc_lot = form.pc_lot;
  room = form.room;
  in_order = form.in_order;
  proper = form.proper;
  within = form.within;
  events_within = form.events_within;
  tiers = form.tiers;
  sequence = form.sequence;
  counted = form.counted;
  distinct = distinct;
  slots = slots;
}

-- traders that hold what the others held
abbrev HoldSame : Traders → Traders → Type 0
HoldSame traders before = (owner : Address) (slot : ℕ) → held_at owner slot traders ≡ held_at owner slot before

places-words : (traders : Traders) (coin pc coin_fees pc_fees rebates : ℕ) (disabled : Bool) (m : Market) → HoldSame traders m.traders
    → PlacesAgree m → PlacesAgree (with_words traders coin pc coin_fees pc_fees rebates disabled m)
places-words traders coin pc coin_fees pc_fees rebates disabled m same agree = record {
  resting = λ side k default within. same _ _ ∙ agree.resting side k default within;
  pending = λ k default within. same _ _ ∙ agree.pending k default within;
  counts = λ owner slot. agree.counts owner slot ∙ ap is_taken (sym (same owner slot));
  last = agree.last;
  given = λ owner slot held is. agree.given owner slot held (sym (same owner slot) ∙ is);
  once = λ owner other slot at held again is there. agree.once owner other slot at held again (sym (same owner slot) ∙ is) (sym (same other at) ∙ there);
}

-- an account that is this open one
opened-slots : (account other : Account) → Open account ≡ Open other → length account.slots ≡ 128 → length other.slots ≡ 128
opened-slots account other is slots = let same : account ≡ other = cc in subst (λ (a : Account). length a.slots ≡ 128) same slots

opened-adds : (m : Market) (owner : Address) (account other : Account) → Open account ≡ Open other
    → ((token : Token) → (balance token account).total ≡ (balance token account).free + own_locked token owner m + own_kept token owner m.events)
    → (token : Token) → (balance token other).total ≡ (balance token other).free + own_locked token owner m + own_kept token owner m.events
opened-adds m owner account other is adds token =
    let same : account ≡ other = cc in
    subst (λ (a : Account). (balance token a).total ≡ (balance token a).free + own_locked token owner m + own_kept token owner m.events) same (adds token)

-- a vault holds what the market owes of a token
abbrev Covers : Token → Market → Type 0
Covers token m = vault token m ≡ all_free token m.traders + all_locked token m + all_owed token m.events + earned token m

-- the funds of an account that was settled
settled-adds : (m : Market) (owner : Address) (account : Account) → ((token : Token) →
    (balance token account).total ≡ (balance token account).free + own_locked token owner m + own_kept token owner m.events) → (token : Token) →
    (balance token (settled_account account)).total ≡ (balance token (settled_account account)).free + own_locked token owner m + own_kept token owner m.events
settled-adds m owner account adds Coin = omega (arith, adds Coin)
settled-adds m owner account adds Pc = omega (arith, adds Pc)

-- a settlement pays all that is free, and the referrer part
record Settles (account : Account) (s : Settlement) : Type 0 where
  pub coin : s.coin ≡ account.coin.free
  pub pc : s.pc ≡ account.pc.free
  pub referrer : s.referrer + s.to_fees ≡ account.referrer

settles : (has_referrer : Bool) (account : Account) → Settles account (settlement has_referrer account)
settles true account = record { coin = refl; pc = refl; referrer = omega arith }
settles false account = record { coin = refl; pc = refl; referrer = omega arith }

settled-vaults : (m : Market) (owner : Address) (account : Account) (s : Settlement) → Settles account s → trader_at owner m.traders ≡ Some (Open account)
    → IsSolvent m → (token : Token) → Covers token (after_settle owner account s m)
settled-vaults m owner account s pays found solvent Coin =
    omega (arith, pays.coin, solvent.vaults Coin, all_free-put Coin owner (Open account) (Open (settled_account account)) m.traders found)
settled-vaults m owner account s pays found solvent Pc =
    omega (
      arith,
      pays.pc,
      pays.referrer,
      solvent.vaults Pc,
      solvent.referrers,
      all_free-put Pc owner (Open account) (Open (settled_account account)) m.traders found,
      all_referrers-put owner (Open account) (Open (settled_account account)) m.traders found,
    )

settled-bounded : (m : Market) (owner : Address) (account : Account) (s : Settlement) → IsBounded m → IsBounded (after_settle owner account s m)
settled-bounded m owner account s bounded Coin = omega (arith, bounded Coin)
settled-bounded m owner account s bounded Pc = omega (arith, bounded Pc)

-- settling
settled-sound : (m : Market) (owner : Address) (account : Account) (s : Settlement) → Settles account s → trader_at owner m.traders ≡ Some (Open account)
    → IsSoundByPlace m → IsSoundByPlace (after_settle owner account s m)
settled-sound m owner account s pays found sound =
    let after : Trader = Open (settled_account account) in
    let traders : Traders = put_trader owner after m.traders in
    let coin : ℕ = m.coin_vault + 0 - s.coin in
    let pc : ℕ = m.pc_vault + 0 - s.pc - s.referrer in
    let rebates : ℕ = m.referrer_rebates - (s.referrer + s.to_fees) in
    record {
      form = form-words traders coin pc m.coin_fees (m.pc_fees + s.to_fees) rebates m.is_disabled m (AreDistinct-put owner after m.traders sound.form.distinct)
          (HasSlots-put owner (Open account) after m.traders found
          (λ other is. let slots : length account.slots ≡ 128 = sound.form.slots owner account found in opened-slots (settled_account account) other is slots) sound.form.slots) sound.form;
      places = places-words traders coin pc m.coin_fees (m.pc_fees + s.to_fees) rebates m.is_disabled m
          (held_at-put_kept owner (Open account) after m.traders found (λ slot. refl)) sound.places;
      funds = record {
        solvent = record {
          vaults = settled-vaults m owner account s pays found sound.funds.solvent;
          referrers = omega (arith, pays.referrer, sound.funds.solvent.referrers, all_referrers-put owner (Open account) after m.traders found);
        };
        adds_up = AddsUp-put m (after_settle owner account s m) owner (Open account) after found refl (λ other apart token. refl)
            (λ other is token. opened-adds (after_settle owner account s m) owner (settled_account account) other is
            (settled-adds m owner account (sound.funds.adds_up owner account found)) token) sound.funds.adds_up;
        bounded = settled-bounded m owner account s sound.funds.bounded;
      };
    }

pub settle-sound : (m : Market) (owner : Address) (account : Account) (has_referrer : Bool) → trader_at owner m.traders ≡ Some (Open account)
    → IsSoundByPlace m → IsSoundByPlace (after_settle owner account (settlement has_referrer account) m)
settle-sound m owner account has_referrer = settled-sound m owner account (settlement has_referrer account) (settles has_referrer account)

-- sweeping
swept-vaults : (m : Market) → IsSolvent m → (token : Token) → Covers token (after_sweep m)
swept-vaults m solvent Coin = omega (arith, solvent.vaults Coin)
swept-vaults m solvent Pc = omega (arith, solvent.vaults Pc)

swept-bounded : (m : Market) → IsBounded m → IsBounded (after_sweep m)
swept-bounded m bounded Coin = omega (arith, bounded Coin)
swept-bounded m bounded Pc = omega (arith, bounded Pc)

pub sweep-sound : (m : Market) → IsSoundByPlace m → IsSoundByPlace (after_sweep m)
sweep-sound m sound = record {
  form = form-words m.traders (m.coin_vault + 0 - 0) (m.pc_vault + 0 - m.pc_fees - 0) m.coin_fees 0 m.referrer_rebates m.is_disabled m sound.form.distinct sound.form.slots sound.form;
  places = places-words m.traders (m.coin_vault + 0 - 0) (m.pc_vault + 0 - m.pc_fees - 0) m.coin_fees 0 m.referrer_rebates m.is_disabled m (λ owner slot. refl) sound.places;
  funds = record {
    solvent = record { vaults = swept-vaults m sound.funds.solvent; referrers = sound.funds.solvent.referrers };
    adds_up = sound.funds.adds_up;
    bounded = swept-bounded m sound.funds.bounded;
  };
}

-- disabling
pub disable-sound : (m : Market) → IsSoundByPlace m → IsSoundByPlace (after_disable m)
disable-sound m sound = record {
  form = form-words m.traders m.coin_vault m.pc_vault m.coin_fees m.pc_fees m.referrer_rebates true m sound.form.distinct sound.form.slots sound.form;
  places = places-words m.traders m.coin_vault m.pc_vault m.coin_fees m.pc_fees m.referrer_rebates true m (λ owner slot. refl) sound.places;
  funds = record {
    solvent = record { vaults = sound.funds.solvent.vaults; referrers = sound.funds.solvent.referrers };
    adds_up = sound.funds.adds_up;
    bounded = sound.funds.bounded;
  };
}

-- a trader without funds and orders takes the place of another one
bare-sound : (m : Market) (owner : Address) (old after : Trader) → trader_at owner m.traders ≡ Some old
    → ((token : Token) → free_of token old ≡ 0) → ((token : Token) → free_of token after ≡ 0) → referrer_of old ≡ 0 → referrer_of after ≡ 0
    → ((slot : ℕ) → held_by (Some old) slot ≡ None) → ((slot : ℕ) → held_by (Some after) slot ≡ None)
    → ((account : Account) → after ≡ Open account → length account.slots ≡ 128)
    → ((account : Account) → after ≡ Open account → (token : Token) → (balance token account).total ≡ 0)
    → IsSoundByPlace m → IsSoundByPlace (record m { traders = put_trader owner after m.traders })
bare-sound m owner old after found old_free free old_referrer referrer old_slots slots lengths totals sound =
    let traders : Traders = put_trader owner after m.traders in
    let none : (slot : ℕ) → held_at owner slot m.traders ≡ None = λ slot. ap (λ t. held_by t slot) found ∙ old_slots slot in
    record {
      form = form-words traders m.coin_vault m.pc_vault m.coin_fees m.pc_fees m.referrer_rebates m.is_disabled m (AreDistinct-put owner after m.traders sound.form.distinct)
          (HasSlots-put owner old after m.traders found lengths sound.form.slots) sound.form;
      places = places-words traders m.coin_vault m.pc_vault m.coin_fees m.pc_fees m.referrer_rebates m.is_disabled m
          (held_at-put_kept owner old after m.traders found (λ slot. slots slot ∙ sym (old_slots slot))) sound.places;
      funds = record {
        solvent = record {
          vaults = λ token. omega (arith, old_free token, free token, sound.funds.solvent.vaults token, all_free-put token owner old after m.traders found);
          referrers = omega (arith, old_referrer, referrer, sound.funds.solvent.referrers, all_referrers-put owner old after m.traders found);
        };
        adds_up = AddsUp-put m (record m { traders = traders }) owner old after found refl (λ other apart token. refl)
            (λ account is token.
            omega (
              arith,
              totals account is token,
              ap (free_of token) is,
              free token,
              own-orders-none owner (order_lock (locking_side token) m.listing.sizes) (locking_side token) (orders (locking_side token) m) m.traders none (sound.places.resting (locking_side token)),
              own-events-none owner (kept token) m.events m.traders none sound.places.pending,
            )) sound.funds.adds_up;
        bounded = sound.funds.bounded;
      };
    }

-- opening a blank account
fresh-totals : (person : Address) (account : Account) → Open (fresh_account person) ≡ Open account → (token : Token) → (balance token account).total ≡ 0
fresh-totals person account is Coin = let same : fresh_account person ≡ account = cc in sym (ap (λ (a : Account). a.coin.total) same)
fresh-totals person account is Pc = let same : fresh_account person ≡ account = cc in sym (ap (λ (a : Account). a.pc.total) same)

no-free : (trader : Trader) → trader ≡ Blank → (token : Token) → free_of token trader ≡ 0
no-free trader is token = ap (free_of token) is

fresh-free : (person : Address) (token : Token) → free_of token (Open (fresh_account person)) ≡ 0
fresh-free person Coin = refl
fresh-free person Pc = refl

abbrev no_holding : Option Holding
no_holding = None

free-slots : (count slot : ℕ) → get_or (replicate count no_holding) slot None ≡ None
free-slots zero slot = refl
free-slots (suc count) zero = refl
free-slots (suc count) (suc slot) = free-slots count slot

pub init-sound : (m : Market) (owner signer : Address) → trader_at owner m.traders ≡ Some Blank → IsSoundByPlace m → IsSoundByPlace (after_init owner signer m)
init-sound m owner signer found =
    bare-sound m owner Blank (Open (fresh_account signer)) found (λ token. refl) (fresh-free signer) refl refl (λ slot. refl)
    (λ slot. free-slots 128 slot)
    (λ account is. opened-slots (fresh_account signer) account is (length-replicate 128 no_holding)) (fresh-totals signer)

-- closing an empty account
none-taken : (slots : List (Option Holding)) (slot : ℕ) → taken_slots slots ≡ 0 → get_or slots slot None ≡ None
none-taken [] slot none = refl
none-taken (None ∷ slots) zero none = refl
none-taken (None ∷ slots) (suc slot) none = none-taken slots slot none
none-taken ((Some held) ∷ slots) slot none = absurd (omega (arith, none))

empty-free : (m : Market) (owner : Address) (account : Account) → trader_at owner m.traders ≡ Some (Open account) → all_funds account ≡ 0 → AddsUp m
    → (token : Token) → (balance token account).free ≡ 0
empty-free m owner account found empty adds Coin = omega (arith, adds owner account found Coin)
empty-free m owner account found empty adds Pc = omega (arith, adds owner account found Pc)

pub close-sound : (m : Market) (owner : Address) (account : Account) → trader_at owner m.traders ≡ Some (Open account) → taken_slots account.slots ≡ 0 → all_funds account ≡ 0
    → IsSoundByPlace m → IsSoundByPlace (after_close owner m)
close-sound m owner account found free empty sound =
    bare-sound m owner (Open account) Closed found (empty-free m owner account found empty sound.funds.adds_up) (λ token. refl) (omega arith) refl
    (λ slot. none-taken account.slots slot free) (λ slot. refl) (λ other is. absurd (cc)) (λ other is. absurd (cc)) sound
