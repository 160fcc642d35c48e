-- what a payout brings to one wallet fits a balance's field
use Rattle.std.proofs.Common.{ℕ, ◌+◌, ◌≤◌, ◌<◌, ◌≡◌, ◌⊎◌, ◌^◌, true, false, not, Option, Some, None, refl, sym, ap, ◌∙◌, arith, inl, inr, ⊎_elim}
use Rattle.std.proofs.lemmas.Bool.{cases_Bool, cond-false, false≢true, not-false}
use Rattle.dex_types.specs.declared.addresses.Address.{Address}
use Rattle.dex_types.specs.declared.refusals.Refusal.TheVariants.{WrongMint}
use Rattle.dex_types.specs.declared.rows.Seen.{Seen}
use Rattle.dex_types.specs.declared.rows.WalletSeen.{WalletSeen}
use Rattle.dex_types.specs.Addresses.{is_same}
use Rattle.dex_types.specs.Reasons.{other_mint}
use Rattle.dex_types.specs.Transfers.{Transfers}
use Rattle.dex_types.specs.Wallets.{amount_at, brought_to}
use Rattle.dex_laws.proofs.TraderLaws.{is_same-true, is_same-refl}
use Rattle.dex_reasons.proofs.WalletAmounts.{amount-le}
use Rattle.dex_sound.proofs.OrderSoundReasons.{refused_where-none}
use Rattle.dex_settle.specs.SettleGiven.{HaveOneMint, HasOneCoinMint}

-- a wallet that a role takes has its mint
right-mint : (mint : Address) (wallet : WalletSeen) → other_mint mint (Some wallet) ≡ None → mint ≡ wallet.mint
right-mint mint wallet none =
    is_same-true mint wallet.mint (not-false (is_same mint wallet.mint) (refused_where-none (not (is_same mint wallet.mint)) (WrongMint wallet.mint) none))

-- no wallet is in two roles of two mints
apart-wallets : (mint other address : Address) (wallet same : WalletSeen) → is_same other mint ≡ false → other_mint mint (Some wallet) ≡ None → other_mint other (Some same) ≡ None
    → HaveOneMint (Some wallet) (Some same) → is_same address wallet.address ≡ true → is_same address same.address ≡ true → ⊥
apart-wallets mint other address wallet same apart right also one here there =
    let at : wallet.address ≡ same.address = sym (is_same-true address wallet.address here) ∙ is_same-true address same.address there in
    let mints : other ≡ mint = right-mint other same also ∙ sym (one wallet same refl refl at) ∙ sym (right-mint mint wallet right) in
    false≢true (sym apart ∙ ap (is_same other) (sym mints) ∙ is_same-refl other)

-- so at most one of the two brings something to an address
one-brings : (mint other address : Address) (role pair : Option WalletSeen) (a b : ℕ) → is_same other mint ≡ false → other_mint mint role ≡ None → other_mint other pair ≡ None
    → HaveOneMint role pair → (amount_at address role a ≡ 0) ⊎ (amount_at address pair b ≡ 0)
one-brings mint other address None pair a b apart right also one = inl refl
one-brings mint other address (Some wallet) None a b apart right also one = inr refl
one-brings mint other address (Some wallet) (Some same) a b apart right also one =
    ⊎_elim
    (λ (here : is_same address wallet.address ≡ true).
    ⊎_elim
    (λ (there : is_same address same.address ≡ true). absurd (apart-wallets mint other address wallet same apart right also one here there))
    (λ (far : is_same address same.address ≡ false). inr (cond-false (is_same address same.address) b 0 far))
    (cases_Bool (is_same address same.address)))
    (λ (far : is_same address wallet.address ≡ false). inl (cond-false (is_same address wallet.address) a 0 far))
    (cases_Bool (is_same address wallet.address))

-- what is brought under all roles together is below 2^64, where the mints of the roles were seen to be right
pub brought-fits : (coin_mint pc_mint : Address) (seen : Seen) (t : Transfers) (address : Address) → is_same pc_mint coin_mint ≡ false → HasOneCoinMint seen
    → other_mint coin_mint seen.coin ≡ None → other_mint pc_mint seen.pc ≡ None → other_mint pc_mint seen.referrer ≡ None
    → t.coin_out < 2 ^ 64 → t.pc_out + t.referrer_out < 2 ^ 64 → brought_to seen t address < 2 ^ 64
brought-fits coin_mint pc_mint seen t address apart one coin pc referrer coin_fits pc_fits =
    let x : amount_at address seen.coin t.coin_out ≤ t.coin_out = amount-le address seen.coin t.coin_out in
    let y : amount_at address seen.pc t.pc_out ≤ t.pc_out = amount-le address seen.pc t.pc_out in
    let z : amount_at address seen.referrer t.referrer_out ≤ t.referrer_out = amount-le address seen.referrer t.referrer_out in
    ⊎_elim
    (λ (none : amount_at address seen.coin t.coin_out ≡ 0). omega (arith, none, y, z, pc_fits))
    (λ (no_pc : amount_at address seen.pc t.pc_out ≡ 0).
    ⊎_elim
    (λ (none : amount_at address seen.coin t.coin_out ≡ 0). omega (arith, none, y, z, pc_fits))
    (λ (no_referrer : amount_at address seen.referrer t.referrer_out ≡ 0). omega (arith, no_pc, no_referrer, x, coin_fits))
    (one-brings coin_mint pc_mint address seen.coin seen.referrer t.coin_out t.referrer_out apart coin referrer one.referrer))
    (one-brings coin_mint pc_mint address seen.coin seen.pc t.coin_out t.pc_out apart coin pc one.pc)
