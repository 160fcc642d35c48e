-- What made mints and token accounts say.
use Rattle.std.proofs.Common.{◌≡◌, ℕ, ◌<◌, ◌^◌, List, length, replicate, refl, ◌∙◌, lit≤, lit<}
use Rattle.std.proofs.lemmas.List.{length-replicate}
use Rattle.dex_fields.specs.declared.mint.TheConstants as mints
use Rattle.dex_fields.specs.declared.token_account.TheConstants as token
use Rattle.dex_fields.specs.Writes.{Write}
use Rattle.dex_fields.proofs.Places.{bytes_in-replicate}
use Rattle.dex_fields.proofs.Wrote.{bytes_at, bytes_in-wrote, length-wrote, number_at}
use Rattle.dex_types.specs.declared.addresses.Address.{Address}
use Rattle.dex_token.specs.MintAccount.{IsMint, mint_words}
use Rattle.dex_token.specs.TokenAccount.{IsWallet, wallet_words}
use Rattle.dex_make.specs.TokenBytes.{mint_bytes, mint_writes, wallet_bytes, wallet_writes}

module _ (supply decimals : ℕ) where
  abbrev mint_zeros : List ℕ
  mint_zeros = replicate 82 0

  pub IsMint-made : IsMint (mint_bytes supply decimals)
  unfolding mint_bytes
  IsMint-made = record {
    size = length-wrote mint_zeros (mint_writes supply decimals) ∙ length-replicate {A = ℕ} 82 0;
    initialized = number_at mint_zeros (mint_writes supply decimals) 2 mints.IS_INITIALIZED 1 refl refl (lit≤ tt) (lit< tt);
  }

  pub mint_words-made : supply < 2 ^ 64 → decimals < 2 ^ 8 → mint_words (mint_bytes supply decimals) ≡ record { supply = supply; decimals = decimals }
  unfolding mint_bytes
  mint_words-made s d =
      rw (
        number_at mint_zeros (mint_writes supply decimals) 0 mints.SUPPLY supply refl refl (lit≤ tt) s,
        number_at mint_zeros (mint_writes supply decimals) 1 mints.DECIMALS decimals refl refl (lit≤ tt) d,
      ) refl

module _ (mint owner : Address) (amount : ℕ) where
  abbrev zeros : List ℕ
  zeros = replicate 165 0

  abbrev writes : List Write
  writes = wallet_writes mint owner amount

  pub IsWallet-made : IsWallet (wallet_bytes mint owner amount)
  unfolding wallet_bytes
  IsWallet-made = record {
    size = length-wrote zeros writes ∙ length-replicate {A = ℕ} 165 0;
    delegate = bytes_in-wrote zeros writes token.DELEGATE refl ∙ bytes_in-replicate 165 0 token.DELEGATE (lit≤ tt);
    state = number_at zeros writes 3 token.STATE 1 refl refl (lit≤ tt) (lit< tt);
    is_native = bytes_in-wrote zeros writes token.IS_NATIVE refl ∙ bytes_in-replicate 165 0 token.IS_NATIVE (lit≤ tt);
    delegated_amount = bytes_in-wrote zeros writes token.DELEGATED_AMOUNT refl ∙ bytes_in-replicate 165 0 token.DELEGATED_AMOUNT (lit≤ tt);
    close_authority = bytes_in-wrote zeros writes token.CLOSE_AUTHORITY refl ∙ bytes_in-replicate 165 0 token.CLOSE_AUTHORITY (lit≤ tt);
  }

  pub wallet_words-made : length mint.0 ≡ 32 → length owner.0 ≡ 32 → amount < 2 ^ 64
      → wallet_words (wallet_bytes mint owner amount) ≡ record { mint = mint; owner = owner; amount = amount }
  unfolding wallet_bytes
  wallet_words-made m o a =
      rw (
        bytes_at zeros writes 0 refl (lit≤ tt) m,
        bytes_at zeros writes 1 refl (lit≤ tt) o,
        number_at zeros writes 2 token.AMOUNT amount refl refl (lit≤ tt) a,
      ) refl
