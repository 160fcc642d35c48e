-- Mints that rows declare.
use Rattle.std.specs.Prelude.{List, All}
use Rattle.dex_types.specs.Accounts.{PlainAccount}
use Rattle.dex_token.specs.MintAccount.{IsMint, MintWords}
use Rattle.dex_script.specs.declared.mints.Words.{Words}

-- each is a mint's account
abbrev pub AreMints : List PlainAccount → Type 0
AreMints mints = All (λ (mint : PlainAccount). IsMint mint.bytes) mints

-- what a mint says
abbrev pub words_of : Words → MintWords
words_of words = record { supply = words.supply; decimals = words.decimals }
