-- The texts that tell where a script may be cut.
use Rattle.std.specs.Prelude.{◌≡◌, ◌⊎◌, ℕ, false, List, ◌∷◌, [], ◌++◌, codes}
use Rattle.std.specs.Fmt.{decimal}
use Rattle.std.specs.List.{flat_map}
use Rattle.dex_types.specs.Text.{spaced}
use Rattle.dex_types.specs.declared.limits.Limits.{Limits}
use Rattle.dex_script_types.specs.PlainScript.{PlainScript}
use Rattle.dex_script.specs.Scripts.{ReadsWithin}
use Rattle.dex_parts.specs.Cuts.{AreCutBy, numbers_of}
use Rattle.dex_parts.specs.Sharded.{AreShardsOf}
use Rattle.dex_answers.specs.Answers.{IsNoScript}
use Rattle.dex_answers.specs.declared.status.Status.{Status}
use Rattle.dex_answers.specs.declared.status.Status.TheVariants as status

-- ---- lines

-- the shard of a market, of a wallet, of a row
abbrev pub market_line : ℕ → List ℕ
market_line shard = codes "market" ++ spaced (decimal shard) ++ 10 ∷ []

abbrev pub wallet_line : ℕ → List ℕ
wallet_line shard = codes "wallet" ++ spaced (decimal shard) ++ 10 ∷ []

abbrev pub row_line : ℕ → List ℕ
row_line shard = codes "row" ++ spaced (decimal shard) ++ 10 ∷ []

-- how many rows a part has
abbrev pub part_line : ℕ → List ℕ
part_line count = codes "part" ++ spaced (decimal count) ++ 10 ∷ []

abbrev pub end_line : List ℕ
end_line = codes "end" ++ 10 ∷ []

-- ---- texts

-- the shards of markets, of wallets and of rows
abbrev pub shards_text : List ℕ → List ℕ → List ℕ → List ℕ
shards_text markets wallets rows = flat_map market_line markets ++ flat_map wallet_line wallets ++ flat_map row_line rows ++ end_line

-- the parts of a chain
abbrev pub parts_text : List ℕ → List ℕ
parts_text counts = flat_map part_line counts ++ end_line

-- ---- what they say

-- the bytes are a script within these limits, and the text tells shards into which it falls
pub record TellsShards (limits : Limits) (bytes text : List ℕ) : Type 0 where
  pub script : PlainScript
  pub reads : ReadsWithin limits false bytes script
  pub markets : List ℕ
  pub wallets : List ℕ
  pub rows : List ℕ
  pub shards : AreShardsOf script markets wallets rows
  pub text_is : text ≡ shards_text markets wallets rows

-- the bytes are a script within these limits, and the text tells how many rows each part of a chain has, for parts of
-- at most so many
pub record TellsParts (limits : Limits) (most : ℕ) (bytes text : List ℕ) : Type 0 where
  pub script : PlainScript
  pub reads : ReadsWithin limits false bytes script
  pub counts : List ℕ
  pub cut : AreCutBy most counts (numbers_of script.rows)
  pub text_is : text ≡ parts_text counts

-- so they do, or the text says why the bytes are no script
abbrev pub SaysShards : Limits → List ℕ → Status → List ℕ → Type 0
SaysShards limits bytes stood text = ((stood ≡ status.Ok) × TellsShards limits bytes text) ⊎ IsNoScript limits false bytes stood text

abbrev pub SaysParts : Limits → ℕ → List ℕ → Status → List ℕ → Type 0
SaysParts limits most bytes stood text =
    ((stood ≡ status.Ok) × TellsParts limits most bytes text) ⊎ IsNoScript limits false bytes stood text
