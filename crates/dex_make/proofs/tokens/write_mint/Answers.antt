use Rattle.std.proofs.Common.{rules, ◌≡◌, ap, ◌∙◌}
use Rattle.dex_fields.specs.Bytes.{with_number}
use Rattle.dex_fields.specs.Writes.{wrote}
use Rattle.dex_token.specs.MintAccount.{mint_words}
use Rattle.dex_make.specs.TokenBytes.{mint_bytes, mint_writes}
use Rattle.dex_make.proofs.TokenLaws.{mint_words-made}
use Rattle.dex_make.proofs.tokens.write_mint.Goals as goal

pub returns-clause-bytes : goal.returns-clause-bytes
unfolding mint_bytes with_number
returns-clause-bytes c =
    let made : c.put_u8-2.new.bytes ≡ wrote c.args.bytes.now (mint_writes c.args.supply c.args.decimals) = search rules in
    made ∙ ap (λ b. wrote b (mint_writes c.args.supply c.args.decimals)) c.requires

pub returns-clause-words : goal.returns-clause-words
returns-clause-words c =
    ap mint_words (returns-clause-bytes c) ∙ mint_words-made c.args.supply c.args.decimals (search rules) (search rules)
