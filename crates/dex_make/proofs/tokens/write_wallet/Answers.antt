use Rattle.std.proofs.Common.{rules, ◌≡◌, length, ap, subst, sym, ◌∙◌}
use Rattle.dex_fields.specs.declared.token_account.TheConstants.{MINT, OWNER}
use Rattle.dex_fields.specs.Bytes.{with_number}
use Rattle.dex_fields.specs.Writes.{wrote}
use Rattle.dex_fields.proofs.Reading.{length-bytes_in}
use Rattle.dex_token.specs.TokenAccount.{IsWallet, wallet_words}
use Rattle.dex_make.specs.TokenBytes.{wallet_bytes, wallet_writes}
use Rattle.dex_make.proofs.TokenLaws.{IsWallet-made, wallet_words-made}
use Rattle.dex_make.proofs.tokens.write_wallet.Goals as goal

pub returns-clause-bytes : goal.returns-clause-bytes
unfolding wallet_bytes with_number
returns-clause-bytes c =
    let made : c.put_u8.new.bytes ≡ wrote c.args.bytes.now (wallet_writes c.args.mint c.args.owner c.args.amount) = search rules in
    made ∙ ap (λ b. wrote b (wallet_writes c.args.mint c.args.owner c.args.amount)) c.requires

pub returns-clause-words : goal.returns-clause-words
returns-clause-words c =
    let mint : length c.args.mint.0 ≡ 32 = ap length (sym c.put_addr.ensures.given) ∙ length-bytes_in c.put_addr.new.bytes MINT (search rules) in
    let owner : length c.args.owner.0 ≡ 32 = ap length (sym c.put_addr-2.ensures.given) ∙ length-bytes_in c.put_addr-2.new.bytes OWNER (search rules) in
    ap wallet_words (returns-clause-bytes c) ∙ wallet_words-made c.args.mint c.args.owner c.args.amount mint owner (search rules)

pub returns-clause-accepted : goal.returns-clause-accepted
returns-clause-accepted c = subst IsWallet (sym (returns-clause-bytes c)) (IsWallet-made c.args.mint c.args.owner c.args.amount)
