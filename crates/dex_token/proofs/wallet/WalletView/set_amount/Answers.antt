use Rattle.std.proofs.Common.{◌≡◌, sym, ap, subst, ◌∙◌}
use Rattle.dex_fields.specs.declared.token_account.TheConstants.{AMOUNT}
use Rattle.dex_fields.specs.Bytes.{number_in, with_number}
use Rattle.dex_token.specs.TokenAccount.{IsWallet, wallet_words}
use Rattle.dex_token.proofs.AmountWrites.{IsWallet-with_amount, wallet_words-with_amount}
use Rattle.dex_token.proofs.wallet.WalletView.set_amount.Goals as goal

given : (c : goal.After-put_u64) → number_in (with_number c.args.self.now.bytes.now AMOUNT c.args.value) AMOUNT ≡ c.args.value
given c = ap (λ bytes. number_in bytes AMOUNT) (sym c.put_u64.ensures.bytes) ∙ c.put_u64.ensures.given

pub returns-clause-words : goal.returns-clause-words
returns-clause-words c =
    ap wallet_words c.put_u64.ensures.bytes ∙ wallet_words-with_amount c.args.self.now.bytes.now c.args.value (given c)

pub returns-clause-accepted : goal.returns-clause-accepted
returns-clause-accepted c =
    subst IsWallet (sym c.put_u64.ensures.bytes) (IsWallet-with_amount c.args.self.now.bytes.now c.args.value c.requires)
