use Rattle.std.proofs.Common.{◌∙◌, List, ap, subst}
use Rattle.std.specs.Prelude.{take}
use Rattle.dex_abi.proofs.processing.process_named.Goals as goal
use Rattle.dex_abi.specs.Lent as lent
use Rattle.dex_accounts.specs.Decoded.{market_in}
use Rattle.dex_process.specs.declared.processing.Terms.{Terms}
use Rattle.dex_process.specs.Process.{HasProcessed, seen_by}
use Rattle.dex_purse.specs.declared.lent_wallets.Roles.{Roles}
use Rattle.dex_types.specs.declared.addresses.Address.{Address}
use Rattle.dex_types.specs.Requests.{Request}
use Rattle.dex_types.specs.Steps.{step}

-- what an answer says, of these roles and terms and of what is asked
abbrev Says : goal.After-numbers_of → Roles → Terms → Request → Type 0
Says c roles terms request =
    HasProcessed roles c.reply_on.result (lent.acting_on c.args.market.now c.args.wallets.now)
    (lent.acting_on c.reply_on.new.market c.reply_on.new.wallets)
    (step request (seen_by roles terms (lent.purse_of c.args.wallets.now)) (market_in (lent.accounts_of c.args.market.now)))

pub returns-clause-processed : goal.returns-clause-processed
returns-clause-processed c = record {
  reply = c.reply_on.result;
  exact = c.numbers_of.ensures.exact;
  told = c.numbers_of.ensures.stands;
  processed =
      subst (λ (roles : Roles). Says c roles (lent.terms_in c.args.instruction.now) (lent.request_in c.args.instruction.now)) c.roles_in-roles.ensures
      (subst (λ (terms : Terms). Says c c.roles_in-roles.result terms (lent.request_in c.args.instruction.now)) c.terms_in-terms.ensures
      (subst (λ (request : Request). Says c c.roles_in-roles.result c.terms_in-terms.result request)
      (c.ask_in-ask.ensures ∙ ap (λ (names : List Address). lent.request_by c.args.instruction.now (take c.args.instruction.now.named_count names)) c.names_in-names.ensures)
      c.reply_on.ensures.answered));
}
