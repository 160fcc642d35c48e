use Rattle.std.proofs.Common.{All, List, append-nil, append_assoc, map, subst}
use Rattle.std.proofs.lemmas.List.Elements.{All-nil}
use Rattle.dex_types.specs.declared.account_bytes.Named.{Named}
use Rattle.dex_types.specs.Accounts.{named_of}
use Rattle.dex_state.specs.Held.{IsHeld, IsHeldMarket}
use Rattle.dex_dump.specs.DumpText.{account_rows, behind_first}
use Rattle.dex_dump.proofs.TextLaws.{lines_text-four}
use Rattle.dex_dump.proofs.writing.write_front.Goals as goal

pub returns-clause-text : goal.returns-clause-text
unfolding account_rows behind_first
returns-clause-text c =
    rw (
      c.in_ok-write_accounts-2.ensures.text,
      c.in_ok-write_name-2.ensures.text,
      c.in_ok-write_name.ensures.text,
      c.in_ok-write_accounts.ensures.text,
      c.in_ok-write_word.ensures,
      c.deref.ensures.value,
      c.deref-2.ensures.value,
    )
    (simp (append-nil, lines_text-four, append_assoc))

pub returns-clause-held : goal.returns-clause-held
returns-clause-held c = record {
  mints = subst (λ (mints : List Named). All IsHeld (map named_of mints)) c.deref.ensures.value c.in_ok-write_accounts.ensures.held;
  srm = c.in_ok-write_name.ensures.held;
  msrm = c.in_ok-write_name-2.ensures.held;
  wallets = subst (λ (wallets : List Named). All IsHeld (map named_of wallets)) c.deref-2.ensures.value c.in_ok-write_accounts-2.ensures.held;
  markets = All-nil IsHeldMarket;
}
