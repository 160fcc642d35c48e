use Rattle.std.proofs.Common.{◌∷◌, codes}
use Rattle.dex_types.specs.Text.{address_text}
use Rattle.dex_dump.specs.DumpText.{base64_text}
use Rattle.dex_dump.proofs.TextLaws.{in-turn}
use Rattle.dex_dump.proofs.writing.write_terms.Goals as goal

pub returns-clause-text : goal.returns-clause-text
returns-clause-text c =
    let m = c.args.market.now in
    rw (
      c.in_ok-write_bytes-3.ensures.text,
      c.in_ok-write_bytes-2.ensures.text,
      c.in_ok-write_bytes.ensures.text,
      c.in_ok-write_address-2.ensures.text,
      c.in_ok-write_address.ensures.text,
      c.in_ok-write_word.ensures,
      c.deref.ensures.value,
      c.deref-2.ensures.value,
      c.deref-3.ensures.value,
    )
    (in-turn c.args.text.now.items (codes "market") (44 ∷ address_text m.address) (44 ∷ address_text m.authority)
    (44 ∷ base64_text m.market.items) (44 ∷ base64_text m.coin_vault.items) (44 ∷ base64_text m.pc_vault.items))
