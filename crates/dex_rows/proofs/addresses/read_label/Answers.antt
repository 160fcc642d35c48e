use Rattle.std.proofs.Common.{◌∙◌, arith, refl, sym}
use Rattle.std.proofs.lemmas.List.Folds.{list_all_more}
use Rattle.dex_types.specs.Text.{is_label_character}
use Rattle.dex_rows.proofs.AddressLemmas.{one_written}
use Rattle.dex_rows.proofs.addresses.read_label.Goals as goal

pub label-preserved : goal.label-preserved
label-preserved c =
    let text = c.args.text.now in
    let place = c.label.place in (
      rw (list_all_more is_label_character text place 0 c.label-test.true, c.label.invariant.0, sym c.is_label_character.ensures ∙ c.if-not-is_label_character.false) refl,
      one_written text c.label.address.0 place c.label-test.true (omega arith) c.label.invariant.1,
    )
