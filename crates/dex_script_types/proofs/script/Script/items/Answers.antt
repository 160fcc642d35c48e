use Rattle.std.proofs.Common.{◌∙◌, ap, arith, length, map}
use Rattle.dex_types.specs.Rows.{row_of}
use Rattle.dex_world.specs.Items.{items_of}
use Rattle.dex_script_types.specs.Places.{items_at}
use Rattle.dex_script_types.specs.PlainScript.{PlainScript}
use Rattle.dex_script_types.proofs.ItemCounts.{items-beside}
use Rattle.dex_script_types.proofs.script.Script.items.Goals as goal

pub items_among-requires : goal.items_among-requires
items_among-requires c =
    let inside = c.self.inside in
    record {
      few =
          omega (
            arith,
            ap items_at c.deref.ensures.value,
            items-beside (map row_of inside.rows) inside.places.items c.self.invariant.2,
            c.self.invariant.0.rows.few,
            c.self.invariant.0.start.accepted.within.items,
          );
    }

pub returns : goal.returns
returns c =
    let inside = c.self.inside in
    c.items_among.ensures
    ∙ ap items_at c.deref.ensures.value
    ∙ items-beside (map row_of inside.rows) inside.places.items c.self.invariant.2
    ∙ ap (λ (script : PlainScript). length (items_of script.rows)) c.self.view_is
