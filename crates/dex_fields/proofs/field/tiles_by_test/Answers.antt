use Rattle.dex_fields.proofs.TilingLaw.{tile_from_test}
use Rattle.dex_fields.proofs.field.tiles_by_test.Goals as goal

pub returns : goal.returns
returns g c = tile_from_test c.args.layout.now.fields c.args.layout.now.size c.requires
