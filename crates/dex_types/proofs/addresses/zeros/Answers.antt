use Rattle.std.proofs.Common.{eqb, arith, w8}
use Rattle.std.proofs.lemmas.Simd.{bitmask_splat}
use Rattle.dex_types.proofs.addresses.zeros.Goals as goal

pub returns : goal.returns
returns c = bitmask_splat w8 eqb c.args.bytes 32 0 c.fits-bytes.0 (omega arith)
