-- A stamp owns nothing, so threads may share it.
use denote.Struct.Owning.{shape, to}
use denote.Param.Send.{IsSync, struct_send, whole-keyless}
use Rattle.dex_stamps.specs.contracts.stamp.Stamp.{the_row, the_type}

pub sync : IsSync the_row
sync = record { shared = λ d b o κ q. whole-keyless _ _ (λ x vs. ((struct_send (shape the_type) tt).owned (to the_type x) vs, tt)) q d b o }
