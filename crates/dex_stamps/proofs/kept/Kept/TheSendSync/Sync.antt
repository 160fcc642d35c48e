-- What is kept owns nothing, so threads may share it.
use denote.RattleType.{RattleType}
use denote.Struct.Owning.{shape, to}
use denote.Param.Send.{IsSend, IsSync, sendable, struct_send, whole-keyless}
use Rattle.dex_stamps.specs.contracts.kept.Kept.{the_row, the_type}

pub sync : (Y : RattleType) → IsSend Y → IsSync (the_row Y)
sync Y y = record { shared = λ d b o κ q. whole-keyless _ _ (λ x vs. ((struct_send (shape (the_type Y)) (search sendable, tt)).owned (to (the_type Y) x) vs, tt)) q d b o }
