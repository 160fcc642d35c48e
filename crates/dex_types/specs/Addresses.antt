-- When two addresses are the same.
use Rattle.std.specs.Prelude.{Bool}
use Rattle.std.specs.Str.{bytes_eq}
use Rattle.dex_types.specs.declared.addresses.Address.{Address}

-- two addresses have the same 32 bytes
abbrev pub is_same : Address → Address → Bool
is_same a b = bytes_eq a.0 b.0
