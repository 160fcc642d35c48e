-- The client ids in instruction data.
use Rattle.std.specs.Prelude.{ℕ, ◌-◌, ◌/◌, List, ◌++◌, length, replicate, min, max}
use Rattle.dex_types.specs.declared.client_ids.ClientIds.{ClientIds}
use Rattle.dex_instruction.specs.Numbers.{numbers_at}
use Rattle.dex_instruction.specs.IdFacts.{is_some, is_at_most_eight, is_zero_behind}

-- how many client ids the data has after its tag; from one to eight
abbrev pub id_count : List ℕ → ℕ
id_count bytes = max 1 (min 8 ((length bytes - 5) / 8))

-- those ids, and zeros after them
abbrev pub padded_ids : List ℕ → List ℕ
padded_ids bytes = numbers_at (id_count bytes) 5 bytes ++ replicate (8 - id_count bytes) 0

-- the client ids that the data has
unfoldable pub ids_in : List ℕ → ClientIds
ids_in bytes = record {
  ids = padded_ids bytes;
  count = id_count bytes;
  some = is_some _;
  at_most_eight = is_at_most_eight _;
  zeros_behind = is_zero_behind _ _ _;
}
