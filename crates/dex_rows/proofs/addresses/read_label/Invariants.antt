use Rattle.std.proofs.Common.{◌≡◌, ◌++◌, ◌-◌, replicate, take, true}
use Rattle.std.specs.List.{list_all}
use Rattle.dex_types.specs.Text.{is_label_character}
use Rattle.dex_rows.proofs.addresses.read_label.Given as goal

abbrev pub invariant-label : goal.invariant-label
invariant-label l = (list_all is_label_character (take l.place l.text) ≡ true) × (l.address.0 ≡ take l.place l.text ++ replicate (32 - l.place) 0)
