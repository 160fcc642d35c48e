-- How many orders client ids name.
use Rattle.std.specs.Prelude.{ℕ, ◌+◌, List, [], ◌∷◌, ◌==◌, if◌then◌else◌}
use Rattle.dex_types.specs.Cancel.{RestingOrder}

-- how many of these orders have a client id
abbrev pub count_of_client : ℕ → List RestingOrder → ℕ
count_of_client client [] = 0
count_of_client client (first ∷ others) =
    if first.order.client == client then count_of_client client others + 1 else count_of_client client others

-- how often a client id is among these
abbrev pub count_among : ℕ → List ℕ → ℕ
count_among client [] = 0
count_among client (first ∷ others) = if first == client then count_among client others + 1 else count_among client others
