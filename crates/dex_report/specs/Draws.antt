-- What a made script draws, as a function of the words of PCG's 32-bit generator.
use Rattle.std.specs.Prelude.{ℕ, ◌+◌, ◌*◌, ◌%◌, ◌==◌, nat_le, if◌then◌else◌}
use Rattle.dex_types.specs.declared.terms.OrderType.{OrderType}
use Rattle.dex_types.specs.declared.terms.OrderType.TheVariants.{Limit, Ioc}
use Rattle.dex_types.specs.declared.terms.Side.TheVariants.{Bid, Ask}
use Rattle.dex_report.specs.declared.made_rows.MadeInstruction.{MadeInstruction}
use Rattle.dex_report.specs.declared.made_rows.MadeInstruction.TheVariants.{New, Cancel, Settle}
use Rattle.rand_pcg.specs.Lcg.{Lcg, increment_of, started}
use Rattle.rand_pcg.specs.Pcg.{multiplier_64, pcg32}

-- the generator of a script's number, on stream 1
unfoldable pub generator_of : ℕ → Lcg
generator_of number = started 64 multiplier_64 number (increment_of 64 1)

-- the next word, modulo m
unfoldable pub draw : ℕ → Lcg → ℕ
draw m generator = (pcg32 generator).0 % m

-- the generator after that word
unfoldable pub after_draw : Lcg → Lcg
after_draw generator = (pcg32 generator).1

-- what a row asks for, and the generator after the words that it drew
pub record Drawn : Type 0 where
  pub asked : MadeInstruction
  pub after : Lcg

-- a new order of this type and client id: the side, the price from 90 to 110 and the lots from 1 to 20 are drawn, in
-- this order; it may spend twenty times its lots at its price
abbrev pub drawn_order : OrderType → ℕ → Lcg → Drawn
drawn_order order_type client generator =
    let second = after_draw generator in
    let third = after_draw second in
    let price = 90 + draw 21 second in
    let lots = 1 + draw 20 third in
    record {
      asked = New (if draw 2 generator == 0 then Bid else Ask) price lots (20 * lots * price) order_type client;
      after = after_draw third;
    }

-- a cancel of a client id that an order up to row i may have
abbrev pub drawn_cancel : ℕ → Lcg → Drawn
drawn_cancel i generator = record { asked = Cancel (1 + draw (i + 1) generator); after = after_draw generator }

-- by a number below 10: an order that rests for 0 to 5, one that does not for 6, a cancel for 7, and a settle for 8 and
-- 9
abbrev pub drawn_by : ℕ → ℕ → Lcg → Drawn
drawn_by operation i generator =
    if nat_le operation 5 then drawn_order Limit (i + 1) generator
    else if operation == 6 then drawn_order Ioc (i + 1) generator
    else if operation == 7 then drawn_cancel i generator
    else record { asked = Settle; after = generator }

-- what row i asks for
unfoldable pub drawn : ℕ → Lcg → Drawn
drawn i generator = drawn_by (draw 10 generator) i (after_draw generator)
