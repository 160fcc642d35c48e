use Rattle.dex_match.proofs.deciding.decide_order.Goals as goal

pub decide_with-requires-clause-given : goal.decide_with-requires-clause-given
decide_with-requires-clause-given g c =
    rw (
      c.gathered-input.ensures.market,
      c.gathered-input.ensures.requests,
      c.gathered-input.ensures.ring,
      c.gathered-input.ensures.orders,
      c.gathered-input.ensures.own,
      c.gathered-input.ensures.opposite,
    ) c.requires.given
