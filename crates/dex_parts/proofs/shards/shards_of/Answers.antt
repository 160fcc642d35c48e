use Rattle.std.proofs.Common.{arith, map, subst, sym, ◌∙◌}
use Rattle.dex_world.proofs.Common.{accounts_of, length-map, market_accounts_of, named_of, row_of}
use Rattle.dex_script_types.specs.PlainScript.{PlainScript}
use Rattle.dex_script_types.specs.ScriptInside.{script_inside}
use Rattle.dex_parts.specs.Sharded.{AreShardsOf}
use Rattle.dex_parts.proofs.ShardedLaws.{own-on, own-shards, own-within}
use Rattle.dex_parts.proofs.shards.shards_of.Goals as goal

pub shards_among-requires-clause-joined : goal.shards_among-requires-clause-joined
shards_among-requires-clause-joined c =
    let inside = c.script.inside in
    own-within (accounts_of inside.start) (map row_of inside.rows) inside.places.items c.deref.result.now c.len-markets.result c.len-wallets.result
    (length-map inside.start.markets.items market_accounts_of ∙ sym (c.len-markets.ensures ∙ inside.start.markets.ok.0)) (length-map inside.start.wallets.items named_of ∙ sym (c.len-wallets.ensures ∙ inside.start.wallets.ok.0))
    c.deref.ensures.value c.script.invariant.1

pub shards_among-requires-clause-on : goal.shards_among-requires-clause-on
shards_among-requires-clause-on c =
    let inside = c.script.inside in
    own-on (accounts_of inside.start) (map row_of inside.rows) inside.places.items c.deref.result.now c.len-markets.result c.len-wallets.result
    (length-map inside.start.markets.items market_accounts_of ∙ sym (c.len-markets.ensures ∙ inside.start.markets.ok.0)) (length-map inside.start.wallets.items named_of ∙ sym (c.len-wallets.ensures ∙ inside.start.wallets.ok.0))
    c.deref.ensures.value c.script.invariant.1

pub returns : goal.returns
returns c =
    let inside = c.script.inside in
    let shards = c.in_ok-shards.shards in
    subst (λ (script : PlainScript). AreShardsOf script shards.markets.items shards.wallets.items shards.rows.items) c.script.view_is
    (own-shards (script_inside inside) inside.places.items c.deref.result.now c.len-markets.result c.len-wallets.result
    (length-map inside.start.markets.items market_accounts_of ∙ sym (c.len-markets.ensures ∙ inside.start.markets.ok.0)) (length-map inside.start.wallets.items named_of ∙ sym (c.len-wallets.ensures ∙ inside.start.wallets.ok.0))
    c.deref.ensures.value c.script.invariant.1 c.script.invariant.2 c.script.invariant.0.rows (omega (arith, c.script.invariant.0.start.accepted.few_wallets, c.script.invariant.0.start.accepted.within.wallets))
    shards.markets.items shards.wallets.items shards.rows.items c.in_ok-shards.ensures.of_markets c.in_ok-shards.ensures.of_wallets c.in_ok-shards.ensures.of_rows)
