-- Instructions that are processed one after the other are a legal history.
use Rattle.std.proofs.Common.{◌≡◌, List, [], ◌∷◌, map, refl, sym, ap, subst, ◌∙◌}
use Rattle.dex_accounts.specs.Decoded.{market_in}
use Rattle.dex_history.specs.Journal.{Call, IsLegal, Stands, asked_step, market_after, step_of}
use Rattle.dex_history.proofs.HeldLaws.{own-stands, own-step}
use Rattle.dex_history.proofs.PriceLaws.{decoded-priced}
use Rattle.dex_process.specs.Histories.{AreProcessed, Done, IsDone, IsProcessed, Processed, call_of, calls_of, left_by, processed_as, seen_in}
use Rattle.dex_process.specs.Process as process
use Rattle.dex_purse.proofs.PurseLaws.{seen-by}
use Rattle.dex_types.specs.declared.replies.Reply.{Reply}
use Rattle.dex_types.specs.Market.{Market}
use Rattle.dex_types.specs.Requests.{HasPrice, Request}
use Rattle.dex_types.specs.Steps.{Step, step}

stands-on : (one : Processed) (m : Market) → IsProcessed one m → Stands (call_of one m) m
stands-on one m is = own-stands (call_of one m) m is.market is.price is.sees refl

-- the market after its call is the one that it left
left-on : (one : Processed) (m : Market) → IsProcessed one m → (step_of (call_of one m) m).market ≡ one.left
left-on one m is = ap (λ (s : Step). s.market) (own-step (call_of one m) m m refl) ∙ sym is.left

pub legal-history : (m : Market) (all : List Processed) → AreProcessed m all → IsLegal m (calls_of m all)
legal-history m [] all = tt
legal-history m (one ∷ others) all =
    (stands-on one m all.0, subst (λ (after : Market). IsLegal after (calls_of one.left others)) (sym (left-on one m all.0)) (legal-history one.left others all.1))

pub history-left : (m : Market) (all : List Processed) → AreProcessed m all → market_after m (calls_of m all) ≡ left_by m all
history-left m [] all = refl
history-left m (one ∷ others) all =
    ap (λ (after : Market). market_after after (calls_of one.left others)) (left-on one m all.0) ∙ history-left one.left others all.1

pub history-replies : (m : Market) (all : List Processed) → AreProcessed m all
    → map (λ (call : Call). call.entry.reply) (calls_of m all) ≡ map (λ (one : Processed). one.reply) all
history-replies m [] all = refl
history-replies m (one ∷ others) all =
    ap (λ (reply : Reply). reply ∷ map (λ (call : Call). call.entry.reply) (calls_of one.left others)) (sym all.0.reply)
    ∙ ap (λ (replies : List Reply). one.reply ∷ replies) (history-replies one.left others all.1)

-- what was done on lent accounts is one of a sequence
pub was-processed : (one : Done) → IsDone one → IsProcessed (processed_as one) (market_in one.before.accounts)
was-processed one is =
    let same : asked_step one.asked (seen_in one) (market_in one.before.accounts) ≡ process.step_of one.ask (seen_in one) one.before.accounts =
    ap (λ (request : Request). step request (seen_in one) (market_in one.before.accounts)) is.request in
    record {
      market = is.market;
      price = subst (λ (request : Request). HasPrice request.instruction) (sym is.request) (decoded-priced one.ask.data.now);
      sees = seen-by one.asked one.roles one.before.wallets (seen_in one) is.names (record { coin = refl; pc = refl; discount = refl; referrer = refl }) is.apart;
      reply = is.processed.acted.reply_is ∙ ap (λ (s : Step). s.reply) (sym same);
      left = is.processed.acted.market ∙ ap (λ (s : Step). s.market) (sym same);
    }
