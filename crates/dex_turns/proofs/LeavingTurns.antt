-- What a turn leaves: the journal with one entry more, and the pass that has made it.
use Rattle.std.proofs.Common.{◌≡◌, ℕ, ◌<◌, ◌==◌, Bool, true, cond, List, [], ◌∷◌, ◌++◌, length, sym, ap, ◌∙◌, subst, arith, refl}
use Rattle.dex_world.proofs.Common.{Address, Call, IsLegal, IsWalletLegal, PlainAccount, PlainMarketAccounts, WalletEntry, eq-eqb}
use Rattle.dex_turns.proofs.Common.{AddsOne, BankMarketState, BankWalletState, CellState, Extends, GateView, HasCall, HasCalled, HasEntry, HasLeft, Idle, IsBankWallet, MarketOrigin, MayLeave, PassView, Stamped, TrailState, WalletOrigin, added, balance_of, entries_by, left_by, market_calls, market_in, of_lane, rows_of_wallet, stamped, wallet_entries}
use Rattle.std.proofs.lemmas.List.{length-append}
use Rattle.std.proofs.Math.Seq.{drop-append_seam}
use Rattle.dex_gate.specs.declared.stage.Stage.{Stage}
use Rattle.dex_stamps.specs.Stamped.{items_of}
use Rattle.dex_turns.specs.Submitted.{HasMade, HasWritten, Written, grown}
use Rattle.dex_journals.specs.Journals.{MayComeBack}
use Rattle.dex_journals.proofs.MarketLaws.{items_of-calls}
use Rattle.dex_journals.proofs.StampedLists.{stamped-more}
use Rattle.dex_journals.proofs.WalletLaws.{items_of-entries}

-- ---- one entry more

module _ {E : Type 0} where
  pub adds-one : (lane : E → ℕ) (number : ℕ) (before after : List E) (entry : E) → after ≡ before ++ entry ∷ [] → lane entry ≡ number → AddsOne lane number before after
  adds-one lane number before after entry is same =
      let new : added before after ≡ entry ∷ [] = ap (added before) is ∙ drop-append_seam before (entry ∷ []) in
      let own : (lane entry == number) ≡ true = eq-eqb (lane entry) number same in (
        ap (λ (l : List E). before ++ l) new ∙ sym is,
        ap length is ∙ length-append before (entry ∷ []),
        ap (of_lane lane number) new ∙ ap (λ (b : Bool). cond b (entry ∷ []) []) own ∙ sym new,
      )

  -- a pass whose turn was drawn and left, with what the turn added
  pub has-made : {O : Type 0} (pass left : PassView E O) (old all new : List E) (Legal : List E → Type 0) → pass.stage ≡ Idle → all ≡ old ++ new
      → left ≡ record pass { seen = all; mine = pass.mine ++ new; stage = Idle } → Extends pass.seen all → Legal all → HasMade new Legal pass left
  has-made pass left old all new Legal idle is left_is seen legal =
      let all_is : left.seen ≡ all = ap (λ (p : PassView E _). p.seen) left_is in
      record {
        pass = left_is ∙ ap (λ (s : Stage E). record pass { seen = all; mine = pass.mine ++ new; stage = s }) (sym idle) ∙ ap (λ (l : List E). grown pass l new) (sym all_is);
        seen = subst (Extends pass.seen) (sym all_is) seen;
        earlier = old;
        last = all_is ∙ is;
        legal = subst Legal (sym all_is) legal;
      }

-- ---- a wallet

-- what is given back
module _ (written : Written) (trail : TrailState) (cell : CellState) (entry : HasEntry written trail.before cell) where
  abbrev pub put_back : BankWalletState
  put_back = record { cell = cell; stamps = trail.stamps ++ written.stamp ∷ []; last = written.stamp; script = trail.script }

  counted-before : IsBankWallet put_back → length trail.stamps ≡ length trail.before.entries
  counted-before kept =
      omega (
        arith,
        kept.counted,
        length-append trail.stamps (written.stamp ∷ []),
        ap length entry.entries,
        length-append trail.before.entries (entry.entry ∷ []),
      )

  -- its journal has the item's entry after the others
  pub entries-put : IsBankWallet put_back → wallet_entries put_back ≡ wallet_entries (left_by trail) ++ written.at trail.before.address
  entries-put kept =
      ap (λ (l : List WalletEntry). stamped l (trail.stamps ++ written.stamp ∷ [])) entry.entries
      ∙ stamped-more trail.before.entries trail.stamps entry.entry written.stamp (counted-before kept)
      ∙ ap (λ (l : List (Stamped WalletEntry)). wallet_entries (left_by trail) ++ l) (sym entry.is)

  pub wallet-adds : (number : ℕ) → IsBankWallet put_back → written.lane ≡ number
      → AddsOne (λ (e : Stamped WalletEntry). e.item.lane) number (wallet_entries (left_by trail)) (wallet_entries put_back)
  wallet-adds number kept same =
      adds-one (λ (e : Stamped WalletEntry). e.item.lane) number (wallet_entries (left_by trail)) (wallet_entries put_back) (record { item = entry.entry; stamp = written.stamp })
      (entries-put kept ∙ ap (λ (l : List (Stamped WalletEntry)). wallet_entries (left_by trail) ++ l) entry.is) (entry.lane ∙ same)

  pub has-left : (before after : PassView (Stamped WalletEntry) WalletOrigin) → IsBankWallet put_back
      → after ≡ record before { seen = wallet_entries put_back; mine = before.mine ++ added (wallet_entries (left_by trail)) (wallet_entries put_back); stage = Idle }
      → Extends before.seen (wallet_entries put_back) → HasLeft written trail before after
  has-left before after kept left seen =
      let old : List (Stamped WalletEntry) = wallet_entries (left_by trail) in
      let made : List (Stamped WalletEntry) = written.at trail.before.address in
      let Pass : Type 0 = PassView (Stamped WalletEntry) WalletOrigin in
      let left_with : List (Stamped WalletEntry) → List (Stamped WalletEntry) → Pass = λ all new. record before { seen = all; mine = before.mine ++ new; stage = Idle } in
      record {
        pass = left ∙ ap (λ (l : List (Stamped WalletEntry)). left_with l (added old l)) (entries-put kept) ∙ ap (left_with (old ++ made)) (drop-append_seam old made);
        seen = subst (Extends before.seen) (entries-put kept) seen;
        legal =
            subst (λ (l : List (Stamped WalletEntry)). IsWalletLegal (balance_of trail.before.start) (items_of l)) (entries-put kept)
            (subst (IsWalletLegal (balance_of trail.before.start)) (sym (items_of-entries put_back kept.counted))
            (subst (λ (c : CellState). IsWalletLegal (balance_of c.start) cell.entries) entry.made kept.cell.legal));
      }

-- what may be put back
pub comes-back : (written : Written) (gate : GateView (Stamped WalletEntry) WalletOrigin) (pass : PassView (Stamped WalletEntry) WalletOrigin) (trail : TrailState)
    (cell : CellState) → MayLeave written gate pass trail cell → MayComeBack trail cell
comes-back written gate pass trail cell may = record {
  adds = record { entry = may.entry.entry; entries = may.entry.entries; made = may.entry.made };
  lane =
      subst (λ (lane : ℕ). entries_by lane trail.before.entries < length (rows_of_wallet lane trail.before.address trail.script.rows)) (sym may.entry.lane)
      may.lane;
}

-- ---- a market

module _ {call : Stamped Call} {before after : BankMarketState} (has : HasCall call before after) where
  counted-market : length before.stamps ≡ length before.cell.calls
  counted-market =
      omega (
        arith,
        has.kept.counted,
        ap length has.stamps,
        length-append before.stamps (call.stamp ∷ []),
        ap length has.calls,
        length-append before.cell.calls (call.item ∷ []),
      )

  pub calls-after : market_calls after ≡ market_calls before ++ call ∷ []
  calls-after =
      ap (λ (l : List Call). stamped l after.stamps) has.calls
      ∙ ap (stamped (before.cell.calls ++ call.item ∷ [])) has.stamps
      ∙ stamped-more before.cell.calls before.stamps call.item call.stamp counted-market

  pub market-adds : (number : ℕ) → call.item.asked.lane ≡ number
      → AddsOne (λ (c : Stamped Call). c.item.asked.lane) number (market_calls before) (market_calls after)
  market-adds number same = adds-one (λ (c : Stamped Call). c.item.asked.lane) number (market_calls before) (market_calls after) call calls-after same

  pub has-called : (start : PlainMarketAccounts) (pass left : PassView (Stamped Call) MarketOrigin) → before.cell.start ≡ start
      → pass.stage ≡ Idle → left ≡ record pass { seen = market_calls after; mine = pass.mine ++ added (market_calls before) (market_calls after); stage = Idle }
      → Extends pass.seen (market_calls after) → HasCalled call start pass left
  has-called start pass left from idle is seen =
      let new : added (market_calls before) (market_calls after) ≡ call ∷ [] =
      ap (added (market_calls before)) calls-after ∙ drop-append_seam (market_calls before) (call ∷ []) in
      has-made pass left (market_calls before) (market_calls after) (call ∷ []) (λ (seen : List (Stamped Call)). IsLegal (market_in start) (items_of seen)) idle calls-after
      (is ∙ ap (λ (made : List (Stamped Call)). record pass { seen = market_calls after; mine = pass.mine ++ made; stage = Idle }) new) seen
      (subst (IsLegal (market_in start)) (sym (items_of-calls after has.kept.counted))
      (subst (λ (s : PlainMarketAccounts). IsLegal (market_in s) after.cell.calls) (has.start ∙ from) has.kept.cell.legal))

-- ---- from where the wallet's turn was drawn

-- a turn that was drawn, taken and left
pub has-moved : (written : Written) (start : PlainAccount) (trail : TrailState) (before out left : PassView (Stamped WalletEntry) WalletOrigin) (stage : Stage (Stamped WalletEntry))
    → before.stage ≡ Idle → out ≡ record before { stage = stage } → HasLeft written trail out left → trail.before.address ≡ start.address → trail.before.start ≡ start.bytes
    → HasWritten written start before left
has-moved written start trail before out left stage idle is has address bytes =
    let old : List (Stamped WalletEntry) = wallet_entries (left_by trail) in
    let made : List (Stamped WalletEntry) = written.at trail.before.address in
    let Legal : List ℕ → List (Stamped WalletEntry) → Type 0 = λ bytes seen. IsWalletLegal (balance_of bytes) (items_of seen) in
    let Pass : Type 0 = PassView (Stamped WalletEntry) WalletOrigin in
    subst (λ (a : Address). HasMade (written.at a) (Legal start.bytes) before left) address
    (subst (λ (b : List ℕ). HasMade made (Legal b) before left) bytes
    (has-made before left old (old ++ made) made (Legal trail.before.start) idle refl
    (has.pass ∙ ap (λ (p : Pass). record p { seen = old ++ made; mine = p.mine ++ made; stage = Idle }) is)
    (subst (λ (l : List (Stamped WalletEntry)). Extends l (old ++ made)) (ap (λ (p : Pass). p.seen) is) has.seen) has.legal))
