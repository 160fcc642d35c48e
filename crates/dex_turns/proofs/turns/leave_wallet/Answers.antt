use Rattle.std.proofs.Common.{◌≡◌, ◌++◌, ◌∷◌, [], ℕ, Some, sym, ap, ◌∙◌, subst}
use Rattle.dex_world.proofs.Common.{WalletEntry}
use Rattle.dex_turns.proofs.Common.{AddsOne, AwayView, BankWalletState, Extends, Idle, IsBankWallet, MayLeave, PassView, Stamped, TurnView, WalletOrigin, added, left_by, wallet_entries}
use Rattle.dex_turns.proofs.LeavingTurns.{comes-back, has-left, put_back, wallet-adds}
use Rattle.dex_turns.specs.Submitted.{Written}
use Rattle.dex_turns.proofs.turns.leave_wallet.Goals as goal

pub with-wallet-requires-clause-entry : goal.with-wallet-requires-clause-entry
with-wallet-requires-clause-entry c =
    comes-back c.requires.entry.0 c.args.gate.now c.args.pass.now c.args.trail c.args.cell c.requires.entry.2

-- the wallet that is put back
put : (c : goal.After-put) (written : Written) (same : written.stamp ≡ c.args.stamp.now.number) (may : MayLeave written c.args.gate.now c.args.pass.now c.args.trail c.args.cell)
    → c.with-wallet.result ≡ put_back written c.args.trail c.args.cell may.entry
put c written same may =
    c.with-wallet.ensures.wallet
    ∙ ap (λ (n : ℕ). record { cell = c.args.cell; stamps = c.args.trail.stamps ++ n ∷ []; last = n; script = c.args.trail.script }) (sym same)

kept : (c : goal.After-put) (written : Written) (same : written.stamp ≡ c.args.stamp.now.number) (may : MayLeave written c.args.gate.now c.args.pass.now c.args.trail c.args.cell)
    → IsBankWallet (put_back written c.args.trail c.args.cell may.entry)
kept c written same may = subst IsBankWallet (put c written same may) c.with-wallet.ensures.kept

abbrev Turn : Type 0
Turn = TurnView BankWalletState (Stamped WalletEntry) WalletOrigin

-- the turn with the wallet
turn-is : (c : goal.After-put) (whole : BankWalletState) → c.with-wallet.result ≡ whole → c.put.result
    ≡ record { gate = Some c.args.gate.now; number = c.args.pass.now.number; start = wallet_entries (left_by c.args.trail); value = whole }
turn-is c whole is =
    let turn_of : AwayView (Stamped WalletEntry) WalletOrigin → BankWalletState → Turn =
    λ away wallet. record { gate = away.gate; number = away.number; start = away.start; value = wallet } in
    c.put.ensures ∙ ap (λ (a : AwayView (Stamped WalletEntry) WalletOrigin). turn_of a c.with-wallet.result) c.requires.away ∙ ap (turn_of _) is

pub leave-requires-clause-entry : goal.leave-requires-clause-entry
leave-requires-clause-entry c =
    let written : Written = c.requires.entry.0 in
    let may : MayLeave written c.args.gate.now c.args.pass.now c.args.trail c.args.cell = c.requires.entry.2 in
    subst (λ (t : Turn). AddsOne (λ (e : Stamped WalletEntry). e.item.lane) c.args.pass.now.number t.start (wallet_entries t.value))
    (sym (turn-is c (put_back written c.args.trail c.args.cell may.entry) (put c written c.requires.entry.1 may)))
    (wallet-adds written c.args.trail c.args.cell may.entry c.args.pass.now.number (kept c written c.requires.entry.1 may) may.number)

pub returns : goal.returns
returns c = λ written same may.
    let Pass : Type 0 = PassView (Stamped WalletEntry) WalletOrigin in
    let pass_of : Turn → Pass = λ t.
    record c.args.pass.now { seen = wallet_entries t.value; mine = c.args.pass.now.mine ++ added t.start (wallet_entries t.value); stage = Idle } in
    let whole : BankWalletState = put_back written c.args.trail c.args.cell may.entry in
    let is = turn-is c.before whole (put c.before written same may) in
    has-left written c.args.trail c.args.cell may.entry c.args.pass.now c.leave.new.pass (kept c.before written same may) (c.leave.ensures.pass ∙ ap pass_of is)
    (subst (λ (t : Turn). Extends c.args.pass.now.seen (wallet_entries t.value)) is c.leave.ensures.seen)
