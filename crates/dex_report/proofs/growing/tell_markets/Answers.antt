use Rattle.std.proofs.Common.{List, add-one, arith, get_or, map, subst, sym}
use Rattle.std.proofs.lemmas.List.{get_or-map, length-map}
use Rattle.std.proofs.lemmas.Slice.Zip.{AllZip-long}
use Rattle.std.specs.List.{AllZip}
use Rattle.dex_state.specs.Outcomes.{PlainMarketJournal, market_journal_of}
use Rattle.dex_report.specs.Growing.{TellsMarket, market_goes_on}
use Rattle.dex_report.specs.Report.{entry_line}
use Rattle.dex_report.specs.Telling.{FitEntry}
use Rattle.dex_report.proofs.GrowLaws.{all-go-on, one-goes-on, told-on}
use Rattle.dex_report.proofs.growing.tell_markets.Goals as goal

pub loop-place-preserved : goal.loop-place-preserved
loop-place-preserved c = λ told tells.
    let journals : List PlainMarketJournal = map market_journal_of c.args.journals.now in
    let journal : PlainMarketJournal = market_journal_of (get_or c.args.journals.now c.loop-place.place c.index-journals-place.result) in
    let is = c.in_ok-tell.ensures in
    rw add-one
    (one-goes-on TellsMarket market_goes_on c.loop-place.texts told journals c.loop-place.place c.index-texts-place.result c.tell.new.self journal
    (c.loop-place.invariant told tells) (omega arith) (omega (arith, length-map c.args.journals.now market_journal_of))
    (sym (get_or-map market_journal_of c.args.journals.now c.loop-place.place c.index-journals-place.result journal (omega arith)))
    (λ (b : PlainMarketJournal) before.
    told-on FitEntry entry_line (get_or c.loop-place.texts c.loop-place.place c.index-texts-place.result) c.tell.new.self b.address b.entries journal.entries before is.address
    (rw c.deref.ensures.value at is.count) (rw c.deref.ensures.value at is.fits) (rw c.deref.ensures.value at is.text)))

pub returns : goal.returns
returns c = λ told tells.
    let journals : List PlainMarketJournal = map market_journal_of c.args.journals.now in
    subst (AllZip TellsMarket c.loop-place.texts)
    (all-go-on market_goes_on c.loop-place.place told journals
    (omega (arith, AllZip-long TellsMarket c.args.texts.now told tells, length-map c.args.journals.now market_journal_of, c.min-place-end.ensures)))
    (c.loop-place.invariant told tells)
