use Rattle.std.proofs.Common.{◌≡◌, Ok}
use Rattle.std.specs.List.{AllZip}
use Rattle.dex_report.proofs.writing.written_by.Given as goal

abbrev pub invariant-loop-job : goal.invariant-loop-job
invariant-loop-job l = AllZip (λ job text. job.text ≡ Ok text) l.yielded l.texts.items
