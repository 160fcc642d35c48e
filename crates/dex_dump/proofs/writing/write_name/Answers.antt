use Rattle.std.proofs.Common.{append_assoc, append-nil, sym}
use Rattle.dex_dump.specs.DumpText.{behind_first, lines_text}
use Rattle.dex_dump.proofs.TextLaws.{lines_text-one}
use Rattle.dex_dump.proofs.writing.write_name.Goals as goal

pub returns-in_default-clause-text : goal.returns-in_default-clause-text
unfolding lines_text
returns-in_default-clause-text c = rw c.in_default.is (sym (append-nil _))

pub returns-clause-text : goal.returns-clause-text
unfolding behind_first
returns-clause-text c =
    rw (c.in_ok-end_row.ensures, c.in_ok-write_address.ensures.text, c.in_ok-write_word.ensures, c.in-Some.is, lines_text-one)
    (simp append_assoc)
