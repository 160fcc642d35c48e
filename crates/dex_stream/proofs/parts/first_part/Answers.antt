use Rattle.std.proofs.Common.{ap, false, subst, sym}
use Rattle.std.proofs.lemmas.Option.{none-some}
use Rattle.dex_script.specs.Begun.{IsBegun, left_in}
use Rattle.dex_script.specs.Pieces.{IsUnderway}
use Rattle.dex_script.specs.Scripts.{ReadsWithin}
use Rattle.dex_stream.proofs.BetweenLaws.{all-read, first-read, so-far}
use Rattle.dex_stream.proofs.parts.first_part.Goals.{In-Ok}
use Rattle.dex_stream.proofs.parts.first_part.Goals as goal

-- the first part is read
first : (c : In-Ok) → IsBegun c.args.limits.now false c.args.bytes.now c.in-Ok.read c.read_rows.new.number c.cut-left.result × IsUnderway c.in-Ok.read
first c =
    let begun = c.in_ok-reader.field-0 in
    first-read c.args.limits.now c.args.bytes.now begun.reader c.in-Ok.read begun.number c.read_rows.new.number begun.rows c.in-Some.all
    c.in-Some-plain.part c.cut-left.new.self c.cut-left.result c.of_plain.result c.in_ok-reader.ensures.told c.in_ok-reader.ensures.underway
    c.in-Some.is c.in-Some-plain.ensures c.cut-left.ensures c.of_plain.ensures c.in-Ok.ensures.told c.in-Ok.ensures.number

pub into_script-requires : goal.into_script-requires
into_script-requires c =
    let begun = c.in_ok-reader.field-0 in
    so-far c.args.limits.now c.args.bytes.now begun.reader begun.number (left_in begun.rows) c.in_ok-reader.ensures.told

pub returns-in_default-clause-first : goal.returns-in_default-clause-first
returns-in_default-clause-first c =
    let begun = c.in_ok-reader.field-0 in
    record {
      whole = λ none.
          subst (ReadsWithin c.args.limits.now false c.args.bytes.now) (sym c.in_ok-script.ensures)
          (all-read c.args.limits.now c.args.bytes.now begun.reader begun.number (left_in begun.rows) (ap left_in c.in_default.is) c.in_ok-reader.ensures.told);
      begins = tt;
    }

pub into_script-requires-2 : goal.into_script-requires-2
into_script-requires-2 c =
    so-far c.args.limits.now c.args.bytes.now c.in-Ok.read c.read_rows.new.number c.cut-left.result (first (goal.at.into_script-requires-2 c).In-Ok).0

pub returns-clause-first : goal.returns-clause-first
returns-clause-first c =
    let all = first (goal.at.returns-clause-first c).In-Ok in
    record {
      whole = λ none. absurd (none-some _ (sym none));
      begins = record {
        draft = c.in-Ok.read;
        begun = all.0;
        underway = all.1;
        is_script = sym c.in_ok-script-2.ensures;
        reader = c.in_ok-reader-2.ensures;
      };
    }
