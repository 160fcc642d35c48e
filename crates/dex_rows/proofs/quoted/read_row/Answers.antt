use Rattle.std.proofs.Common.{◌≡◌, ◌∙◌, Bool, true, false, IsTrue, List, ℕ, Some, refl, inl}
use Rattle.csv.specs.Reading.{ReadRecord, ReadsNext, default_config, pending_of}
use Rattle.csv.specs.Records.{fields_of}
use Rattle.csv.specs.declared.reader.Reader.{Reader}
use Rattle.std.specs.Borrow.{Bor}
use Rattle.dex_rows.specs.RowReader.{GivesRows, text_left}
use Rattle.dex_rows.proofs.RecordLemmas.{row_read, none_read}
use Rattle.dex_rows.proofs.quoted.read_row.Goals as goal

-- what a read says in terms of the bytes that are left
told_read : (old new : Reader (Bor (List ℕ))) (found known : Bool) (fields : List (List ℕ)) → GivesRows old → found ≡ known
    → ReadRecord (λ (text : Bor (List ℕ)). Some text.now) old new found fields
    → ReadsNext default_config old.state (text_left old) (text_left new) known fields new.state
told_read old new found known fields rows is read =
    let after : text_left new ≡ pending_of (Some new.rdr.now) new = rw read.1 refl in
    rw (after, ← rows.config, ← is) read.0

pub returns : goal.returns
returns c =
    let old = c.args.reader.now in
    let new = c.read_byte_record.new.self in
    let fields = fields_of c.read_byte_record.new.row in
    let found = c.in-Ok.found in
    let rows = c.requires in
    let read = c.in-Ok.ensures.reads rows.trim rows.ready in
    let row = λ (yes : IsTrue found). row_read old.state new.state (text_left old) (text_left new) fields rows.between rows.told (told_read old new found true fields rows yes read) in
    record {
      goes_on = λ yes. record {
        config = read.2 ∙ rows.config;
        trim = read.3 ∙ rows.trim;
        ready = inl (c.in-Ok.ensures.ready rows.trim);
        between = (row yes).between;
        told = (row yes).told;
      };
      row = λ yes. (row yes).rows;
      end = λ no. none_read old.state new.state (text_left old) (text_left new) fields rows.told (told_read old new found false fields rows no read);
    }
