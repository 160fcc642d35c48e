use Rattle.std.proofs.Common.{◌≡◌, length, replicate, ℕ, List, ap, subst, sym, ◌∙◌}
use Rattle.dex_fields.specs.declared.frame.TheConstants.{END_TEXT, FRONT, FRONT_TEXT}
use Rattle.dex_fields.specs.Bytes.{bytes_in, with_bytes, with_number}
use Rattle.dex_fields.specs.Empty.{empty_account, last_field}
use Rattle.dex_fields.specs.Frame.{IsFramed}
use Rattle.dex_fields.proofs.EmptyLaw.{IsFramed-empty_account, bytes_in-empty_account}
use Rattle.dex_fields.proofs.empty.write_empty_account.Goals as goal

pub returns-clause-bytes : goal.returns-clause-bytes
unfolding empty_account
returns-clause-bytes c =
    let h = c.fill.ensures.after in
    let filled : c.fill.new.self ≡ replicate {A = ℕ} (length c.args.bytes.now) 0 = c.fill.ensures.after (λ y e. e) in
    c.put_u64.ensures.bytes
    ∙ ap (λ (b : List ℕ). with_number b (record { at = 5; len = 8 }) c.args.flags)
    (c.put_piece-2.ensures.bytes
    ∙ ap (λ (b : List ℕ). with_bytes b (last_field (length c.args.bytes.now)) END_TEXT)
    (c.put_piece.ensures.bytes ∙ ap (λ (b : List ℕ). with_bytes b FRONT FRONT_TEXT) filled))

pub returns-clause-framed : goal.returns-clause-framed
returns-clause-framed c =
    subst IsFramed (sym (returns-clause-bytes c)) (IsFramed-empty_account (length c.args.bytes.now) c.args.flags c.requires)

pub returns-clause-zeros : goal.returns-clause-zeros
returns-clause-zeros c field behind before =
    ap (λ (b : List ℕ). bytes_in b field) (returns-clause-bytes c)
    ∙ bytes_in-empty_account (length c.args.bytes.now) c.args.flags c.requires field behind before
