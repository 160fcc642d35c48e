-- What jobs wrote, put together.
use Rattle.std.proofs.Common.{◌≡◌, ◌∙◌, ◌++◌, ℕ, List, [], ◌∷◌, Ok, IfOk, Vec, Global, ap, append-nil, map, refl, subst, sym, All}
use Rattle.std.specs.List.{AllZip, flat_map}
use Rattle.std.proofs.lemmas.Grind.{flat_map-append}
use Rattle.std.proofs.lemmas.List.{flat_map_more}
use Rattle.std.proofs.lemmas.List.Elements.{All-append, All-nil}
use Rattle.dex_dump.proofs.PieceLaws.{more}
use Rattle.dex_dump.specs.Pieces.{piece_text}
use Rattle.dex_dump.specs.declared.pieces.Piece.{Piece}
use Rattle.dex_report.specs.Parts.{FitPart, WritesParts, part_lines, parts_in, whole}
use Rattle.dex_report.specs.declared.part.Part.{Part}
use Rattle.dex_report.specs.declared.writing.Writing.{Writing}

-- a text in pieces
abbrev pub Text : Type 0
Text = Vec Piece Global

abbrev pub text_of : Text → List ℕ
text_of text = whole text.items

-- what a job wrote
abbrev pub Wrote : Writing → Text → Type 0
Wrote job text = job.text ≡ Ok text

-- the parts of some jobs
abbrev pub parts_of_jobs : List Writing → List Part
parts_of_jobs jobs = parts_in (map (λ (job : Writing). job.parts) jobs)

-- what stands after all of these is what all parts are
pub all-written : (before after : List Writing) (texts : List Text) → AllZip WritesParts before after
    → AllZip Wrote after texts
    → All FitPart (parts_of_jobs before) × (flat_map text_of texts ≡ flat_map part_lines (parts_of_jobs before))
all-written [] [] [] writes wrote = (All-nil FitPart, refl)
all-written [] [] (t ∷ texts) writes wrote = absurd wrote
all-written [] (a ∷ after) texts writes wrote = absurd writes
all-written (b ∷ before) [] texts writes wrote = absurd writes
all-written (b ∷ before) (a ∷ after) [] writes wrote = absurd wrote
all-written (b ∷ before) (a ∷ after) (t ∷ texts) (first, writes) (is, wrote) =
    let rest = all-written before after texts writes wrote in (
      All-append FitPart b.parts.items (parts_of_jobs before) (subst (λ r. IfOk r (λ (text : Text). All FitPart b.parts.items)) is first.fits) rest.0,
      ap (λ (y : List ℕ). y ++ flat_map text_of texts) (subst (λ r. IfOk r (λ (text : Text). text_of text ≡ flat_map part_lines b.parts.items)) is first.text)
          ∙ ap (λ (y : List ℕ). flat_map part_lines b.parts.items ++ y) rest.1
          ∙ sym (flat_map-append part_lines b.parts.items (parts_of_jobs before)),
    )

-- one text more
pub whole-more : (pieces : List Piece) (texts : List Text) (text : Text) → whole pieces ≡ flat_map text_of texts
    → whole (pieces ++ text.items) ≡ flat_map text_of (texts ++ text ∷ [])
whole-more pieces texts text so_far =
    flat_map-append piece_text pieces text.items
    ∙ ap (λ (y : List ℕ). y ++ text_of text) so_far
    ∙ sym (flat_map-append text_of texts (text ∷ []) ∙ ap (λ (y : List ℕ). flat_map text_of texts ++ y) (append-nil (text_of text)))

-- a part more after a text
pub lines-more : (text before all : List ℕ) (parts : List Part) (part : Part) → all ≡ before ++ part_lines part → before ≡ text ++ flat_map part_lines parts
    → all ≡ text ++ flat_map part_lines (parts ++ part ∷ [])
lines-more text before all parts part is was = more _ _ _ (part_lines part) is was ∙ flat_map_more part_lines text parts part
