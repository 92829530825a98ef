-- What images hold, before they are merged.
use Rattle.std.proofs.Common.{ℕ, List, [], ◌∷◌, ◌≡◌, drop, is_some, refl, ap, ◌∙◌}
use Rattle.onll_model.specs.Segment.{Segment}
use Rattle.onll_log.specs.Cursor.{CursorState, first_view, lines_passed, entries_left}
use Rattle.onll_open.specs.Misfits.{are_some}

some_by : (line : ℕ) (entries : List Segment) → is_some (first_view line (drop 0 entries)) ≡ are_some entries
some_by line [] = refl
some_by line (s ∷ ss) = refl

-- a cursor before the first entry shows one where there is one
pub first_some : (c : CursorState) → c.passed ≡ 0 → is_some (first_view (lines_passed c) (entries_left c)) ≡ are_some c.content.entries
first_some c e = ap (λ k. is_some (first_view (lines_passed c) (drop k c.content.entries))) e ∙ some_by (lines_passed c) c.content.entries
