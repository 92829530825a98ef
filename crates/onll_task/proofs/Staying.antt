-- The lines that decide what an image holds stand for it.

use Rattle.std.proofs.Common.{ℕ, ◌≡◌, ◌-◌, ◌≤◌, List, [], length, take, sym, ◌∙◌, subst, arith}
use Rattle.std.specs.Prelude.{IsSome}
use Rattle.std.proofs.lemmas.List.{length-take}
use Rattle.onll_log.specs.Grammar.{content_of, format_in}
use Rattle.onll_log.specs.Tested.{used_in}
use Rattle.onll_log.proofs.Deciding.{is_cut, content_zeros, front_format}
use Rattle.onll_outside.specs.Views.{with_zeros}
use Rattle.onll_task.specs.Images.{Decides}

-- the lines that decide what an image holds stand for it
stands_cut : (image : List (List ℕ)) → Decides (take (used_in (content_of image)) image) image
stands_cut image = let c = is_cut image in
    record { content = c.content; format = c.format; few = omega (arith, length-take (used_in (content_of image)) image) }

-- those of an image's front do too, where only zeros follow it, and it has a line if the image has one
pub stands_front : (lines front : List (List ℕ)) (count : ℕ) → (front ≡ [] → count ≡ 0) → lines ≡ take (used_in (content_of front)) front → Decides lines (with_zeros front count)
stands_front lines front count least cut =
    let s : Decides lines front = subst (λ ls. Decides ls front) (sym cut) (stands_cut front) in
    let zeros = count - length front in
    let empty : front ≡ [] → zeros ≡ 0 = λ e. let none = least e in omega (arith, none) in
    let content : content_of front ≡ content_of (with_zeros front count) = sym (content_zeros zeros front empty) in
    let format : format_in front ≡ format_in (with_zeros front count) = sym (front_format zeros front empty) in
    record {
      content = s.content ∙ content;
      format = λ known. s.format (subst IsSome (sym content) known) ∙ format;
      few = subst (λ o. length lines ≤ used_in o) content s.few;
    }
