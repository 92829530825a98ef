-- Lines are read back from the bytes of their file.

use Rattle.std.proofs.Common.{ℕ, ◌≡◌, ◌/◌, ◌<◌, List, [], ◌++◌, length, length-append, map, ap, ◌∙◌, arith}
use Rattle.std.specs.List.{AllByRecursion}
use Rattle.std.specs.Simd.{first_chunks}
use Rattle.onll_words.specs.Lines.{words_of_bytes}
use Rattle.onll_outside.specs.Views.{image_bytes}
use Rattle.onll_outside.specs.LineFiles.{IsWholeLine}
use Rattle.onll_log.specs.ImageFile.{whole_lines}
use Rattle.onll_outside.proofs.WholeLines.{chunks_back, length-image_bytes}

-- the whole lines of bytes that begin with those of lines are those lines, where less than a line follows
pub whole_back : (lines : List (List ℕ)) (rest : List ℕ) → AllByRecursion IsWholeLine lines → length rest < 64
    → whole_lines (image_bytes lines ++ rest) ≡ lines
whole_back lines rest each short =
    let long = length-image_bytes lines each in
    let all = length-append (image_bytes lines) rest in
    let count : length (image_bytes lines ++ rest) / 64 ≡ length lines = omega (arith, long, all, short) in
    ap (λ n. map words_of_bytes (first_chunks 64 n (image_bytes lines ++ rest))) count ∙ chunks_back lines rest each
