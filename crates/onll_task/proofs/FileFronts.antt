-- The lines of an image are those with whose bytes its file begins.

use Rattle.std.proofs.Common.{ℕ, suc, List, [], ◌∷◌, ◌++◌, ◌≡◌, ◌+◌, ◌-◌, length, take, drop, Option, Some, None, refl, sym, ap, ◌∙◌, subst, append_assoc, arith}
use Rattle.std.proofs.lemmas.Grind.{flat_map-append}
use Rattle.std.proofs.lemmas.List.{take-append-drop}
use Rattle.onll_words.specs.Lines.{bytes_of_words}
use Rattle.onll_pmem.specs.Device.{zero_lines}
use Rattle.onll_outside.specs.Views.{StoreView, SameFiles, BeginsWith, with_zeros, image_bytes}
use Rattle.onll_outside.specs.LineFiles.{FrontHasLines, GivesLines}
use Rattle.onll_open.specs.Names.{log_name}
use Rattle.onll_task.specs.Images.{AllBeginWith}
use Rattle.onll_open.specs.Files.{SameBut}

-- ---- bytes
-- bytes begin with those of these lines
record BytesBegin (lines : List (List ℕ)) (bytes : List ℕ) : Type 0 where
  rest : List ℕ
  whole : bytes ≡ image_bytes lines ++ rest

-- so they do with those of the first of these lines
fewer_begin : (lines after image : List (List ℕ)) (bytes : List ℕ) → image ≡ lines ++ after → BytesBegin image bytes → BytesBegin lines bytes
fewer_begin lines after image bytes e h = record {
  rest = image_bytes after ++ h.rest;
  whole = h.whole ∙ ap (λ ls. image_bytes ls ++ h.rest) e ∙ ap (λ bs. bs ++ h.rest) (flat_map-append bytes_of_words lines after) ∙ append_assoc (image_bytes lines) (image_bytes after) h.rest;
}

-- and also where more bytes follow
more_begin : (lines : List (List ℕ)) (bytes after all : List ℕ) → all ≡ bytes ++ after → BytesBegin lines bytes → BytesBegin lines all
more_begin lines bytes after all e h = record {
  rest = h.rest ++ after;
  whole = e ∙ ap (λ bs. bs ++ after) h.whole ∙ append_assoc (image_bytes lines) h.rest after;
}

-- ---- files
-- the file whose lines were read begins with the first of them
pub file_begins : (lines front : List (List ℕ)) (n count limit : ℕ) (name : List ℕ) (store new : StoreView) → lines ≡ take n front → GivesLines store name limit front count → SameFiles store new
    → BeginsWith new name (image_bytes lines)
file_begins lines front n count limit name store new cut gives same on = by (store.file name) refl (gives (sym same.tells ∙ on))
  where
    by : (o : Option (List ℕ)) → store.file name ≡ o → FrontHasLines limit o front count → (rest : List ℕ) × (new.file name ≡ Some (image_bytes lines ++ rest))
    by None e h = absurd h
    by (Some all) e h =
        let part = take limit all in
        let whole : BytesBegin (with_zeros front count) part = record { rest = h.rest; whole = h.whole } in
        let first = fewer_begin front (zero_lines (count - length front)) (with_zeros front count) part refl whole in
        let fewer = fewer_begin (take n front) (drop n front) front part (sym (take-append-drop n front)) first in
        let b = more_begin (take n front) part (drop limit all) all (sym (take-append-drop limit all)) fewer in
        (b.rest, same.file name ∙ (e ∙ ap Some (b.whole ∙ ap (λ ls. image_bytes ls ++ b.rest) (sym cut))))

begins_same : (name front : List ℕ) (store new : StoreView) → SameBut [] store new → BeginsWith store name front → BeginsWith new name front
begins_same name front store new same h on = let b = h (sym same.tells ∙ on) in (b.0, same.file name tt ∙ b.1)

fronts_same : (logs : List ℕ) (t : ℕ) (all : List (List (List ℕ))) (store new : StoreView) → SameBut [] store new → AllBeginWith logs t all store → AllBeginWith logs t all new
fronts_same logs t [] store new same h = tt
fronts_same logs t (lines ∷ all) store new same h = (begins_same (log_name logs t) (image_bytes lines) store new same h.0, fronts_same logs (suc t) all store new same h.1)

fronts_one : (logs : List ℕ) (t last : ℕ) (all : List (List (List ℕ))) (lines : List (List ℕ)) (store : StoreView) → t + length all ≡ last → AllBeginWith logs t all store → BeginsWith store (log_name logs last) (image_bytes lines)
    → AllBeginWith logs t (all ++ lines ∷ []) store
fronts_one logs t last [] lines store e h b = (let same : last ≡ t = omega (arith, e) in subst (λ i. BeginsWith store (log_name logs i) (image_bytes lines)) same b, tt)
fronts_one logs t last (l ∷ all) lines store e h b = (h.0, fronts_one logs (suc t) last all lines store (omega (arith, e)) h.1 b)

-- one file more
pub fronts_more : (logs : List ℕ) (t : ℕ) (all more : List (List (List ℕ))) (lines : List (List ℕ)) (store new : StoreView) → length all ≡ t → SameBut [] store new → AllBeginWith logs 0 all store
    → BeginsWith new (log_name logs t) (image_bytes lines) → more ≡ all ++ lines ∷ [] → AllBeginWith logs 0 more new
fronts_more logs t all more lines store new count same h b e =
    subst (λ ls. AllBeginWith logs 0 ls new) (sym e) (fronts_one logs 0 t all lines new (omega (arith, count)) (fronts_same logs 0 all store new same h) b)
