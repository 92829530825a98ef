-- The images of files are read, one thread after the other.
use Rattle.std.proofs.Common.{ℕ, suc, Bool, true, false, List, [], ◌∷◌, ◌++◌, ◌≡◌, ◌+◌, ◌-◌, ◌≤◌, inl, inr, length, map, take, drop, Option, Some, None, refl, sym, ap, ◌∙◌, subst, append_assoc, arith}
use Rattle.std.specs.Option.{is_some}
use Rattle.std.specs.List.{AllByRecursion}
use Rattle.std.proofs.lemmas.Grind.{flat_map-append}
use Rattle.std.proofs.lemmas.List.{take-append-drop, length-take}
use Rattle.onll_words.specs.Lines.{bytes_of_words}
use Rattle.onll_pmem.specs.Device.{zero_lines}
use Rattle.onll_log.specs.Grammar.{content_of}
use Rattle.onll_log.specs.ImageFile.{longest_image}
use Rattle.onll_log.specs.Tested.{used_in}
use Rattle.onll_log.proofs.Deciding.{is_cut, content_zeros}
use Rattle.onll_outside.specs.Views.{StoreView, SameFiles, BeginsWith, with_zeros, image_bytes}
use Rattle.onll_outside.specs.LineFiles.{FrontHasLines, GivesLines, IsWholeLine}
use Rattle.onll_open.specs.Names.{log_name}
use Rattle.onll_open.specs.Devices.{front_by}
use Rattle.onll_open.specs.Files.{is_made, FileIsMade, HasLogLines, HoldsLogImage, FilesHold, StandsFor, StandFor, BeginsAs, FilesBegin, IsRead, AreRead, front_in}
use Rattle.onll_open.specs.Misfits.{head_in}

-- ---- lines that stand for an image
stands_cut : (image : List (List ℕ)) → StandsFor (take (used_in (content_of image)) image) image
stands_cut image = let c = is_cut image in record { content = c.content; few = omega (arith, length-take (used_in (content_of image)) image) }

pub stands_front : (lines front : List (List ℕ)) (count : ℕ) → (front ≡ [] → count ≡ 0) → lines ≡ take (used_in (content_of front)) front → StandsFor lines (with_zeros front count)
stands_front lines front count least cut =
    let s : StandsFor lines front = subst (λ ls. StandsFor ls front) (sym cut) (stands_cut front) in
    let zeros = count - length front in
    let empty : front ≡ [] → zeros ≡ 0 = λ e. let none = least e in omega (arith, none) in
    let content : content_of front ≡ content_of (with_zeros front count) = sym (content_zeros zeros front empty) in
    record { content = s.content ∙ content; few = subst (λ o. length lines ≤ used_in o) content s.few }

-- ---- bytes
-- bytes begin with those of these lines
record BytesBegin (lines : List (List ℕ)) (bytes : List ℕ) : Type 0 where
  rest : List ℕ
  whole : bytes ≡ image_bytes lines ++ rest

fewer_begin : (lines after image : List (List ℕ)) (bytes : List ℕ) → image ≡ lines ++ after → BytesBegin image bytes → BytesBegin lines bytes
fewer_begin lines after image bytes e h = record {
  rest = image_bytes after ++ h.rest;
  whole = h.whole ∙ ap (λ ls. image_bytes ls ++ h.rest) e ∙ ap (λ bs. bs ++ h.rest) (flat_map-append bytes_of_words lines after) ∙ append_assoc (image_bytes lines) (image_bytes after) h.rest;
}

more_begin : (lines : List (List ℕ)) (bytes after all : List ℕ) → all ≡ bytes ++ after → BytesBegin lines bytes → BytesBegin lines all
more_begin lines bytes after all e h = record {
  rest = h.rest ++ after;
  whole = e ∙ ap (λ bs. bs ++ after) h.whole ∙ append_assoc (image_bytes lines) h.rest after;
}

-- the file whose lines were read begins with the first of them
pub file_begins : (lines front : List (List ℕ)) (n count limit : ℕ) (name : List ℕ) (store : StoreView) → lines ≡ take n front → GivesLines store name limit front count → BeginsWith store name (image_bytes lines)
file_begins lines front n count limit name store cut gives on = by (store.file name) refl (gives on)
  where
    by : (o : Option (List ℕ)) → store.file name ≡ o → FrontHasLines limit o front count → (rest : List ℕ) × (store.file name ≡ Some (image_bytes lines ++ rest))
    by None e h = absurd h
    by (Some all) e h =
        let part = take limit all in
        let whole : BytesBegin (with_zeros front count) part = record { rest = h.rest; whole = h.whole } in
        let first = fewer_begin front (zero_lines (count - length front)) (with_zeros front count) part refl whole in
        let fewer = fewer_begin (take n front) (drop n front) front part (sym (take-append-drop n front)) first in
        let b = more_begin (take n front) part (drop limit all) all (sym (take-append-drop limit all)) fewer in
        (b.rest, e ∙ ap Some (b.whole ∙ ap (λ ls. image_bytes ls ++ b.rest) (sym cut)))

-- ---- one file after the other
hold_more : (logs : List ℕ) (t last : ℕ) (images : List (List (List ℕ))) (image : List (List ℕ)) (store : StoreView) → t + length images ≡ last → FilesHold logs t images store → HoldsLogImage store (log_name logs last) image
    → FilesHold logs t (images ++ image ∷ []) store
hold_more logs t last [] image store e h k = (let same : last ≡ t = omega (arith, e) in subst (λ i. HoldsLogImage store (log_name logs i) image) same k, tt)
hold_more logs t last (x ∷ images) image store e h k = (h.0, hold_more logs (suc t) last images image store (omega (arith, e)) h.1 k)

begin_more : (logs : List ℕ) (t last : ℕ) (all : List (List (List ℕ))) (lines : List (List ℕ)) (store : StoreView) → t + length all ≡ last → FilesBegin logs t (map front_in all) store → BeginsAs store (log_name logs last) (front_in lines)
    → FilesBegin logs t (map front_in (all ++ lines ∷ [])) store
begin_more logs t last [] lines store e h b = (let same : last ≡ t = omega (arith, e) in subst (λ i. BeginsAs store (log_name logs i) (front_in lines)) same b, tt)
begin_more logs t last (l ∷ all) lines store e h b = (h.0, begin_more logs (suc t) last all lines store (omega (arith, e)) h.1 b)

pub stand_more : (lines images : List (List (List ℕ))) (l image : List (List ℕ)) → StandFor lines images → StandsFor l image → StandFor (lines ++ l ∷ []) (images ++ image ∷ [])
stand_more [] [] l image h k = (k, tt)
stand_more [] (i ∷ images) l image h k = absurd h
stand_more (x ∷ lines) [] l image h k = absurd h
stand_more (x ∷ lines) (i ∷ images) l image h k = (h.0, stand_more lines images l image h.1 k)

pub stand_long : (lines images : List (List (List ℕ))) → StandFor lines images → length lines ≡ length images
stand_long [] [] h = refl
stand_long [] (i ∷ images) h = absurd h
stand_long (x ∷ lines) [] h = absurd h
stand_long (x ∷ lines) (i ∷ images) h = ap suc (stand_long lines images h.1)

-- ---- a file's view in a store where it is the same
made_there : (a b : StoreView) (name : List ℕ) (made : Bool) → b.tells ≡ a.tells → b.file name ≡ a.file name → FileIsMade a name made → FileIsMade b name made
made_there a b name made tells file h on = ap is_made file ∙ h (sym tells ∙ on)

lines_there : (a b : StoreView) (name : List ℕ) (image : List (List ℕ)) → b.tells ≡ a.tells → b.file name ≡ a.file name → HasLogLines a name image → HasLogLines b name image
lines_there a b name image tells file h = record {
  made = made_there a b name true tells file h.made;
  front = h.front;
  count = h.count;
  each = h.each;
  gives = λ on. subst (λ o. FrontHasLines longest_image o h.front h.count) (sym file) (h.gives (sym tells ∙ on));
  image_is = h.image_is;
}

pub holds_there : (a b : StoreView) (name : List ℕ) (image : List (List ℕ)) → b.tells ≡ a.tells → b.file name ≡ a.file name → HoldsLogImage a name image → HoldsLogImage b name image
holds_there a b name image tells file (inl h) = inl (lines_there a b name image tells file h)
holds_there a b name image tells file (inr h) = inr (made_there a b name false tells file h.0, h.1)

pub begins_there : (a b : StoreView) (name : List ℕ) (front : List (List ℕ)) → b.tells ≡ a.tells → b.file name ≡ a.file name → BeginsAs a name front → BeginsAs b name front
begins_there a b name [] tells file h = tt
begins_there a b name (line ∷ front) tells file h = λ on. let x = h (sym tells ∙ on) in (x.0, file ∙ x.1)

pub read_same : (store mid : StoreView) (name : List ℕ) (lines : List (List ℕ)) → SameFiles store mid → IsRead mid name lines → IsRead store name lines
read_same store mid name lines same r = record {
  image = r.image;
  holds = holds_there mid store name r.image (sym same.tells) (sym (same.file name)) r.holds;
  stands = r.stands;
  begins = begins_there mid store name (front_in lines) (sym same.tells) (sym (same.file name)) r.begins;
}

-- ---- the lines of one file
begins_by : (head : Bool) (store : StoreView) (name : List ℕ) (lines : List (List ℕ)) → BeginsWith store name (image_bytes lines) → BeginsAs store name (front_by head lines)
begins_by false store name lines h = tt
begins_by true store name [] h = tt
begins_by true store name (line ∷ lines) h = h

pub made_read : (store : StoreView) (name : List ℕ) (lines front : List (List ℕ)) (count : ℕ) → FileIsMade store name true → AllByRecursion IsWholeLine front → (front ≡ [] → count ≡ 0) → GivesLines store name longest_image front count
    → lines ≡ take (used_in (content_of front)) front → IsRead store name lines
made_read store name lines front count made each empty gives is = record {
  image = with_zeros front count;
  holds = inl (record { made = made; front = front; count = count; each = each; gives = gives; image_is = refl });
  stands = stands_front lines front count empty is;
  begins = begins_by (is_some (head_in lines)) store name lines (file_begins lines front (used_in (content_of front)) count longest_image name store is gives);
}

pub read_none : (logs : List ℕ) (all : List (List (List ℕ))) (store : StoreView) → all ≡ [] → AreRead logs all store
read_none logs all store none = subst (λ ls. AreRead logs ls store) (sym none) (record { images = []; hold = tt; stand = tt; begin = tt })

pub read_more : (logs : List ℕ) (t : ℕ) (all more : List (List (List ℕ))) (lines : List (List ℕ)) (store mid : StoreView) → length all ≡ t → SameFiles store mid → AreRead logs all store → IsRead mid (log_name logs t) lines → more ≡ all ++ lines ∷ []
    → AreRead logs more store
read_more logs t all more lines store mid count same so there e =
    let r = read_same store mid (log_name logs t) lines same there in
    let long = stand_long all so.images so.stand in
    subst (λ ls. AreRead logs ls store) (sym e) (record {
      images = so.images ++ r.image ∷ [];
      hold = hold_more logs 0 t so.images r.image store (omega (arith, long, count)) so.hold r.holds;
      stand = stand_more all so.images lines r.image so.stand r.stands;
      begin = begin_more logs 0 t all lines store (omega (arith, count)) so.begin r.begins;
    })
