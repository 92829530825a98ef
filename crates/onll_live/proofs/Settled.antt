-- A file whose lines are written once more holds the checkpoint that it held.
use Rattle.std.proofs.Common.{ℕ, zero, suc, Bool, true, false, true≢false, List, [], ◌∷◌, ◌++◌, ◌≡◌, ◌-◌, ◌*◌, ◌/◌, ◌≤◌, ◌⊎◌, inl, inr, length, map, take, drop, replicate, Option, Some, None, is_some, refl, sym, ap, ◌∙◌, subst, arith, append_assoc, append-nil, length-append, take-append-drop}
use Rattle.std.specs.Prelude.{◌&&◌, if◌then◌else◌, nat_le, not}
use Rattle.std.specs.List.{AllByRecursion, flat_map}
use Rattle.std.specs.Option.{option_map}
use Rattle.std.specs.Simd.{first_chunks}
use Rattle.std.proofs.lemmas.Bool.Decides.{nat_tests}
use Rattle.std.proofs.lemmas.List.{take_at, drop_at, take-append-le}
use Rattle.std.proofs.lemmas.List.Elements.{All-replicate}
use Rattle.onll_words.specs.declared.line.Line.{Line}
use Rattle.onll_words.specs.Lines.{bytes_of_words, words_of_bytes}
use Rattle.onll_pmem.specs.Device.{Mixed, zero_line, zero_lines}
use Rattle.onll_pmem.specs.Pmem.{DeviceView, Told, ToldSettled, words_of}
use Rattle.onll_pmem.proofs.Lines.{length-words_of}
use Rattle.onll_pmem.proofs.Mixes.{Mixed-same}
use Rattle.onll_pmem.proofs.Fronts.{length-followed}
use Rattle.onll_log.specs.Head.{word}
use Rattle.onll_log.specs.ImageFile.{whole_lines}
use Rattle.onll_outside.specs.LineFiles.{IsWholeLine, IsFileFront, FrontHasLines, GivesLines}
use Rattle.onll_outside.specs.Directory.{SizeOf}
use Rattle.onll_outside.specs.Views.{StoreView, FileHolds, KeepsDevice, SameFiles, SameOthers, BeginsWith, MayWipe, MayKeep, KeptOrZeros, AreZeros, HoldsImageOf, IsFresh, image_bytes, with_zeros}
use Rattle.onll_outside.proofs.WholeLines.{whole_to_end, line_back, line_bytes_many, length-image_bytes}
use Rattle.onll_checkpoint.specs.Checkpoint.{CheckpointState}
use Rattle.onll_checkpoint.specs.Text.{lines_of_text, text_in}
use Rattle.onll_checkpoint.specs.Grammar.{is_first_line, checkpoint_in}
use Rattle.onll_areas.specs.Keeping.{StaysOrZeros}
use Rattle.onll_areas.specs.Newest.{AreaHolds, longest_area, area_lines}
use Rattle.onll_areas.proofs.AreaReads.{area_holds}
use Rattle.onll_areas.proofs.LinesBack.{whole_back}
use Rattle.onll_areas.proofs.Zeros.{none_in_zeros}
use Rattle.onll_live.specs.Eras.{AreaGives}
use Rattle.onll_live.specs.Settled.{IsRewritten, IsUntorn, IsUntornFile, KeepsCheckpoint, KeepsArea}
use Rattle.onll_live.proofs.Areas.{checkpoint_at, told_gives, gives_by}

-- ---- lines after those of a checkpoint
le_test : (a b : ℕ) → a ≤ b → nat_le a b ≡ true
le_test a b l = grind (arith, nat_tests)

le_back : (a b : ℕ) → nat_le a b ≡ true → a ≤ b
le_back a b e = grind (arith, nat_tests)

second_true : (a b : Bool) (x c : CheckpointState) → (if a && b then Some x else None) ≡ Some c → b ≡ true
second_true a true x c e = refl
second_true true false x c e = absurd (cc)
second_true false false x c e = absurd (cc)

-- a checkpoint that lines hold they hold whatever follows them
more_lines : (ls more : List (List ℕ)) (c : CheckpointState) → checkpoint_in ls ≡ Some c → checkpoint_in (ls ++ more) ≡ Some c
more_lines [] more c e = absurd (cc)
more_lines (l ∷ ls) more c e =
    let n = lines_of_text (word l 3) in
    let found : List ℕ → CheckpointState = λ text. record { number = word l 1; place = word l 2; text = text } in
    let enough : nat_le n (length ls) ≡ true = second_true (is_first_line l) (nat_le n (length ls)) (found (text_in (word l 3) ls)) c e in
    let few : n ≤ length ls = le_back n (length ls) enough in
    let still : nat_le n (length (ls ++ more)) ≡ nat_le n (length ls) = le_test n (length (ls ++ more)) (omega (arith, few, length-append ls more)) ∙ sym enough in
    let text : text_in (word l 3) (ls ++ more) ≡ text_in (word l 3) ls = ap (λ ps. take (word l 3) (flat_map bytes_of_words ps)) (take-append-le n ls more few) in
    ap (λ (b : Bool). if is_first_line l && b then Some (found (text_in (word l 3) (ls ++ more))) else None) still
    ∙ (ap (λ (t : List ℕ). if is_first_line l && nat_le n (length ls) then Some (found t) else None) text ∙ e)

-- ---- the lines of bytes that begin with those of lines
whole_front : (lines : List (List ℕ)) (rest : List ℕ) → AllByRecursion IsWholeLine lines → whole_lines (image_bytes lines ++ rest) ≡ lines ++ whole_lines rest
whole_front [] rest h = refl
whole_front (line ∷ lines) rest h =
    let long = line_bytes_many line h.0 in
    let after = image_bytes lines ++ rest in
    let many : length (bytes_of_words line ++ after) / 64 ≡ suc (length after / 64) = omega (arith, long, length-append (bytes_of_words line) after) in
    ap whole_lines (append_assoc (bytes_of_words line) (image_bytes lines) rest)
    ∙ ap (λ n. map words_of_bytes (first_chunks 64 n (bytes_of_words line ++ after))) many
    ∙ ap (λ bs. words_of_bytes bs ∷ map words_of_bytes (first_chunks 64 (length after / 64) (drop 64 (bytes_of_words line ++ after)))) (take_at (bytes_of_words line) after 64 long)
    ∙ ap (λ bs. words_of_bytes (bytes_of_words line) ∷ map words_of_bytes (first_chunks 64 (length after / 64) bs)) (drop_at (bytes_of_words line) after 64 long)
    ∙ ap (λ (l : List ℕ). l ∷ whole_lines after) (line_back line h.0)
    ∙ ap (λ (ls : List (List ℕ)). line ∷ ls) (whole_front lines rest h.1)

take_past : (xs ys : List ℕ) (n : ℕ) → length xs ≤ n → take n (xs ++ ys) ≡ xs ++ take (n - length xs) ys
take_past [] ys n l = let e : n ≡ n - 0 = omega arith in ap (λ k. take k ys) e
take_past (x ∷ xs) ys zero l = absurd (omega arith)
take_past (x ∷ xs) ys (suc n) l =
    let e : n - length xs ≡ suc n - length (x ∷ xs) = omega arith in
    ap (λ zs. x ∷ zs) (take_past xs ys n (omega arith)) ∙ ap (λ k. x ∷ (xs ++ take k ys)) e

area_begins : (lines : List (List ℕ)) (rest : List ℕ) → AllByRecursion IsWholeLine lines → 64 * length lines ≤ longest_area
    → area_lines (image_bytes lines ++ rest) ≡ lines ++ whole_lines (take (longest_area - length (image_bytes lines)) rest)
area_begins lines rest each few =
    let long = length-image_bytes lines each in
    ap whole_lines (take_past (image_bytes lines) rest longest_area (omega (arith, long, few))) ∙ whole_front lines (take (longest_area - length (image_bytes lines)) rest) each

-- ---- a file that was read, before it is written once more
module _ (old mid : StoreView) (same : SameFiles old mid) (name read again : List ℕ) (is_read : read ≡ name) (is_again : again ≡ name) (front lines : List (List ℕ)) (count : ℕ)
    (lines_are : lines ≡ with_zeros front count) (h : GivesLines old read longest_area front count) where
  abbrev all : List (List ℕ)
  all = with_zeros front count

  given : GivesLines old name longest_area front count
  given = subst (λ n. GivesLines old n longest_area front count) is_read h

  -- it begins with all its lines
  pub read_begins : BeginsWith mid again (image_bytes lines)
  read_begins = subst (λ n. BeginsWith mid n (image_bytes lines)) (sym is_again) (subst (λ ls. BeginsWith mid name (image_bytes ls)) (sym lines_are) begins)
    where
      at : (o : Option (List ℕ)) → old.file name ≡ o → FrontHasLines longest_area o front count → (rest : List ℕ) × (mid.file name ≡ Some (image_bytes all ++ rest))
      at None e k = absurd k
      at (Some bytes) e k =
          let whole : bytes ≡ image_bytes all ++ (k.rest ++ drop longest_area bytes) =
          sym (take-append-drop longest_area bytes) ∙ (ap (λ (bs : List ℕ). bs ++ drop longest_area bytes) k.whole ∙ append_assoc (image_bytes all) k.rest (drop longest_area bytes)) in
          (k.rest ++ drop longest_area bytes, same.file name ∙ (e ∙ ap Some whole))

      begins : BeginsWith mid name (image_bytes all)
      begins on = at (old.file name) refl (given (sym same.tells ∙ on))

  -- while it begins with them it holds the checkpoint that it held
  module _ (f : IsFileFront front count) (few : 64 * count ≤ longest_area) (new : StoreView) (others : SameOthers again mid new) (begins : BeginsWith new again (image_bytes lines)) where
    tells : new.tells ≡ old.tells
    tells = others.tells ∙ same.tells

    each : AllByRecursion IsWholeLine all
    each = whole_to_end front (count - length front) f.each

    short : 64 * length all ≤ longest_area
    short = let many = length-followed zero_line front count f.within in omega (arith, many, few)

    begins_so : BeginsWith new name (image_bytes all)
    begins_so = subst (λ ls. BeginsWith new name (image_bytes ls)) lines_are (subst (λ n. BeginsWith new n (image_bytes lines)) is_again begins)

    step : (c : CheckpointState) → old.tells ≡ true → Some c ≡ checkpoint_at (old.file name) → Some c ≡ checkpoint_at (new.file name)
    step c on e =
        let was : checkpoint_in all ≡ Some c = told_gives old name (checkpoint_in all) on (inl (area_holds old name front count (checkpoint_in all) f few given refl)) ∙ sym e in
        let b = begins_so (tells ∙ on) in
        let more = whole_lines (take (longest_area - length (image_bytes all)) b.0) in
        sym (ap checkpoint_at b.1 ∙ (ap checkpoint_in (area_begins all b.0 each short) ∙ more_lines all more c was))

    pub lines_keep : KeepsCheckpoint old new name
    lines_keep c = gives_by old new name (Some c) tells (step c)

    abbrev bytes_in : Option (List ℕ) → List ℕ
    bytes_in None = []
    bytes_in (Some bytes) = bytes

    read_all : (o : Option (List ℕ)) → FrontHasLines longest_area o front count → (o ≡ Some (bytes_in o)) × (area_lines (bytes_in o) ≡ all)
    read_all None k = absurd k
    read_all (Some bytes) k = (refl, ap whole_lines k.whole ∙ whole_back all k.rest each k.short)

    -- where it is those lines alone, it was written once more
    pub lines_alone : FileHolds new again (image_bytes lines) → IsRewritten old new name
    lines_alone holds = record {
      bytes = bytes_in (old.file name);
      was = λ on. (read_all (old.file name) (given on)).0;
      now = λ on. holds_so (tells ∙ on) ∙ ap (λ (ls : List (List ℕ)). Some (image_bytes ls)) (sym (read_all (old.file name) (given on)).1);
    }
      where
        holds_so : FileHolds new name (image_bytes all)
        holds_so = subst (λ ls. FileHolds new name (image_bytes ls)) lines_are (subst (λ n. FileHolds new n (image_bytes lines)) is_again holds)

-- ---- a device that is kept
-- one of all the lines that are handed in
pub all_fresh : (lines : List Line) (d : DeviceView) → IsFresh (with_zeros (words_of lines) (length lines)) d → IsFresh (words_of lines) d
all_fresh lines d = subst (λ ls. IsFresh ls d) (ap (λ n. words_of lines ++ zero_lines n) none ∙ append-nil (words_of lines))
  where
    none : length lines - length (words_of lines) ≡ 0
    none = let many = length-words_of lines in omega (arith, many)

only_image : (told : Option Told) (read image : List (List ℕ)) → ToldSettled told read → is_some told ≡ true → ((t : Told) → told ≡ Some t → Mixed t.fenced read image) → image ≡ read
only_image None read image s e h = absurd (cc)
only_image (Some t) read image s e h = Mixed-same read image (subst (λ (fenced : List (List ℕ)). Mixed fenced read image) (s t refl) (h t refl))

module _ (name : List ℕ) (old mid new : StoreView) (d : DeviceView) (lines : List (List ℕ)) (fresh : IsFresh lines d) (told : new.tells ≡ true → is_some d.told ≡ true) (may : MayKeep name d mid new)
    (made : SameOthers name old mid) (others : SameOthers name mid new) where
  kept_bytes : new.tells ≡ true → HoldsImageOf new name d → new.file name ≡ Some (image_bytes lines)
  kept_bytes on k = k.1 ∙ ap (λ (ls : List (List ℕ)). Some (image_bytes ls)) (only_image d.told d.read k.0 fresh.settled (told on) k.2 ∙ fresh.read)

  -- of the first lines of a file
  pub kept_begins : MayWipe name (image_bytes lines) old mid → BeginsWith new name (image_bytes lines)
  kept_begins wiped on = at (may on)
    where
      at : (new.file name ≡ mid.file name) ⊎ HoldsImageOf new name d → (rest : List ℕ) × (new.file name ≡ Some (image_bytes lines ++ rest))
      at (inl e) = let w = wiped (sym (others.tells ∙ made.tells) ∙ on) in (w.rest, e ∙ w.now)
      at (inr k) = ([], kept_bytes on k ∙ ap Some (sym (append-nil (image_bytes lines))))

  pub kept_alone : KeepsDevice new name d → FileHolds new name (image_bytes lines)
  kept_alone kept on = kept_bytes on (kept on)

  -- of zeros
  pub kept_zeros : AreZeros (image_bytes lines) → KeptOrZeros name old mid → StaysOrZeros old new name
  kept_zeros zeros blank tells = at (may on)
    where
      on : new.tells ≡ true
      on = others.tells ∙ (made.tells ∙ tells)

      since : KeptOrZeros name old mid → new.file name ≡ mid.file name → (new.file name ≡ old.file name) ⊎ ((bytes : List ℕ) × (new.file name ≡ Some bytes) × AreZeros bytes)
      since (inl same) e = inl (e ∙ same)
      since (inr z) e = inr (z.0, e ∙ z.1, z.2)

      at : (new.file name ≡ mid.file name) ⊎ HoldsImageOf new name d → (new.file name ≡ old.file name) ⊎ ((bytes : List ℕ) × (new.file name ≡ Some bytes) × AreZeros bytes)
      at (inl e) = since blank e
      at (inr k) = inr (image_bytes lines, kept_bytes on k, zeros)

-- a line of zeros has bytes of zeros
pub zero_bytes : AreZeros (image_bytes (zero_lines 1))
zero_bytes = subst AreZeros (sym same) (All-replicate (λ (x : ℕ). x ≡ 0) 64 0 refl)
  where
    same : image_bytes (zero_lines 1) ≡ replicate 64 0
    same = refl

-- ---- an area without a checkpoint is wiped
pub zeros_whole : (s : StoreView) (file : List ℕ) → FileHolds s file (image_bytes (zero_lines 1)) → IsUntorn s file
zeros_whole s file h on = subst IsUntornFile (sym (h on)) (inl zero_bytes)

-- one that is not there, or has no byte, is not
pub empty_whole : (s : StoreView) (file : List ℕ) (size : Option ℕ) → SizeOf s file size → (size ≡ None) ⊎ (size ≡ Some 0) → IsUntorn s file
empty_whole s file size h empty on = at (s.file file) (h on) empty
  where
    at : (o : Option (List ℕ)) → size ≡ option_map length o → (size ≡ None) ⊎ (size ≡ Some 0) → IsUntornFile o
    at None e n = tt
    at (Some []) e n = inl (λ k d l. absurd (omega arith))
    at (Some (b ∷ bs)) e (inl n) = absurd (let x : None ≡ Some (length (b ∷ bs)) = sym n ∙ e in (cc))
    at (Some (b ∷ bs)) e (inr n) = absurd (let x : Some 0 ≡ Some (suc (length bs)) = sym n ∙ e in let y : 0 ≡ suc (length bs) = (cc) in omega arith)

pub found_whole : (old mid : StoreView) (file : List ℕ) (found : Option CheckpointState) (torn : Bool) → SameFiles old mid → AreaHolds mid file found → is_some found ≡ not torn → torn ≡ false → IsUntorn old file
found_whole old mid file None torn same h e no_tear on = absurd (true≢false (sym (e ∙ ap not no_tear)))
found_whole old mid file (Some c) torn same h e no_tear on =
    subst IsUntornFile (sym (sym (same.file file) ∙ h.held (same.tells ∙ on))) (inr (c, sym h.found_is))

pub untorn_there : (old mid : StoreView) (read name : List ℕ) → SameFiles old mid → read ≡ name → IsUntorn old read → IsUntorn mid name
untorn_there old mid read name same is_read h on =
    subst (λ n. IsUntornFile (mid.file n)) is_read (subst IsUntornFile (sym (same.file read)) (h (sym same.tells ∙ on)))

pub zeros_keep : (old mid new : StoreView) (name read again : List ℕ) → SameFiles old mid → read ≡ name → again ≡ name → AreaGives old read None → SameOthers again mid new
    → StaysOrZeros mid new again → KeepsArea old new name
zeros_keep old mid new name read again same is_read is_again empty others zeros found = gives_by old new name found (others.tells ∙ same.tells) step
  where
    none : AreaGives old name None
    none = subst (λ n. AreaGives old n None) is_read empty

    step : old.tells ≡ true → found ≡ checkpoint_at (old.file name) → found ≡ checkpoint_at (new.file name)
    step on e = at (subst (λ n. StaysOrZeros mid new n) is_again zeros (same.tells ∙ on))
      where
        at : (new.file name ≡ mid.file name) ⊎ ((bytes : List ℕ) × (new.file name ≡ Some bytes) × AreZeros bytes) → found ≡ checkpoint_at (new.file name)
        at (inl stays) = e ∙ ap checkpoint_at (sym (stays ∙ same.file name))
        at (inr z) = e ∙ (sym (told_gives old name None on none) ∙ sym (ap checkpoint_at z.1 ∙ none_in_zeros z.0 z.2))
