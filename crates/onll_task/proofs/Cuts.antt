use Rattle.std.proofs.lemmas.List.{take_all, length-take-le}
use Rattle.std.proofs.lemmas.Bool.{cases_lt}
use Rattle.std.proofs.lemmas.Bool.Decides.{nat_tests}
use Rattle.std.proofs.Common.{ℕ, Bool, true, false, List, ◌≡◌, ◌+◌, ◌-◌, ◌*◌, ◌≤◌, length, take, arith, inl, inr, Option, Some, None, Result, Ok, Err, nat_lt, cond, refl, sym, ap, ◌∙◌, subst}
use Rattle.std.specs.List.{AllByRecursion}
use Rattle.onll_pmem.specs.Device.{zero_line}
use Rattle.onll_pmem.proofs.Fronts.{length-followed}
use Rattle.onll_outside.specs.Views.{StoreView, IsFrontOfFile, Gives, FileHolds, with_zeros, image_bytes}
use Rattle.onll_outside.specs.LineFiles.{IsWholeLine, IsFileFront, FrontHasLines, GivesLines}
use Rattle.onll_outside.proofs.WholeLines.{whole_to_end}
use Rattle.onll_log.specs.ImageFile.{longest_image, whole_lines}
use Rattle.onll_text.specs.Wording.{Wording}
use Rattle.onll_text.specs.Script.{longest_text, script_of}
use Rattle.onll_text.specs.Init.{init_of, init_of_lines}
use Rattle.onll_text.specs.Schedule.{schedule_of}
use Rattle.onll_text.proofs.Whole.{init_of-take, script_of-take, schedule_of-take}
use Rattle.onll_words.specs.Texts.{meaningful_lines}
use Rattle.onll_areas.proofs.LinesBack.{whole_back}
use Rattle.onll_text.specs.declared.any_object.AnyObject.{AnyObject}
use Rattle.onll_text.specs.declared.reason.Reason.TheVariants.{TooLong}
use Rattle.onll_text.specs.Refusal.{Refusal, refused}
use Rattle.onll_task.specs.FileLines.{FitFile}
use Rattle.onll_task.specs.Reading.{IsCutText, ReadsWhole, HoldsImage}
use Rattle.onll_task.proofs.FileLines.{image_lines-image_bytes}

-- what a store that tells its files gives
told : (s : StoreView) (name text : List ℕ) (found : Option (List ℕ)) → s.file name ≡ found → IsFrontOfFile (longest_text + 1) found text → IsCutText s name text
told s name text None e h = absurd h
told s name text (Some all) e h = record { bytes = all; held = λ _. e; cut = inr h }

by_telling : (t : Bool) (s : StoreView) (name text : List ℕ) → s.tells ≡ t → Gives s name (longest_text + 1) text → IsCutText s name text
by_telling true s name text e h = told s name text (s.file name) refl (h e)
by_telling false s name text e h = record { bytes = text; held = λ tells. (cc (e, tells)); cut = inl refl }

-- what a store gives is what the file holds, or its front
pub cut_of : (s : StoreView) (name text : List ℕ) → Gives s name (longest_text + 1) text → IsCutText s name text
cut_of s name text h = by_telling s.tells s name text refl h

-- the whole file reads as what was read of it
pub init_of-cut : (s : StoreView) (name text : List ℕ) (c : IsCutText s name text) → init_of c.bytes ≡ init_of text
init_of-cut s name text c = elim c.cut [
  | inl whole ↦ ap init_of (sym whole)
  | inr front ↦ sym (init_of-take c.bytes) ∙ ap init_of (sym front)
]

pub script_of-cut : {State Op Query Reply : Type 0} (w : Wording State Op Query Reply) (s : StoreView) (name text : List ℕ) (c : IsCutText s name text) → script_of w c.bytes ≡ script_of w text
script_of-cut w s name text c = elim c.cut [
  | inl whole ↦ ap (script_of w) (sym whole)
  | inr front ↦ sym (script_of-take w c.bytes) ∙ ap (script_of w) (sym front)
]

within : {A : Type 0} (m n : ℕ) (r : Refusal) (x : Result A Refusal) (v : A) → cond (nat_lt m n) (Err r) x ≡ Ok v → n ≤ m
within m n r x v h = elim (cases_lt m n) [
  | inl more ↦
      let long : nat_lt m n ≡ true = grind (arith, nat_tests) in
      let e : Err r ≡ Ok v = sym (ap (λ t. cond t (Err r) x) long) ∙ h in
      (cc)
  | inr few ↦ few
]

front_whole : (m : ℕ) (text bytes : List ℕ) → length text ≤ m → text ≡ take (m + 1) bytes → bytes ≡ text
front_whole m text bytes h e = elim (cases_lt (m + 1) (length bytes)) [
  | inl more ↦ absurd (omega (arith, ap length e, length-take-le (m + 1) bytes (omega arith)))
  | inr few ↦ sym (e ∙ take_all (m + 1) bytes few)
]

-- an accepted text is the whole file
pub init_whole : (s : StoreView) (name text : List ℕ) (object : AnyObject) (c : IsCutText s name text) → init_of text ≡ Ok object → ReadsWhole s init_of name text object
init_whole s name text object c h = record { held = subst (FileHolds s name) same c.held; accepted = h }
  where
    same : c.bytes ≡ text
    same = elim c.cut [
      | inl whole ↦ sym whole
      | inr front ↦ front_whole longest_text text c.bytes (within longest_text (length text) (refused 0 TooLong) (init_of_lines (meaningful_lines text)) object h) front
    ]

-- lines that a store gives of a file are those of the image that it holds
pub lines_held : (s : StoreView) (name : List ℕ) (front : List (List ℕ)) (count : ℕ) → IsFileFront front count → 64 * count ≤ longest_image → GivesLines s name longest_image front count
    → HoldsImage s name (with_zeros front count)
lines_held s name front count f few h = at s.tells refl
  where
    each : AllByRecursion IsWholeLine (with_zeros front count)
    each = whole_to_end front (count - length front) f.each

    told : (found : Option (List ℕ)) → s.file name ≡ found → FrontHasLines longest_image found front count → HoldsImage s name (with_zeros front count)
    told None e k = absurd k
    told (Some all) e k = record { bytes = all; held = λ _. e; image = sym (ap whole_lines k.whole ∙ whole_back (with_zeros front count) k.rest each k.short) }

    fit : FitFile (with_zeros front count)
    fit = record { each = each; few = subst (λ n. 64 * n ≤ longest_image) (sym (length-followed zero_line front count f.within)) few }

    at : (t : Bool) → s.tells ≡ t → HoldsImage s name (with_zeros front count)
    at true e = told (s.file name) refl (h e)
    at false e = record { bytes = image_bytes (with_zeros front count); held = λ tells. (cc (e, tells)); image = sym (image_lines-image_bytes (with_zeros front count) fit) }

pub schedule_of-cut : (threads : ℕ) (s : StoreView) (name text : List ℕ) (c : IsCutText s name text) → schedule_of threads c.bytes ≡ schedule_of threads text
schedule_of-cut threads s name text c = elim c.cut [
  | inl whole ↦ ap (schedule_of threads) (sym whole)
  | inr front ↦ sym (schedule_of-take threads c.bytes) ∙ ap (schedule_of threads) (sym front)
]
