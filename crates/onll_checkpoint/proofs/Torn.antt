-- A first line of which a word is missing is no first line.
use Rattle.std.proofs.Common.{ℕ, zero, suc, ◌≡◌, ◌-◌, ◌<◌, ◌≤◌, Bool, true, false, true≢false, List, [], ◌∷◌, ◌++◌, length, take, refl, sym, ap, ◌∙◌, subst, ◌⊎◌, inl, inr, ⊎_elim, arith, ◌==◌, eq-eqb, eqb-true, ne_eqb}
use Rattle.std.specs.Prelude.{◌&&◌, not, nat_le, if◌then◌else◌, Some, None}
use Rattle.std.proofs.lemmas.Bool.{cases_Bool, cases_lt}
use Rattle.std.proofs.lemmas.List.{get_or-take}
use Rattle.onll_pmem.specs.Device.{DeviceState, Step, after_steps, AreLegal, IsImage, NonePending, FillsWords, Mixed, zero_line, zero_lines}
use Rattle.onll_pmem.proofs.Mixes.{Mixed-same, MixedWords-same, Mixed-image}
use Rattle.onll_log.specs.Head.{word}
use Rattle.onll_log.specs.Masks.{bits, marks_in}
use Rattle.onll_log.proofs.Masks.{bits-same}
use Rattle.onll_log.proofs.Torn.{FillsWords-same, Among-mixed}
use Rattle.onll_log.proofs.Accepted.{both_true}
use Rattle.onll_checkpoint.specs.Checkpoint.{CheckpointState, FitsCheckpoint, longest_saved}
use Rattle.onll_checkpoint.specs.Text.{lines_of_text, lines_for, text_lines, text_in}
use Rattle.onll_checkpoint.specs.Grammar.{checkpoint_magic, first_words, guard_of, first_line, is_first_line, checkpoint_in, checkpoint_image, text_image}
use Rattle.onll_checkpoint.specs.Laws.{NoneOrThis, IsNoneOrSaved}
use Rattle.onll_checkpoint.proofs.Found.{checkpoint_in-written}

-- ---- words that are zero or those of the whole
FillsWords-take : (n : ℕ) (xs ys : List ℕ) → FillsWords xs ys → FillsWords (take n xs) (take n ys)
FillsWords-take zero xs ys f = tt
FillsWords-take (suc n) [] [] f = tt
FillsWords-take (suc n) [] (y ∷ ys) f = absurd f
FillsWords-take (suc n) (x ∷ xs) [] f = absurd f
FillsWords-take (suc n) (x ∷ xs) (y ∷ ys) f = (f.0, FillsWords-take n xs ys f.1)

FillsWords-word : (j : ℕ) (xs ys : List ℕ) → FillsWords xs ys → (word xs j ≡ 0) ⊎ (word xs j ≡ word ys j)
FillsWords-word j [] [] f = inl refl
FillsWords-word j [] (y ∷ ys) f = absurd f
FillsWords-word j (x ∷ xs) [] f = absurd f
FillsWords-word zero (x ∷ xs) (y ∷ ys) f = f.0
FillsWords-word (suc j) (x ∷ xs) (y ∷ ys) f = FillsWords-word j xs ys f.1

marks_long : (xs ys : List ℕ) → FillsWords xs ys → length (marks_in xs) ≡ length (marks_in ys)
marks_long [] [] f = refl
marks_long [] (y ∷ ys) f = absurd f
marks_long (x ∷ xs) [] f = absurd f
marks_long (x ∷ xs) (y ∷ ys) f = ap suc (marks_long xs ys f.1)

one_same : (x y : ℕ) → ((x ≡ 0) ⊎ (x ≡ y)) → not (x == 0) ≡ not (y == 0) → x ≡ y
one_same x y (inr e) m = e
one_same x zero (inl e) m = e
one_same x (suc y) (inl e) m =
    let a : x == 0 ≡ true = eq-eqb x 0 e in let b : suc y == 0 ≡ false = ne_eqb (suc y) 0 (λ k. omega arith) in
    absurd (true≢false (sym (sym (ap not a) ∙ (m ∙ ap not b))))

marked_same : (xs ys : List ℕ) → FillsWords xs ys → marks_in xs ≡ marks_in ys → xs ≡ ys
marked_same [] [] f m = refl
marked_same [] (y ∷ ys) f m = absurd f
marked_same (x ∷ xs) [] f m = absurd f
marked_same (x ∷ xs) (y ∷ ys) f m =
    let head : not (x == 0) ≡ not (y == 0) = (cc) in let tail : marks_in xs ≡ marks_in ys = (cc) in
    let here = one_same x y f.0 head in let rest = marked_same xs ys f.1 tail in (cc)

-- ---- the first line
pub guard_in : (line : List ℕ) → is_first_line line ≡ true → word line 7 ≡ guard_of (take 7 line)
guard_in line t =
    let a = (both_true (word line 0 == checkpoint_magic) _ t).1 in
    let b = (both_true (nat_le 1 (word line 1)) _ a).1 in
    let c = (both_true (nat_le (word line 3) longest_saved) _ b).1 in
    let d = (both_true (word line 4 == 0) _ c).1 in
    let e = (both_true (word line 5 == 0) _ d).1 in
    let f = (both_true (word line 6 == 0) _ e).1 in
    eqb-true (word line 7) (guard_of (take 7 line)) f

-- of a checkpoint's first line nothing is missing where a first line is read
pub none_missing : (c : CheckpointState) (line : List ℕ) → FillsWords line (first_line c) → is_first_line line ≡ true → line ≡ first_line c
none_missing c line f t =
    let whole : List ℕ = first_words c.number c.place (length c.text) in
    let guard = guard_in line t in
    let last : word line 7 ≡ guard_of whole = ⊎_elim (λ (e : word line 7 ≡ 0). absurd (omega arith)) (λ (e : word line 7 ≡ guard_of whole). e) (FillsWords-word 7 line (first_line c) f) in
    let front = FillsWords-take 7 line (first_line c) f in
    let same_bits : bits (marks_in (take 7 line)) ≡ bits (marks_in whole) = omega arith in
    let same : take 7 line ≡ whole = marked_same (take 7 line) whole front (bits-same (marks_in (take 7 line)) (marks_in whole) (marks_long (take 7 line) whole front) same_bits) in
    FillsWords-same (first_line c) line f (λ j l. inr (at j l last same (cases_lt j 7)))
  where
    at : (j : ℕ) → j < 8 → word line 7 ≡ guard_of (first_words c.number c.place (length c.text)) → take 7 line ≡ first_words c.number c.place (length c.text)
        → (j < 7) ⊎ (7 ≤ j) → word line j ≡ word (first_line c) j
    at j l last same (inl b) = sym (get_or-take 7 line j 0 b) ∙ (ap (λ ws. word ws j) same ∙ get_or-take 7 (first_line c) j 0 b)
    at j l last same (inr b) = let e : j ≡ 7 = omega arith in ap (word line) e ∙ (last ∙ ap (word (first_line c)) (sym e))

-- lines whose first is none hold no checkpoint
none_in : (line : List ℕ) (lines : List (List ℕ)) → is_first_line line ≡ false → checkpoint_in (line ∷ lines) ≡ None
none_in line lines e = ap (λ (b : Bool). if b && nat_le (lines_of_text (word line 3)) (length lines)
    then Some (record { number = word line 1; place = word line 2; text = text_in (word line 3) lines }) else None) e

pub torn_first : (c : CheckpointState) (first : List ℕ) (rest : List (List ℕ)) → FitsCheckpoint c → FillsWords first (first_line c)
    → NoneOrThis c first (first ∷ (text_lines c.text ++ rest))
torn_first c first rest fits f = record {
  whole = λ e. ap (λ (l : List ℕ). checkpoint_in (l ∷ (text_lines c.text ++ rest))) e ∙ checkpoint_in-written c rest fits;
  torn = λ n. ⊎_elim
      (λ (t : is_first_line first ≡ true). absurd (n (none_missing c first f t)))
      (λ (t : is_first_line first ≡ false). none_in first (text_lines c.text ++ rest) t)
      (cases_Bool (is_first_line first));
}

-- ---- every crash
none_of_zeros : (xs ys image : List (List ℕ)) → Mixed (zero_line ∷ xs) (zero_line ∷ ys) image → checkpoint_in image ≡ None
none_of_zeros xs ys [] m = absurd m
none_of_zeros xs ys (z ∷ zs) m = ap (λ (l : List ℕ). checkpoint_in (l ∷ zs)) (MixedWords-same zero_line z m.0)

pub crash_of_text : (c : CheckpointState) (count : ℕ) (d : DeviceState) (done rest : List Step) (image : List (List ℕ)) → lines_for (length c.text) ≤ count
    → NonePending d → d.read ≡ zero_lines count → AreLegal d (done ++ rest) → (after_steps d (done ++ rest)).read ≡ text_image c.text count
    → IsImage (after_steps d done) image → checkpoint_in image ≡ None
crash_of_text c count d done rest image room settled before legal after i =
    let up : count ≡ suc (count - 1) = omega arith in
    let m : Mixed (zero_lines count) (text_image c.text count) image = subst (λ (l : List (List ℕ)). Mixed (zero_lines count) l image) after
    (subst (λ (l : List (List ℕ)). Mixed l (after_steps d (done ++ rest)).read image) before (Mixed-image d done rest image settled legal i)) in
    none_of_zeros (zero_lines (count - 1)) (text_lines c.text ++ zero_lines (count - lines_for (length c.text))) image
    (subst (λ (n : ℕ). Mixed (zero_lines n) (text_image c.text count) image) up m)

between : (c : CheckpointState) (count : ℕ) (image : List (List ℕ)) → FitsCheckpoint c → Mixed (text_image c.text count) (checkpoint_image c count) image → IsNoneOrSaved c count image
between c count [] fits m = absurd m
between c count (z ∷ zs) fits m =
    let rest : List (List ℕ) = zero_lines (count - lines_for (length c.text)) in
    let same : zs ≡ text_lines c.text ++ rest = Mixed-same (text_lines c.text ++ rest) zs m.1 in
    let fills : FillsWords z (first_line c) = (Among-mixed 1 (first_line c ∷ []) (z ∷ []) (m.0, tt)).0 in
    let t = torn_first c z rest fits fills in
    let to = ap (λ (ls : List (List ℕ)). checkpoint_in (z ∷ ls)) same in
    record {
      whole = λ e. let here : z ≡ first_line c = (cc) in to ∙ t.whole here;
      torn = λ n. to ∙ t.torn (λ here. n (λ i. here i ∷ same i));
    }

pub crash_of_first : (c : CheckpointState) (count : ℕ) (d : DeviceState) (done rest : List Step) (image : List (List ℕ)) → FitsCheckpoint c
    → NonePending d → d.read ≡ text_image c.text count → AreLegal d (done ++ rest) → (after_steps d (done ++ rest)).read ≡ checkpoint_image c count
    → IsImage (after_steps d done) image → IsNoneOrSaved c count image
crash_of_first c count d done rest image fits settled before legal after i =
    between c count image fits (subst (λ (l : List (List ℕ)). Mixed (text_image c.text count) l image) after
    (subst (λ (l : List (List ℕ)). Mixed l (after_steps d (done ++ rest)).read image) before (Mixed-image d done rest image settled legal i)))
