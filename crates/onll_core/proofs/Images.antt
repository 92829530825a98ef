use Rattle.std.proofs.Common.{ℕ, zero, suc, ◌≡◌, ◌+◌, ◌-◌, ◌≤◌, ◌⊎◌, inl, inr, ⊎_elim, List, [], ◌∷◌, ◌++◌, length, take, drop, Option, Some, None, option_to_list, sym, refl, ap, ◌∙◌, subst, arith, length-append}
use Rattle.std.proofs.lemmas.List.{length-replicate, take_at, drop_at, drop-replicate}
use Rattle.std.specs.List.{slice_get}
use Rattle.onll_model.specs.Segment.{Segment}
use Rattle.onll_model.specs.Events.{window}
use Rattle.onll_pmem.specs.Device.{IsImage, Mixed, SameShape, zero_line, zero_lines, image_of}
use Rattle.onll_pmem.proofs.Mixes.{Mixed-same, FillsLines-then}
use Rattle.onll_pmem.proofs.Images.{Mixed-kept}
use Rattle.onll_log.specs.Encoding.{entry_lines, log_lines, FitsEntry}
use Rattle.onll_log.specs.declared.head.LogHead.{LogHead}
use Rattle.onll_log.specs.Grammar.{Content, used_with}
use Rattle.onll_log.specs.Remains.{unused, AreRemainsOf}
use Rattle.onll_log.specs.Torn.{AreLines, Among, log_image, Holds, TornOrWhole}
use Rattle.onll_log.proofs.Lines.{AreLines-take, AreLines-append, AreLines-zero_lines, AreLines-entry_lines, AreLines-log_lines, AreLines-log_image}
use Rattle.onll_log.proofs.Encoded.{length-entry_lines, length-log_lines}
use Rattle.onll_log.proofs.Torn.{Mixed-front, Among-front, Among-mixed, Holds-among, Holds-log_image, TornOrWhole-Among, log_image-more}
use Rattle.onll_core.specs.declared.phase.Phase.{Phase}
use Rattle.onll_core.specs.declared.phase.Phase.TheVariants as phases
use Rattle.onll_core.specs.Core.{CoreThread, CoreState}
use Rattle.onll_core.specs.CoreFrame.{pending_in, fenced_entries}
use Rattle.onll_core.specs.Tie.{written_in, lines_needed, coming_lines, IsTiedDevice}
use Rattle.onll_core.specs.Consistent.{IsConsistent}
use Rattle.onll_core.specs.Crash.{with_entry, HoldsFenced, HasRest}
use Rattle.onll_core.proofs.Windows.{window_of}
use Rattle.onll_core.proofs.Ties.{fenced_is_log, length_read}

-- What the images of a core's devices hold.

-- ---- lists
drop_past : {A : Type 0} (xs ys : List A) (n m : ℕ) → n ≡ length xs + m → drop n (xs ++ ys) ≡ drop m ys
drop_past [] ys n m e = let z : n ≡ m = omega arith in ap (λ (k : ℕ). drop k ys) z
drop_past (x ∷ xs) ys zero m e = absurd (omega arith)
drop_past (x ∷ xs) ys (suc n) m e = drop_past xs ys n m (omega arith)

-- as many lines of eight words have one shape
same_shape : (xs ys : List (List ℕ)) → AreLines xs → AreLines ys → length xs ≡ length ys → SameShape xs ys
same_shape [] [] a b e = tt
same_shape [] (y ∷ ys) a b e = absurd (omega arith)
same_shape (x ∷ xs) [] a b e = absurd (omega arith)
same_shape (x ∷ xs) (y ∷ ys) a b e = (a.0 ∙ sym b.0, same_shape xs ys a.1 b.1 (omega arith))

-- an image holds one list of entries
entries_in : Option Content → List Segment
entries_in None = []
entries_in (Some content) = content.entries

same_held : (image : List (List ℕ)) (head : LogHead) (ss rs : List Segment) → Holds image head ss → Holds image head rs → ss ≡ rs
unfolding entries_in
same_held image head ss rs h k = ap entries_in (sym h ∙ k)

-- behind a log stand its zeros
unused_zeros : (head : LogHead) (ss : List Segment) (n : ℕ) → unused head ss (log_image head ss n) ≡ zero_lines n
unused_zeros head ss n = drop_at (log_lines head ss) (zero_lines n) (used_with (Some head) ss) (length-log_lines head ss)

-- what an image holds, that it is one of two lists of entries, and what is behind it
record IsHeld {State Op Query Reply : Type 0} (th : CoreThread State Op Query Reply) (writing : Option Segment) (image : List (List ℕ)) : Type 0 where
  pub log : HoldsFenced th writing image
  pub either : Holds image th.head (fenced_entries th.head th.device) ⊎ Holds image th.head (fenced_entries th.head th.device ++ option_to_list writing)
  pub rest : (ss : List Segment) → Holds image th.head ss → HasRest th.head ss image

module _ {State Op Query Reply : Type 0} (count t : ℕ) (th : CoreThread State Op Query Reply) where
  -- ---- no entry is being written
  settled_read : (o : Option Segment) (ph : Phase) (tie : IsTiedDevice count t o th ph) → written_in ph ≡ 0 → th.device.read ≡ th.device.fenced
  settled_read o ph tie none = tie.read ∙ (quiet (written_in ph) none ∙ sym tie.fenced)
    where
      quiet : (n : ℕ) → n ≡ 0 → log_lines th.head tie.log ++ (take n (coming_lines th.head (length tie.log) o) ++ zero_lines tie.free) ≡ log_lines th.head tie.log ++ zero_lines (n + tie.free)
      quiet zero e = let z : tie.free ≡ 0 + tie.free = omega arith in ap (λ (m : ℕ). log_lines th.head tie.log ++ zero_lines m) z
      quiet (suc n) e = absurd (omega arith)

  held_at_rest : (image : List (List ℕ)) → IsImage th.device image → (o : Option Segment) (ph : Phase) (tie : IsTiedDevice count t o th ph) → written_in ph ≡ 0 → IsHeld th None image
  held_at_rest image i o ph tie none =
      let is : image ≡ log_image th.head tie.log (written_in ph + tie.free) = Mixed-same th.device.fenced image (subst (λ (l : List (List ℕ)). Mixed th.device.fenced l image) (settled_read o ph tie none) i) ∙ tie.fenced in
      let holds : Holds image th.head tie.log = subst (λ (l : List (List ℕ)). Holds l th.head tie.log) (sym is) (Holds-log_image th.head tie.log (written_in ph + tie.free) tie.head tie.fits) in
      let log : Holds image th.head (fenced_entries th.head th.device) = subst (Holds image th.head) (sym (fenced_is_log count t th o ph tie)) holds in
      record {
        log = log;
        either = inl log;
        rest = λ ss h. inl (
          written_in ph + tie.free,
          ap (λ (rs : List Segment). unused th.head rs image) (same_held image th.head ss tie.log h holds) ∙ (ap (unused th.head tie.log) is ∙ unused_zeros th.head tie.log (written_in ph + tie.free)),
        );
      }

  shape_at_rest : (o : Option Segment) (ph : Phase) (tie : IsTiedDevice count t o th ph) → written_in ph ≡ 0 → SameShape th.device.fenced th.device.read
  shape_at_rest o ph tie none =
      let lines : AreLines th.device.fenced = subst AreLines (sym tie.fenced) (AreLines-log_image th.head tie.log (written_in ph + tie.free) tie.head tie.fits) in
      let read : th.device.fenced ≡ th.device.read = sym (settled_read o ph tie none) in
      subst (SameShape th.device.fenced) read (same_shape th.device.fenced th.device.fenced lines lines refl)

  -- ---- an entry is being written
  module _ (g : Segment) (ph : Phase) (tie : IsTiedDevice count t (Some g) th ph) (fits : FitsEntry th.head.threads g) (needs : lines_needed ph ≡ suc (length g.nodes)) (low : written_in ph ≤ suc (length g.nodes)) where
    lines : List (List ℕ)
    lines = entry_lines th.head (length tie.log) g

    -- the zeros after the entry
    zeros : ℕ
    zeros = written_in ph + tie.free - suc (length g.nodes)

    read_part : List (List ℕ)
    read_part = take (written_in ph) lines ++ zero_lines tie.free

    among : Among (lines ++ zero_lines zeros) read_part
    unfolding lines zeros read_part
    among =
        let long = length-entry_lines th.head (length tie.log) g in
        let room = tie.space in
        let n : length lines - written_in ph + zeros ≡ tie.free = omega arith in
        subst (λ (m : ℕ). Among (lines ++ zero_lines zeros) (take (written_in ph) lines ++ zero_lines m)) n (Among-front lines (written_in ph) zeros (AreLines-entry_lines th.head (length tie.log) g fits))

    whole : with_entry th g ≡ log_image th.head (tie.log ++ g ∷ []) zeros
    unfolding lines zeros
    whole =
        let front : List (List ℕ) = log_lines th.head tie.log in
        let behind : List (List ℕ) = zero_lines (written_in ph + tie.free) in
        let used = tie.lines in
        let long = length-log_lines th.head tie.log in
        let n : ℕ = suc (length g.nodes) in
        let done : take th.used th.device.fenced ≡ front = ap (take th.used) tie.fenced ∙ take_at front behind th.used (omega arith) in
        let size : length (entry_lines th.head th.logged g) ≡ n = length-entry_lines th.head th.logged g in
        let left : drop (th.used + length (entry_lines th.head th.logged g)) th.device.fenced ≡ zero_lines zeros = ap (λ (m : ℕ). drop (th.used + m) th.device.fenced) size ∙ (ap (drop (th.used + n)) tie.fenced ∙ (drop_past front behind (th.used + n) n (omega arith) ∙ drop-replicate n (written_in ph + tie.free) zero_line)) in
        let here : entry_lines th.head th.logged g ≡ lines = ap (λ (m : ℕ). entry_lines th.head m g) tie.entries in
        (λ i. done i ++ (here i ++ left i)) ∙ sym (log_image-more th.head tie.log g zeros)

    held_coming : (image : List (List ℕ)) → IsImage th.device image → IsHeld th (Some g) image
    unfolding lines zeros read_part
    held_coming image i = record {
      log = torn;
      either = ⊎_elim (λ (h : Holds image th.head tie.log). inl (subst (Holds image th.head) (sym same) h)) (λ (e : image ≡ with_entry th g). inr (torn.appended e)) choice;
      rest = λ ss h. ⊎_elim
          (λ (k : Holds image th.head tie.log). subst (λ (rs : List Segment). HasRest th.head rs image) (same_held image th.head tie.log ss k h) (inr (g, zeros, remains k)))
          (λ (e : image ≡ with_entry th g). inl (zeros, behind e (same_held image th.head ss (tie.log ++ g ∷ []) h (whole_held e)))) choice;
    }
      where
        mixed : Mixed (log_image th.head tie.log (written_in ph + tie.free)) (log_lines th.head tie.log ++ read_part) image
        mixed = subst (λ (l : List (List ℕ) × List (List ℕ)). Mixed l.0 l.1 image) (λ j. (tie.fenced j, tie.read j)) i

        same : fenced_entries th.head th.device ≡ tie.log
        same = fenced_is_log count t th (Some g) ph tie

        torn : TornOrWhole th.head (fenced_entries th.head th.device) g (with_entry th g) image
        torn = subst (λ (z : List Segment × List (List ℕ)). TornOrWhole th.head z.0 g z.1 image) (λ j. (sym same j, sym whole j))
            (TornOrWhole-Among th.head tie.log g (written_in ph + tie.free) zeros read_part image tie.head tie.own.2 tie.fits fits among mixed)

        front : (rest : List (List ℕ)) × (image ≡ log_lines th.head tie.log ++ rest) × Mixed (zero_lines (written_in ph + tie.free)) read_part rest
        front = Mixed-front (log_lines th.head tie.log) (zero_lines (written_in ph + tie.free)) read_part image mixed

        -- what is behind the fenced entries is some of the entry's words
        partial : Among (lines ++ zero_lines zeros) front.0
        partial = FillsLines-then front.0 read_part (lines ++ zero_lines zeros) (Among-mixed (written_in ph + tie.free) read_part front.0 front.2) among

        is_whole : front.0 ≡ lines ++ zero_lines zeros → image ≡ with_entry th g
        is_whole e = front.1 ∙ (ap (λ (l : List (List ℕ)). log_lines th.head tie.log ++ l) e ∙ (sym (log_image-more th.head tie.log g zeros) ∙ sym whole))

        choice : Holds image th.head tie.log ⊎ (image ≡ with_entry th g)
        choice = ⊎_elim (λ (h : Holds (log_lines th.head tie.log ++ front.0) th.head tie.log). inl (subst (λ (l : List (List ℕ)). Holds l th.head tie.log) (sym front.1) h))
            (λ (e : front.0 ≡ lines ++ zero_lines zeros). inr (is_whole e)) (Holds-among th.head tie.log g zeros front.0 tie.head tie.own.2 tie.fits fits partial)

        whole_held : image ≡ with_entry th g → Holds image th.head (tie.log ++ g ∷ [])
        whole_held e = subst (λ (rs : List Segment). Holds image th.head (rs ++ g ∷ [])) same (torn.appended e)

        behind : image ≡ with_entry th g → {rs : List Segment} → rs ≡ tie.log ++ g ∷ [] → unused th.head rs image ≡ zero_lines zeros
        behind e {rs} is = ap (λ (l : List Segment). unused th.head l image) is ∙ (ap (unused th.head (tie.log ++ g ∷ [])) (e ∙ whole) ∙ unused_zeros th.head (tie.log ++ g ∷ []) zeros)

        rest_is : unused th.head tie.log image ≡ front.0
        rest_is = ap (unused th.head tie.log) front.1 ∙ drop_at (log_lines th.head tie.log) front.0 (used_with (Some th.head) tie.log) (length-log_lines th.head tie.log)

        remains : Holds image th.head tie.log → AreRemainsOf th.head tie.log g zeros image
        remains k = record {
          format = tie.own.2;
          fits = fits;
          among = subst (Among (lines ++ zero_lines zeros)) (sym rest_is) partial;
          torn = λ e. let n = ap length (same_held image th.head tie.log (tie.log ++ g ∷ []) k (whole_held (is_whole (sym rest_is ∙ e)))) in absurd (omega (arith, length-append tie.log (g ∷ [])));
        }

    shape_coming : SameShape th.device.fenced th.device.read
    unfolding lines read_part
    shape_coming =
        let fenced : AreLines th.device.fenced = subst AreLines (sym tie.fenced) (AreLines-log_image th.head tie.log (written_in ph + tie.free) tie.head tie.fits) in
        let read : AreLines th.device.read = subst AreLines (sym tie.read) (AreLines-append (log_lines th.head tie.log) read_part (AreLines-log_lines th.head tie.log tie.head tie.fits)
        (AreLines-append (take (written_in ph) lines) (zero_lines tie.free) (AreLines-take (written_in ph) lines (AreLines-entry_lines th.head (length tie.log) g fits)) (AreLines-zero_lines tie.free))) in
        let all = length_read count t th g ph tie low in
        let front = length-log_lines th.head tie.log in
        let used = tie.lines in
        let f = ap length tie.fenced in
        same_shape th.device.fenced th.device.read fenced read (omega (arith, length-append (log_lines th.head tie.log) (zero_lines (written_in ph + tie.free)), length-replicate (written_in ph + tie.free) zero_line))

-- ---- in each phase
module _ {State Op Query Reply : Type 0} (count : ℕ) (c : CoreState State Op Query Reply) (k : IsConsistent count c) (t : ℕ) (th : CoreThread State Op Query Reply) (at : slice_get c.threads t ≡ Some th) where
  tie_in : (ph : Phase) → th.phase ≡ ph → IsTiedDevice count t (pending_in c.trace ph) th ph
  tie_in ph e = subst (λ (z : Phase). IsTiedDevice count t (pending_in c.trace z) th z) e (k.tied t th at)

  -- the entry that is being written
  record IsComing (p d : ℕ) (ph : Phase) (tie : IsTiedDevice count t (Some (window c.trace d p)) th ph) : Type 0 where
    pub fits : FitsEntry th.head.threads (window c.trace d p)
    pub needs : lines_needed ph ≡ suc (length (window c.trace d p).nodes)
    pub low : written_in ph ≤ suc (length (window c.trace d p).nodes)

  coming : (p d : ℕ) (ph : Phase) (tie : IsTiedDevice count t (Some (window c.trace d p)) th ph) → pending_in c.trace th.phase ≡ Some (window c.trace d p) → lines_needed ph ≡ suc (p - d) → written_in ph ≤ suc (p - d) → IsComing p d ph tie
  coming p d ph tie e needs low =
      let w = window_of count c k t th at p d e in
      let size = w.size in
      record { fits = subst (λ (n : ℕ). FitsEntry n (window c.trace d p)) (sym tie.own.1) w.fits; needs = omega arith; low = omega arith }

  held_in : (image : List (List ℕ)) → IsImage th.device image → (ph : Phase) → th.phase ≡ ph → IsHeld th (pending_in c.trace ph) image
  held_in image i phases.Idle e = held_at_rest count t th image i None phases.Idle (tie_in phases.Idle e) refl
  held_in image i (phases.Tail l) e = held_at_rest count t th image i None (phases.Tail l) (tie_in (phases.Tail l) e) refl
  held_in image i (phases.Exchange l) e = held_at_rest count t th image i None (phases.Exchange l) (tie_in (phases.Exchange l) e) refl
  held_in image i (phases.Flag p d) e = held_at_rest count t th image i None (phases.Flag p d) (tie_in (phases.Flag p d) e) refl
  held_in image i (phases.Set p d) e = held_at_rest count t th image i None (phases.Set p d) (tie_in (phases.Set p d) e) refl
  held_in image i (phases.Ask f d) e = held_at_rest count t th image i None (phases.Ask f d) (tie_in (phases.Ask f d) e) refl
  held_in image i (phases.Line p d j) e =
      let tie = tie_in (phases.Line p d j) e in
      let inside = tie.in_entry in
      let x = coming p d (phases.Line p d j) tie (ap (pending_in c.trace) e) refl (omega arith) in
      held_coming count t th (window c.trace d p) (phases.Line p d j) tie x.fits x.needs x.low image i
  held_in image i (phases.Back p d j) e =
      let tie = tie_in (phases.Back p d j) e in
      let inside = tie.in_entry in
      let x = coming p d (phases.Back p d j) tie (ap (pending_in c.trace) e) refl (omega arith) in
      held_coming count t th (window c.trace d p) (phases.Back p d j) tie x.fits x.needs x.low image i
  held_in image i (phases.Fence p d) e =
      let tie = tie_in (phases.Fence p d) e in
      let x = coming p d (phases.Fence p d) tie (ap (pending_in c.trace) e) refl (omega arith) in
      held_coming count t th (window c.trace d p) (phases.Fence p d) tie x.fits x.needs x.low image i

  shape_in : (ph : Phase) → th.phase ≡ ph → SameShape th.device.fenced th.device.read
  shape_in phases.Idle e = shape_at_rest count t th None phases.Idle (tie_in phases.Idle e) refl
  shape_in (phases.Tail l) e = shape_at_rest count t th None (phases.Tail l) (tie_in (phases.Tail l) e) refl
  shape_in (phases.Exchange l) e = shape_at_rest count t th None (phases.Exchange l) (tie_in (phases.Exchange l) e) refl
  shape_in (phases.Flag p d) e = shape_at_rest count t th None (phases.Flag p d) (tie_in (phases.Flag p d) e) refl
  shape_in (phases.Set p d) e = shape_at_rest count t th None (phases.Set p d) (tie_in (phases.Set p d) e) refl
  shape_in (phases.Ask f d) e = shape_at_rest count t th None (phases.Ask f d) (tie_in (phases.Ask f d) e) refl
  shape_in (phases.Line p d j) e =
      let tie = tie_in (phases.Line p d j) e in
      let inside = tie.in_entry in
      let x = coming p d (phases.Line p d j) tie (ap (pending_in c.trace) e) refl (omega arith) in
      shape_coming count t th (window c.trace d p) (phases.Line p d j) tie x.fits x.needs x.low
  shape_in (phases.Back p d j) e =
      let tie = tie_in (phases.Back p d j) e in
      let inside = tie.in_entry in
      let x = coming p d (phases.Back p d j) tie (ap (pending_in c.trace) e) refl (omega arith) in
      shape_coming count t th (window c.trace d p) (phases.Back p d j) tie x.fits x.needs x.low
  shape_in (phases.Fence p d) e =
      let tie = tie_in (phases.Fence p d) e in
      let x = coming p d (phases.Fence p d) tie (ap (pending_in c.trace) e) refl (omega arith) in
      shape_coming count t th (window c.trace d p) (phases.Fence p d) tie x.fits x.needs x.low

  pub image_holds : (image : List (List ℕ)) → IsImage th.device image → HoldsFenced th (pending_in c.trace th.phase) image
  image_holds image i = (held_in image i th.phase refl).log

  pub image_either : (image : List (List ℕ)) → IsImage th.device image
      → Holds image th.head (fenced_entries th.head th.device) ⊎ Holds image th.head (fenced_entries th.head th.device ++ option_to_list (pending_in c.trace th.phase))
  image_either image i = (held_in image i th.phase refl).either

  pub image_rest : (image : List (List ℕ)) (ss : List Segment) → IsImage th.device image → Holds image th.head ss → HasRest th.head ss image
  image_rest image ss i h = (held_in image i th.phase refl).rest ss h

  pub picked_image : (keep : ℕ) → IsImage th.device (image_of th.device keep)
  picked_image keep = Mixed-kept keep 0 th.device.fenced th.device.read (shape_in th.phase refl)
