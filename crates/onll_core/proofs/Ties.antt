use Rattle.std.proofs.Common.{ℕ, suc, ◌≡◌, ◌+◌, ◌-◌, ◌*◌, ◌<◌, ◌≤◌, inl, inr, ⊎_elim, true, false, List, [], ◌∷◌, ◌++◌, length, take, drop, set, Option, Some, None, sym, refl, ap, ◌∙◌, subst, arith, append_assoc, append-nil, length-append, true≢false, get_or-set_same, get_or-set_other}
use Rattle.std.proofs.lemmas.List.{length-set, length-replicate, length-take-le, take_all}
use mathlib.Core.Logic.{dite}
use native.Mathlib.Decide.{ℕ_discrete}
use Rattle.onll_model.specs.Segment.{Segment}
use Rattle.onll_model.proofs.Lists.{all_append}
use Rattle.onll_model.specs.Calls.{updates_in}
use Rattle.onll_pmem.specs.Device.{Write, WriteBack, after_step, line_at, is_marked, zero_line, zero_lines, settled}
use Rattle.onll_pmem.proofs.Lines.{settled-all}
use Rattle.onll_log.specs.Encoding.{entry_lines, log_lines, FitsEntry}
use Rattle.onll_log.specs.Grammar.{entries_from}
use Rattle.onll_log.specs.Append.{written_front}
use Rattle.onll_log.proofs.Encoded.{entries_from-entries_lines, entries_from-zero_lines, log_lines-more, length-entry_lines, length-log_lines}
use Rattle.onll_log.proofs.Append.{set-written_front}
use Rattle.onll_core.specs.declared.phase.Phase.{Phase}
use Rattle.onll_core.specs.declared.phase.Phase.TheVariants as phases
use Rattle.onll_core.specs.declared.returned.Returned.{Returned}
use Rattle.onll_core.specs.Core.{CoreThread}
use Rattle.onll_core.specs.CoreFrame.{fenced_entries}
use Rattle.onll_core.specs.Step.{on_device, logged}
use Rattle.onll_core.specs.Tie.{written_in, lines_needed, IsBehind, InEntry, coming_lines, updates_to_log, IsTiedDevice}

-- The steps on a device keep it tied to its log.

module _ {State Op Query Reply : Type 0} (count t : ℕ) (th : CoreThread State Op Query Reply) where
  -- the log is what the fenced words hold
  pub fenced_is_log : (o : Option Segment) (ph : Phase) (tie : IsTiedDevice count t o th ph) → fenced_entries th.head th.device ≡ tie.log
  fenced_is_log o ph tie = ap (λ (l : List (List ℕ)). entries_from th.head 0 0 (drop 1 l)) tie.fenced ∙ (entries_from-entries_lines th.head tie.log (zero_lines (written_in ph + tie.free)) tie.fits ∙
      (ap (λ (l : List Segment). tie.log ++ l) (entries_from-zero_lines th.head (length tie.log) (written_in ph + tie.free)) ∙ append-nil tie.log))

  -- no step on the device, and no line of an entry is written
  pub tie_moved : (o o' : Option Segment) (ph ph' : Phase) (rs : List (Returned State Op Query Reply)) (began : ℕ) → (tie : IsTiedDevice count t o th ph) → written_in ph ≡ 0 → written_in ph' ≡ 0
      → ((line : ℕ) → IsBehind th.used ph line) → InEntry ph' → updates_to_log (record th { returned = rs; phase = ph'; began = began }) ph' ≡ updates_to_log th ph → lines_needed ph' ≤ tie.free
      → IsTiedDevice count t o' (record th { returned = rs; phase = ph'; began = began }) ph'
  tie_moved o o' ph ph' rs began tie none none' all entry updates needs =
      let front : List (List ℕ) = log_lines th.head tie.log in
      let r = tie.room in
      record {
        log = tie.log;
        free = tie.free;
        head = tie.head;
        own = tie.own;
        fits = tie.fits;
        entries = tie.entries;
        lines = tie.lines;
        in_entry = entry;
        fenced = tie.fenced ∙ (let n : written_in ph + tie.free ≡ written_in ph' + tie.free = omega arith in ap (λ (m : ℕ). front ++ zero_lines m) n);
        read = tie.read ∙ (ap (λ (n : ℕ). front ++ (take n (coming_lines th.head (length tie.log) o) ++ zero_lines tie.free)) none ∙
            ap (λ (n : ℕ). front ++ (take n (coming_lines th.head (length tie.log) o') ++ zero_lines tie.free)) (sym none'));
        marks = tie.marks;
        backed = λ line b. tie.backed line (all line);
        fences = tie.fences;
        room = subst (λ (u : ℕ). u * suc th.head.threads ≤ written_in ph' + tie.free) (sym updates) (omega arith);
        space = omega arith;
      }

  -- ---- the entry that is written
  -- its zeros and those behind it
  pub as_front : (g : Segment) (p d k : ℕ) (tie : IsTiedDevice count t (Some g) th (phases.Line p d k)) → length g.nodes ≡ p - d
      → th.device.read ≡ written_front (log_lines th.head tie.log) (entry_lines th.head (length tie.log) g) k (k + tie.free - suc (p - d))
  as_front g p d k tie size =
      let lines : List (List ℕ) = entry_lines th.head (length tie.log) g in
      let long = length-entry_lines th.head (length tie.log) g in
      let a = tie.in_entry in
      let b = tie.space in
      let n : tie.free ≡ length lines - k + (k + tie.free - suc (p - d)) = omega arith in
      tie.read ∙ ap (λ (m : ℕ). log_lines th.head tie.log ++ (take k lines ++ zero_lines m)) n

  -- the place of the entry's next line
  pub next_line : (o : Option Segment) (ph : Phase) (k : ℕ) (tie : IsTiedDevice count t o th ph) → th.used + k ≡ length (log_lines th.head tie.log) + k
  next_line o ph k tie = let a = tie.lines in let b = length-log_lines th.head tie.log in omega arith

  -- the next line of the entry is written
  pub tie_written : (g : Segment) (p d k : ℕ) (line : List ℕ) → (tie : IsTiedDevice count t (Some g) th (phases.Line p d k)) → length g.nodes ≡ p - d → line ≡ line_at (entry_lines th.head (length tie.log) g) k
      → IsTiedDevice count t (Some g) (on_device th (after_step th.device (Write (th.used + k) line)) (phases.Back p d k)) (phases.Back p d k)
  tie_written g p d k line tie size is =
      let lines : List (List ℕ) = entry_lines th.head (length tie.log) g in
      let front : List (List ℕ) = log_lines th.head tie.log in
      let zeros : ℕ = k + tie.free - suc (p - d) in
      let long = length-entry_lines th.head (length tie.log) g in
      let a = tie.in_entry in
      let b = tie.space in
      let inside : k < length lines = omega arith in
      let was = as_front g p d k tie size in
      let place = next_line (Some g) (phases.Line p d k) k tie in
      let left : length lines - suc k + zeros ≡ tie.free - 1 = omega arith in
      let r = tie.room in
      record {
        log = tie.log;
        free = tie.free - 1;
        head = tie.head;
        own = tie.own;
        fits = tie.fits;
        entries = tie.entries;
        lines = tie.lines;
        in_entry = tie.in_entry;
        fenced = tie.fenced ∙ (let n : k + tie.free ≡ suc k + (tie.free - 1) = omega arith in ap (λ (m : ℕ). front ++ zero_lines m) n);
        read = (λ i. set (was i) (place i) (is i)) ∙ (set-written_front front lines k zeros inside ∙ ap (λ (m : ℕ). front ++ (take (suc k) lines ++ zero_lines m)) left);
        marks = length-set th.device.backed (th.used + k) false ∙ (tie.marks ∙ sym (length-set th.device.read (th.used + k) line));
        backed = λ j other. ⊎_elim
            (λ (h : is_marked th.device.backed j ≡ true). inl (get_or-set_other th.device.backed (th.used + k) j false false (λ x. other x) ∙ h))
            (λ (h : line_at th.device.read j ≡ line_at th.device.fenced j). inr (get_or-set_other th.device.read (th.used + k) j line [] (λ x. other x) ∙ h)) (tie.backed j tt);
        fences = tie.fences;
        room = omega arith;
        space = omega arith;
      }

  -- the lines of the device
  pub length_read : (g : Segment) (ph : Phase) (tie : IsTiedDevice count t (Some g) th ph) → written_in ph ≤ suc (length g.nodes) → length th.device.read ≡ th.used + written_in ph + tie.free
  length_read g ph tie low =
      let lines : List (List ℕ) = entry_lines th.head (length tie.log) g in
      let long = length-entry_lines th.head (length tie.log) g in
      let a = tie.lines in
      let b = length-log_lines th.head tie.log in
      let r = ap length tie.read in
      let inside : written_in ph ≤ length lines = omega arith in
      omega (
        arith,
        length-append (log_lines th.head tie.log) (take (written_in ph) lines ++ zero_lines tie.free),
        length-append (take (written_in ph) lines) (zero_lines tie.free),
        length-take-le (written_in ph) lines inside,
        length-replicate tie.free zero_line,
      )

  -- that line is written back
  pub tie_backed : (g : Segment) (p d k : ℕ) (ph : Phase) → (tie : IsTiedDevice count t (Some g) th (phases.Back p d k)) → length g.nodes ≡ p - d → written_in ph ≡ suc k → InEntry ph
      → updates_to_log th ph ≡ updates_to_log th (phases.Back p d k) → lines_needed ph ≡ suc (p - d) → ((line : ℕ) → IsBehind th.used ph line)
      → updates_to_log (on_device th (after_step th.device (WriteBack (th.used + k))) ph) ph ≡ updates_to_log th ph
      → IsTiedDevice count t (Some g) (on_device th (after_step th.device (WriteBack (th.used + k))) ph) ph
  tie_backed g p d k ph tie size written entry updates needs all still =
      let a = tie.in_entry in
      let long = length_read g (phases.Back p d k) tie (omega arith) in
      let m = tie.marks in
      let low : th.used + k < length th.device.backed = omega arith in
      let r = tie.room in
      let s = tie.space in
      record {
        log = tie.log;
        free = tie.free;
        head = tie.head;
        own = tie.own;
        fits = tie.fits;
        entries = tie.entries;
        lines = tie.lines;
        in_entry = entry;
        fenced = tie.fenced ∙ ap (λ (n : ℕ). log_lines th.head tie.log ++ zero_lines (n + tie.free)) (sym written);
        read = tie.read ∙ ap (λ (n : ℕ). log_lines th.head tie.log ++ (take n (entry_lines th.head (length tie.log) g) ++ zero_lines tie.free)) (sym written);
        marks = length-set th.device.backed (th.used + k) true ∙ tie.marks;
        backed = λ j _. dite (ℕ_discrete j (th.used + k))
            (λ is. inl (ap (is_marked (set th.device.backed (th.used + k) true)) is ∙ get_or-set_same th.device.backed (th.used + k) true false low))
            (λ not. ⊎_elim (λ (h : is_marked th.device.backed j ≡ true). inl (get_or-set_other th.device.backed (th.used + k) j true false (λ x. not x) ∙ h))
            (λ (h : line_at th.device.read j ≡ line_at th.device.fenced j). inr h) (tie.backed j not));
        fences = tie.fences;
        room = subst (λ (u : ℕ). u * suc th.head.threads ≤ written_in ph + tie.free) (sym (still ∙ updates)) (omega arith);
        space = omega arith;
      }

  -- the entry is fenced
  pub tie_fenced : (g : Segment) (p d : ℕ) → (tie : IsTiedDevice count t (Some g) th (phases.Fence p d)) → length g.nodes ≡ p - d → FitsEntry th.head.threads g
      → updates_in (drop (length th.returned) th.script) ≡ suc (updates_in (drop (suc (length th.returned)) th.script)) → p - d ≤ th.head.threads
      → (tie' : IsTiedDevice count t None (logged th (p - d) (phases.Set p d)) (phases.Set p d)) × (tie'.log ≡ tie.log ++ g ∷ [])
  tie_fenced g p d tie size fits more few =
      let lines : List (List ℕ) = entry_lines th.head (length tie.log) g in
      let front : List (List ℕ) = log_lines th.head tie.log in
      let long = length-entry_lines th.head (length tie.log) g in
      let whole : take (suc (p - d)) lines ≡ lines = take_all (suc (p - d)) lines (omega arith) in
      let longer : log_lines th.head (tie.log ++ g ∷ []) ≡ front ++ lines = log_lines-more th.head tie.log g in
      let read : th.device.read ≡ log_lines th.head (tie.log ++ g ∷ []) ++ zero_lines tie.free = tie.read ∙ (ap (λ (l : List (List ℕ)). front ++ (l ++ zero_lines tie.free)) whole ∙
      (sym (append_assoc front lines (zero_lines tie.free)) ∙ ap (λ (l : List (List ℕ)). l ++ zero_lines tie.free) (sym longer))) in
      let all = length_read g (phases.Fence p d) tie (omega arith) in
      let u = tie.lines in
      let b = length-log_lines th.head tie.log in
      let f = ap length tie.fenced in
      let same : length th.device.fenced ≡ length th.device.read = omega (arith, length-append front (zero_lines (suc (p - d) + tie.free)), length-replicate (suc (p - d) + tie.free) zero_line) in
      let now : settled th.device.backed th.device.fenced th.device.read ≡ th.device.read = settled-all th.device.backed th.device.fenced th.device.read (record {
        marks = tie.marks;
        lines = same;
        each = λ line unmarked. ⊎_elim (λ (h : is_marked th.device.backed line ≡ true). absurd (true≢false (sym h ∙ unmarked))) (λ (h : line_at th.device.read line ≡ line_at th.device.fenced line). sym h) (tie.backed line tt);
      }) in
      let e = tie.entries in
      let n = tie.fences in
      let l = length-log_lines th.head (tie.log ++ g ∷ []) in
      let l' = ap length longer in (
        record {
          log = tie.log ++ g ∷ [];
          free = tie.free;
          head = tie.head;
          own = tie.own;
          fits = all_append (FitsEntry th.head.threads) tie.log (g ∷ []) tie.fits (fits, tt);
          entries = omega (arith, length-append tie.log (g ∷ []));
          lines = omega (arith, length-append front lines);
          in_entry = tt;
          fenced = now ∙ (read ∙ (let z : tie.free ≡ 0 + tie.free = omega arith in ap (λ (m : ℕ). log_lines th.head (tie.log ++ g ∷ []) ++ zero_lines m) z));
          read = read;
          marks = tie.marks;
          backed = λ line _. inr (sym (ap (λ (l : List (List ℕ)). line_at l line) now));
          fences = omega arith;
          room = smaller (updates_in (drop (length th.returned) th.script)) (updates_in (drop (suc (length th.returned)) th.script)) th.head.threads (p - d) tie.free more few tie.room;
          space = omega arith;
        },
        refl,
      )
    where
      smaller : (a b c n r : ℕ) → a ≡ suc b → n ≤ c → a * suc c ≤ suc n + r → b * suc c ≤ 0 + r
      smaller a b c n r e f h = let k : suc b * suc c ≡ b * suc c + suc c = grind arith in let m : a * suc c ≡ suc b * suc c = ap (λ (x : ℕ). x * suc c) e in omega arith
