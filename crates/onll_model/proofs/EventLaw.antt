use Rattle.std.proofs.Common.{◌≡◌, ◌≢◌, ℕ, zero, suc, ◌+◌, ◌-◌, ◌<◌, ◌≤◌, max, Bool, true, false, List, [], ◌∷◌, ◌++◌, length, take, drop, set, Option, Some, None, refl, sym, ap, ◌∙◌, subst, ⊎_elim, arith, length-append, true≢false, eq-eqb, ne_eqb}
use Rattle.std.specs.Prelude.{if◌then◌else◌}
use Rattle.std.specs.List.{AllByRecursion, slice_get}
use mathlib.Core.Logic.{dite}
use native.Mathlib.Decide.{ℕ_discrete}
use Rattle.onll_words.specs.declared.line.OpRow.{OpRow}
use Rattle.onll_model.specs.declared.node.Node.{Node}
use Rattle.onll_model.specs.Frames.{Frame, Thread, Activity, Rest, Loaded, Walk, Logging, Fenced, Asking, Sound, Based, IsAvailable, is_available, IsQuiet, Follows}
use Rattle.onll_model.specs.Events.{Event, UpdateTail, Won, Lost, FlagSet, FlagUnset, Fence, Set, ReadTail, Withdraw, Fail, MakeNote, Learn, thread_of, with_thread, with_flag, with_node, with_notes, doing, resting_at, logging, fencing, stuck_at, next_node, at_set_flag, at_unset_flag, asking, after_fence, after_fail, after_set, after_learn, after_by, after, MayLoad, LoadsNext, Allows, Possible}
use Rattle.onll_model.specs.FrameLaws.{SoundOver}
use Rattle.onll_model.proofs.Lists.{present, all_at, all_append, all_take, all_drop}
use Rattle.onll_model.proofs.Traces.{node_place}
use Rattle.onll_model.proofs.Flags.{flag_before, flag_set}
use Rattle.onll_model.proofs.FrameParts.{each_put, own_of, free_of, open_free, in_trace}
use Rattle.onll_model.proofs.FrameSteps.{look_sound, look_again_sound, withdraw_sound, walk_on_sound, ask_sound, ask_on_sound, rest_sound, ask_ends_sound, ask_base_sound, learn_sound, notes_sound}
use Rattle.onll_model.proofs.FrameLogs.{walk_ends_sound, walk_base_sound, fence_sound, fail_sound, set_sound}
use Rattle.onll_model.proofs.FrameLinks.{won_walks_sound, won_base_sound}

-- Each event keeps a frame sound, and its base.

pub based_put : (b : ℕ) (f : Frame) (t : ℕ) (w : Thread) → Based b f → b ≤ w.seen → Based b (with_thread f t w)
based_put b f t w k low = record { long = k.long; available = k.available; all_seen = each_put (λ u z. b ≤ z.seen) f.threads t w low (λ u z _ e. k.all_seen u z e) }

pub based_notes : (b : ℕ) (f : Frame) (notes : List ℕ) → Based b f → Based b (with_notes f notes)
based_notes b f notes k = record { long = k.long; available = k.available; all_seen = k.all_seen }

pub based_node : (count b : ℕ) (f : Frame) (x : Node) → Sound count f → Based b f → Based b (with_node f x)
based_node count b f x s k = let low = k.long in let n = s.flags in record {
  long = omega (arith, length-append f.trace (x ∷ []));
  available = λ p le. flag_before f.flags (false ∷ []) p (omega arith) ∙ k.available p le;
  all_seen = k.all_seen;
}

pub based_flag : (b : ℕ) (f : Frame) (p : ℕ) → Based b f → 1 ≤ p → p ≤ length f.flags → Based b (with_flag f p)
based_flag b f p k low high = record {
  long = k.long;
  available = λ q le. ⊎_elim (λ (h : (q ≡ p) × (is_available (set f.flags (p - 1) true) q ≡ true)). h.1)
      (λ (h : (q ≢ p) × (is_available (set f.flags (p - 1) true) q ≡ is_available f.flags q)). h.1 ∙ k.available q le) (flag_set f.flags p q low high);
  all_seen = k.all_seen;
}

module _ (count b : ℕ) (f : Frame) (s : Sound count f) (k : Based b f) (t : ℕ) (th : Thread) (at : slice_get f.threads t ≡ Some th) where
  low : b ≤ th.seen
  low = k.all_seen t th at

  over : (w : Thread) → Sound count (with_thread f t w) → b ≤ w.seen → SoundOver count b (with_thread f t w)
  over w sound le = record { sound = sound; based = based_put b f t w k le }

  -- an unset flag is above the base
  above : (d : ℕ) → is_available f.flags d ≡ false → b < d
  above d unset = dite (native.Mathlib.Decide.dec_le d b) (λ le. absurd (true≢false (sym (k.available d le) ∙ unset))) (λ gt. omega arith)

  look_over : (a : Activity) → th.activity ≡ a → th.stuck ≡ None → MayLoad a → SoundOver count b (with_thread f t (doing th (Loaded (length f.trace))))
  look_over Rest is free m = over (doing th (Loaded (length f.trace))) (look_sound count f t th s at is free) low
  look_over (Loaded l) is free m = over (doing th (Loaded (length f.trace))) (look_again_sound count f t th l s at is) low
  look_over (Walk p d) is free m = absurd m
  look_over (Logging p n) is free m = absurd m
  look_over (Fenced p n) is free m = absurd m
  look_over (Asking q d) is free m = absurd m

  won_over : (row : OpRow) → th.activity ≡ Loaded (length f.trace) → SoundOver count b (after_by b f (Won t row) (Some th))
  won_over row is =
      let l : ℕ = length f.trace in
      let x : Node = next_node f.trace t row in
      let next : suc l ≡ l + 1 = omega arith in
      let g : Frame = with_node f x in
      let kept = based_node count b f x s k in
      dite (ℕ_discrete l b)
      (λ same. let last : suc b ≡ l + 1 = omega arith in
      subst (λ (c : Bool). SoundOver count b (with_thread g t (if c then logging th g.trace b (l + 1) else doing th (Walk (l + 1) l)))) (sym (eq-eqb l b same))
      (subst (λ (p : ℕ). SoundOver count b (with_thread g t (logging th g.trace b p))) last record {
        sound = won_base_sound count f t th l x s at is refl refl b same (k.available b (omega arith));
        based = based_put b g t (logging th g.trace b (suc b)) kept low;
      }))
      (λ other. let long = k.long in
      subst (λ (c : Bool). SoundOver count b (with_thread g t (if c then logging th g.trace b (l + 1) else doing th (Walk (l + 1) l)))) (sym (ne_eqb l b other))
      (subst (λ (p : ℕ). SoundOver count b (with_thread g t (doing th (Walk p l)))) next record {
        sound = won_walks_sound count f t th l x s at is refl refl (omega arith);
        based = based_put b g t (doing th (Walk (suc l) l)) kept low;
      }))

  set_flag_over : (a : Activity) → th.activity ≡ a → LoadsNext (λ d. is_available f.flags d ≡ true) a → SoundOver count b (with_thread f t (at_set_flag th f.trace a))
  set_flag_over Rest is l = absurd l
  set_flag_over (Loaded n) is l = absurd l
  set_flag_over (Walk p d) is l = over (logging th f.trace d p) (walk_ends_sound count f t th p d s at is l) low
  set_flag_over (Logging p n) is l = absurd l
  set_flag_over (Fenced p n) is l = absurd l
  set_flag_over (Asking q d) is l = let fol = subst (Follows f.trace th.seen) is (s.follows t th at) in let above = fol.0 in let le = low in
      over (resting_at th d) (ask_ends_sound count f t th q d s at is l) (omega arith)

  unset_flag_over : (a : Activity) → th.activity ≡ a → LoadsNext (λ d. is_available f.flags d ≡ false) a → SoundOver count b (with_thread f t (at_unset_flag b th f.trace a))
  unset_flag_over Rest is l = absurd l
  unset_flag_over (Loaded n) is l = absurd l
  unset_flag_over (Walk p zero) is l = absurd (true≢false l)
  unset_flag_over (Walk p (suc d)) is l = dite (ℕ_discrete (suc d) (b + 1))
      (λ same. let last : suc d ≡ suc b = omega arith in
      subst (λ (c : Bool). SoundOver count b (with_thread f t (if c then logging th f.trace b p else doing th (Walk p (suc d - 1))))) (sym (eq-eqb (suc d) (b + 1) same))
      (over (logging th f.trace b p) (walk_base_sound count f t th p b s at (is ∙ ap (Walk p) last) (ap (is_available f.flags) (sym last) ∙ l) (k.available b (omega arith))) low))
      (λ other. let next : d ≡ suc d - 1 = omega arith in let up = above (suc d) l in
      subst (λ (c : Bool). SoundOver count b (with_thread f t (if c then logging th f.trace b p else doing th (Walk p (suc d - 1))))) (sym (ne_eqb (suc d) (b + 1) other))
      (subst (λ (n : ℕ). SoundOver count b (with_thread f t (doing th (Walk p n)))) next (over (doing th (Walk p d)) (walk_on_sound count f t th p d s at is (omega arith) l) low)))
  unset_flag_over (Logging p n) is l = absurd l
  unset_flag_over (Fenced p n) is l = absurd l
  unset_flag_over (Asking q zero) is l = absurd (true≢false l)
  unset_flag_over (Asking q (suc d)) is l = dite (ℕ_discrete (suc d) (b + 1))
      (λ same. let last : suc d ≡ suc b = omega arith in
      subst (λ (c : Bool). SoundOver count b (with_thread f t (if c then resting_at th b else doing th (Asking q (suc d - 1))))) (sym (eq-eqb (suc d) (b + 1) same))
      (over (resting_at th b) (ask_base_sound count f t th q b s at (is ∙ ap (Asking q) last) (ap (is_available f.flags) (sym last) ∙ l) (k.available b (omega arith))) (omega arith)))
      (λ other. let next : d ≡ suc d - 1 = omega arith in let up = above (suc d) l in
      subst (λ (c : Bool). SoundOver count b (with_thread f t (if c then resting_at th b else doing th (Asking q (suc d - 1))))) (sym (ne_eqb (suc d) (b + 1) other))
      (subst (λ (n : ℕ). SoundOver count b (with_thread f t (doing th (Asking q n)))) next (over (doing th (Asking q d)) (ask_on_sound count f t th q d s at is (omega arith) l) low)))

  ask_over : th.activity ≡ Rest → SoundOver count b (with_thread f t (asking b th (length f.trace)))
  ask_over is =
      let l : ℕ = length f.trace in
      let long = k.long in
      dite (ℕ_discrete l b)
      (λ same. let seen = in_trace count f s th.seen (s.seen t th at) in
      subst (λ (c : Bool). SoundOver count b (with_thread f t (if c then resting_at th b else doing th (Asking l l)))) (sym (eq-eqb l b same))
      (over (resting_at th b) (rest_sound count f t th b s at (subst IsQuiet (sym is) tt) (omega arith) (k.available b (omega arith))) (omega arith)))
      (λ other. subst (λ (c : Bool). SoundOver count b (with_thread f t (if c then resting_at th b else doing th (Asking l l)))) (sym (ne_eqb l b other))
      (over (doing th (Asking l l)) (ask_sound count f t th s at is (omega arith)) low))

  set_over : (p n : ℕ) → th.activity ≡ Fenced p n → SoundOver count b (with_thread (with_flag f p) t (resting_at th p))
  set_over p n is =
      let free = free_of count f th (Fenced p n) (own_of count f s t th at) is (λ q. q) in
      let last = s.opened t th at p (open_free th (Fenced p n) free is) in
      let here = node_place f.trace p last.node last.here in
      let high = here.1 in
      let e = s.flags in
      let fol = subst (Follows f.trace th.seen) is (s.follows t th at) in
      let le = low in
      record { sound = set_sound count f t th p n s at is; based = based_put b (with_flag f p) t (resting_at th p) (based_flag b f p k here.0 (omega arith)) (omega arith) }

  note_over : (notes : List ℕ) → AllByRecursion (IsAvailable f) notes → SoundOver count b (with_notes f notes)
  note_over notes all = record { sound = notes_sound count f notes s all; based = based_notes b f notes k }

  learn_over : (i : ℕ) → th.activity ≡ Rest → i < length f.notes → SoundOver count b (after_learn f t th i (slice_get f.notes i))
  learn_over i is less =
      let note = present f.notes i less in
      let p : ℕ = note.0 in
      let rest : List ℕ = take i f.notes ++ drop (i + 1) f.notes in
      let kept = note_over rest (all_append (IsAvailable f) (take i f.notes) (drop (i + 1) f.notes) (all_take (IsAvailable f) i f.notes s.notes) (all_drop (IsAvailable f) (i + 1) f.notes s.notes)) in
      let le = low in
      subst (λ (o : Option ℕ). SoundOver count b (after_learn f t th i o)) (sym note.1) record {
        sound = learn_sound count (with_notes f rest) t th p kept.sound at is (all_at (IsAvailable f) f.notes s.notes i p note.1);
        based = based_put b (with_notes f rest) t (resting_at th (max th.seen p)) kept.based (omega arith);
      }

event_by : (count b : ℕ) (f : Frame) (e : Event) → Sound count f → Based b f → (th : Thread) → slice_get f.threads (thread_of e) ≡ Some th → Allows f th e
    → SoundOver count b (after_by b f e (Some th))
event_by count b f (UpdateTail t) s k th at a = look_over count b f s k t th at th.activity refl a.0 a.1
event_by count b f (Won t row) s k th at a = won_over count b f s k t th at row a
event_by count b f (Lost t) s k th at a = record { sound = s; based = k }
event_by count b f (FlagSet t) s k th at a = set_flag_over count b f s k t th at th.activity refl a
event_by count b f (FlagUnset t) s k th at a = unset_flag_over count b f s k t th at th.activity refl a
event_by count b f (Fence t) s k th at a = subst (λ (x : Activity). SoundOver count b (with_thread f t (after_fence th x))) (sym a.2)
    (over count b f s k t th at (fencing th a.0 a.1) (fence_sound count f t th a.0 a.1 s at a.2) (k.all_seen t th at))
event_by count b f (Set t) s k th at a = subst (λ (x : Activity). SoundOver count b (after_set f t th x)) (sym a.2) (set_over count b f s k t th at a.0 a.1 a.2)
event_by count b f (ReadTail t) s k th at a = ask_over count b f s k t th at a
event_by count b f (Withdraw t) s k th at a = over count b f s k t th at (doing th Rest) (withdraw_sound count f t th a.0 s at a.1) (k.all_seen t th at)
event_by count b f (Fail t) s k th at a = subst (λ (x : Activity). SoundOver count b (with_thread f t (after_fail th x))) (sym a.2)
    (over count b f s k t th at (stuck_at th a.0) (fail_sound count f t th a.0 a.1 s at a.2) (k.all_seen t th at))
event_by count b f (MakeNote t) s k th at a = note_over count b f s k t th at (f.notes ++ th.seen ∷ []) (all_append (IsAvailable f) f.notes (th.seen ∷ []) s.notes (s.seen t th at, tt))
event_by count b f (Learn t i) s k th at a = learn_over count b f s k t th at i a.0 a.1

pub event_sound : (count b : ℕ) (f : Frame) (e : Event) → SoundOver count b f → Possible f e → SoundOver count b (after b f e)
event_sound count b f e k p = subst (λ (o : Option Thread). SoundOver count b (after_by b f e o)) (sym p.here) (event_by count b f e k.sound k.based p.thread p.here p.allowed)
