-- What was found in files, and the logs that are opened of it.
use Rattle.std.proofs.Common.{ℕ, zero, suc, ◌≡◌, ◌+◌, ◌*◌, ◌-◌, ◌≤◌, ◌==◌, max, Bool, true, false, List, [], ◌∷◌, length, map, Option, Some, None, IsSome, Result, Ok, Err, cond, inl, inr, ◌⊎◌, refl, sym, ap, ◌∙◌, subst, arith}
use Rattle.std.specs.Prelude.{All, ◌||◌}
use Rattle.std.specs.Option.{option_or, option_map, is_some}
use Rattle.std.specs.List.{AllByRecursion, slice_get}
use Rattle.std.proofs.lemmas.List.{length-map}
use Rattle.std.proofs.lemmas.List.Elements.{All-from_recursion}
use Rattle.onll_model.specs.declared.node.Node.{Node}
use Rattle.onll_model.specs.Object.{Behaviour}
use Rattle.onll_model.specs.Recovered.{operations_front}
use Rattle.onll_model.proofs.Lists.{same_some, some_not_none}
use Rattle.onll_pmem.specs.Pmem.{DeviceView}
use Rattle.onll_log.specs.declared.head.LogHead.{LogHead}
use Rattle.onll_log.specs.Grammar.{Content, content_of, used_with, lines_in}
use Rattle.onll_log.specs.Log.{LogState, free_of}
use Rattle.onll_log.specs.Tested.{used_in}
use Rattle.onll_merge.specs.declared.counts.LogCounts.{LogCounts}
use Rattle.onll_merge.specs.declared.fault.RecoverFault.{RecoverFault}
use Rattle.onll_merge.specs.declared.fault.ImagesFault.{ImagesFault}
use Rattle.onll_merge.specs.declared.fault.StateFault.{StateFault}
use Rattle.onll_merge.specs.declared.fault.StateFault.TheVariants.{NotOperation}
use Rattle.onll_merge.specs.Laws.{HeadsFit}
use Rattle.onll_merge.specs.Merge.{merge}
use Rattle.onll_merge.specs.Recovered.{Recovered, content_before, contents_from, log_counts, recovered_with, with_logs, merged, with_operations, state_recovered}
use Rattle.onll_merge.proofs.Backs.{merge-back}
use Rattle.onll_outside.specs.Views.{StoreView}
use Rattle.onll_shared.specs.Found.{content_held, head_held}
use Rattle.onll_shared.specs.Passes.{OnllView, PassView, log_of, spot_of}
use Rattle.onll_shared.specs.Starts.{IsWholeLogOf, HasBegun, IsNewcomer, room_of}
use Rattle.onll_log.specs.Head.{AreHeads}
use Rattle.onll_run.specs.Making.{StandsBy, AllCanOpen, AreOpen}
use Rattle.onll_run.proofs.Headers.{opened_lines}
use Rattle.onll_run.proofs.Merging.{SameEntries, merge_filled}
use Rattle.onll_open.specs.Names.{log_name}
use Rattle.onll_open.specs.Files.{FilesHold, StandsFor, StandFor, FilesBegin, AreRead, SameLogs, front_in}
use Rattle.onll_open.specs.Devices.{AreHeld, AreReopened, AreWithin, HaveHeadLines, fronts_by}
use Rattle.onll_open.specs.Rooms.{lines_with, lines_for, most_lines}
use Rattle.onll_open.specs.declared.fault.FilesFault.{FilesFault}
use Rattle.onll_open.specs.declared.fault.FilesFault.TheVariants as files
use Rattle.onll_open.specs.Misfits.{head_in, head_of_content, has_entries, content_has_entries, is_old, other_number, first_old, other_threads, have_entries, first_headless, first_gone, misfit, with_misfit, found_in}
use Rattle.onll_open.specs.Opening.{FilesGive, FilesRefuse, HasFound, HasRoomIn, AreOpenLogs, HaveLines, IsRoomy, IsShortLog}
use Rattle.onll_open.proofs.ReadImages.{begins_there, holds_there, stand_long}
use Rattle.onll_open.proofs.RoomSteps.{HaveRoom, have_room}
use Rattle.onll_open.proofs.Reopening.{AreSound, are_sound, are_within, head_lines, AreReady, can_open, fronts_as}

-- ---- files that are the same
pub hold_same : (a b : StoreView) (logs : List ℕ) (t : ℕ) (images : List (List (List ℕ))) → SameLogs logs a b → FilesHold logs t images a → FilesHold logs t images b
hold_same a b logs t [] same h = tt
hold_same a b logs t (image ∷ images) same h = (holds_there a b (log_name logs t) image same.tells (same.file t) h.0, hold_same a b logs (suc t) images same h.1)

begin_same : (a b : StoreView) (logs : List ℕ) (t : ℕ) (lines : List (List (List ℕ))) → SameLogs logs a b → FilesBegin logs t lines a → FilesBegin logs t lines b
begin_same a b logs t [] same h = tt
begin_same a b logs t (l ∷ lines) same h = (begins_there a b (log_name logs t) l same.tells (same.file t) h.0, begin_same a b logs (suc t) lines same h.1)

pub read_there : (a b : StoreView) (logs : List ℕ) (lines : List (List (List ℕ))) → SameLogs logs a b → AreRead logs lines a → AreRead logs lines b
read_there a b logs lines same r = record { images = r.images; hold = hold_same a b logs 0 r.images same r.hold; stand = r.stand; begin = begin_same a b logs 0 (map front_in lines) same r.begin }

-- ---- what lines give, images give
contents_stand : (i : ℕ) (lines images : List (List (List ℕ))) → StandFor lines images → contents_from i lines ≡ contents_from i images
contents_stand i [] [] s = refl
contents_stand i [] (image ∷ images) s = absurd s
contents_stand i (l ∷ lines) [] s = absurd s
contents_stand i (l ∷ lines) (image ∷ images) s =
    ap (λ c. content_before i c (contents_from (i + 1) lines)) s.0.content ∙ ap (content_before i (content_of image)) (contents_stand (i + 1) lines images s.1)

head_stands : (l image : List (List ℕ)) → StandsFor l image → head_in l ≡ head_in image
head_stands l image s = ap head_of_content s.content

old_stand : (i : ℕ) (lines images : List (List (List ℕ))) → StandFor lines images → first_old i lines ≡ first_old i images
old_stand i [] [] s = refl
old_stand i [] (image ∷ images) s = absurd s
old_stand i (l ∷ lines) [] s = absurd s
old_stand i (l ∷ lines) (image ∷ images) s =
    ap (λ h. cond {A = Option ℕ} (is_old h) (Some i) (first_old (i + 1) lines)) (head_stands l image s.0)
    ∙ ap (cond {A = Option ℕ} (is_old (head_in image)) (Some i)) (old_stand (i + 1) lines images s.1)

threads_stand : (n : ℕ) (lines images : List (List (List ℕ))) → StandFor lines images → other_threads n lines ≡ other_threads n images
threads_stand n [] [] s = refl
threads_stand n [] (image ∷ images) s = absurd s
threads_stand n (l ∷ lines) [] s = absurd s
threads_stand n (l ∷ lines) (image ∷ images) s =
    ap (λ h. option_or (other_number n h) (other_threads n lines)) (head_stands l image s.0)
    ∙ ap (option_or (other_number n (head_in image))) (threads_stand n lines images s.1)

entries_stand : (lines images : List (List (List ℕ))) → StandFor lines images → have_entries lines ≡ have_entries images
entries_stand [] [] s = refl
entries_stand [] (image ∷ images) s = absurd s
entries_stand (l ∷ lines) [] s = absurd s
entries_stand (l ∷ lines) (image ∷ images) s =
    ap (λ c. content_has_entries c || have_entries lines) s.0.content ∙ ap (λ b. has_entries image || b) (entries_stand lines images s.1)

headless_stand : (i : ℕ) (lines images : List (List (List ℕ))) → StandFor lines images → first_headless i lines ≡ first_headless i images
headless_stand i [] [] s = refl
headless_stand i [] (image ∷ images) s = absurd s
headless_stand i (l ∷ lines) [] s = absurd s
headless_stand i (l ∷ lines) (image ∷ images) s =
    ap (λ h. cond {A = Option ℕ} (is_some h) (first_headless (i + 1) lines) (Some i)) (head_stands l image s.0)
    ∙ ap (λ r. cond {A = Option ℕ} (is_some (head_in image)) r (Some i)) (headless_stand (i + 1) lines images s.1)

misfit_stands : (n : ℕ) (lines images : List (List (List ℕ))) → StandFor lines images → misfit n lines ≡ misfit n images
misfit_stands n lines images s =
    ap (λ o. option_or (option_map files.OldFormat o) (option_or (option_map files.Threads (other_threads n lines)) (option_map files.Gone (first_gone lines)))) (old_stand 0 lines images s)
    ∙ ap (λ o. option_or (option_map files.OldFormat (first_old 0 images)) (option_or (option_map files.Threads o) (option_map files.Gone (first_gone lines)))) (threads_stand n lines images s)
    ∙ ap (λ b. option_or (option_map files.OldFormat (first_old 0 images)) (option_or (option_map files.Threads (other_threads n images)) (option_map files.Gone (cond {A = Option ℕ} b (first_headless 0 lines) None)))) (entries_stand lines images s)
    ∙ ap (λ o. option_or (option_map files.OldFormat (first_old 0 images)) (option_or (option_map files.Threads (other_threads n images)) (option_map files.Gone (cond {A = Option ℕ} (have_entries images) o None)))) (headless_stand 0 lines images s)

pub used_all : (lines images : List (List (List ℕ))) → StandFor lines images → AllByRecursion (λ image. length image ≤ used_in (content_of image)) lines
used_all [] [] s = tt
used_all [] (image ∷ images) s = absurd s
used_all (l ∷ lines) [] s = absurd s
used_all (l ∷ lines) (image ∷ images) s = (subst (λ c. length l ≤ used_in c) (sym s.0.content) s.0.few, used_all lines images s.1)

module _ {State Op Query Reply : Type 0} (b : Behaviour State Op Query Reply) where
  pub files_give : (store : StoreView) (logs : List ℕ) (heads : List LogHead) (lines : List (List (List ℕ))) (r : Result Recovered FilesFault) → AreRead logs lines store → length lines ≡ length heads → found_in b heads lines ≡ r
      → FilesGive b store logs heads r
  files_give store logs heads lines r read many e = record {
    images = read.images;
    many = sym (stand_long lines read.images read.stand) ∙ many;
    hold = read.hold;
    gives = ap (λ m. with_misfit m (state_recovered b heads read.images)) (sym (misfit_stands (length heads) lines read.images read.stand))
        ∙ (ap (λ c. with_misfit (misfit (length heads) lines) (with_operations b (merged heads c))) (sym (contents_stand 0 lines read.images read.stand)) ∙ e);
  }

  pub gives_found : (store : StoreView) (logs : List ℕ) (heads : List LogHead) (threads : ℕ) (lines : List (List (List ℕ))) (found : Recovered) → HasFound b store logs heads threads lines found → FilesGive b store logs heads (Ok found)
  gives_found store logs heads threads lines found h = files_give store logs heads lines (Ok found) h.read (h.many ∙ sym h.count) h.gives

  pub give_same : (a z : StoreView) (logs : List ℕ) (heads : List LogHead) (r : Result Recovered FilesFault) → SameLogs logs a z → FilesGive b a logs heads r → FilesGive b z logs heads r
  give_same a z logs heads r same g = record { images = g.images; many = g.many; hold = hold_same a z logs 0 g.images same g.hold; gives = g.gives }

-- ---- the parts of what was recovered
by_misfit : (m : Option FilesFault) (r : Result Recovered StateFault) (found : Recovered) → with_misfit m r ≡ Ok found → r ≡ Ok found
by_misfit m (Err f) found e = absurd (cc)
by_misfit (Some f) (Ok x) found e = absurd (cc)
by_misfit None (Ok x) found e = cc

by_operations : {State Op Query Reply : Type 0} (b : Behaviour State Op Query Reply) (r : Result Recovered ImagesFault) (found : Recovered) → with_operations b r ≡ Ok found → r ≡ Ok found
by_operations b (Err f) found e = absurd (cc)
by_operations b (Ok x) found e = ap Ok (by_test (length (operations_front b x.nodes) == length x.nodes) e)
  where
    by_test : (t : Bool) → cond {A = Result Recovered StateFault} t (Ok x) (Err (NotOperation (length (operations_front b x.nodes) + 1))) ≡ Ok found → x ≡ found
    by_test true e = cc
    by_test false e = absurd (cc)

-- the logs of images that give this
pub record Parts (heads : List LogHead) (c : Result (List Content) ImagesFault) (found : Recovered) : Type 0 where
  pub logs : List Content
  pub contents : c ≡ Ok logs
  pub merged_is : merge heads logs ≡ Ok found.nodes
  pub counts : found.logs ≡ map log_counts logs

by_merged : (heads : List LogHead) (c : Result (List Content) ImagesFault) (found : Recovered) → merged heads c ≡ Ok found → Parts heads c found
by_merged heads (Err fault) found e = absurd (cc)
by_merged heads (Ok logs) found e = by_nodes (merge heads logs) refl e
  where
    by_nodes : (m : Result (List Node) RecoverFault) → merge heads logs ≡ m → with_logs logs m ≡ Ok found → Parts heads (Ok logs) found
    by_nodes (Err fault) is e = absurd (cc)
    by_nodes (Ok nodes) is e =
        let same : recovered_with logs nodes ≡ found = (cc) in
        record { logs = logs; contents = refl; merged_is = is ∙ ap (λ (r : Recovered). Ok r.nodes) same; counts = sym (ap (λ (r : Recovered). r.logs) same) }

before_ok : (i : ℕ) (o : Option Content) (r : Result (List Content) ImagesFault) (logs : List Content) → content_before i o r ≡ Ok logs
    → (c : Content) × (cs : List Content) × (o ≡ Some c) × (r ≡ Ok cs) × (logs ≡ c ∷ cs)
before_ok i None r logs e = absurd (cc)
before_ok i (Some c) (Err fault) logs e = absurd (cc)
before_ok i (Some c) (Ok cs) logs e = (c, cs, refl, refl, (cc))

pub contents_are : (i : ℕ) (images : List (List (List ℕ))) (logs : List Content) → contents_from i images ≡ Ok logs → map content_of images ≡ map Some logs
contents_are i [] logs e = let none : [] ≡ logs = (cc) in ap (map Some) none
contents_are i (image ∷ images) logs e =
    let x = before_ok i (content_of image) (contents_from (i + 1) images) logs e in
    let rest = contents_are (i + 1) images x.1 x.3 in
    let here = x.2 in
    (λ j. here j ∷ rest j) ∙ ap (map Some) (sym x.4)

pub found_parts : {State Op Query Reply : Type 0} (b : Behaviour State Op Query Reply) (heads : List LogHead) (images : List (List (List ℕ))) (found : Recovered) → found_in b heads images ≡ Ok found
    → Parts heads (contents_from 0 images) found
found_parts b heads images found e =
    by_merged heads (contents_from 0 images) found (by_operations b (merged heads (contents_from 0 images)) found (by_misfit (misfit (length heads) images) (state_recovered b heads images) found e))

some_there : {A : Type 0} (o : Option A) (x : A) → o ≡ Some x → IsSome o
some_there o x e = subst (λ (p : Option _). IsSome p) (sym e) refl

pub all_logs : (images : List (List (List ℕ))) (logs : List Content) → map content_of images ≡ map Some logs → AllByRecursion (λ image. IsSome (content_of image)) images
all_logs [] logs e = tt
all_logs (image ∷ images) [] e = absurd (omega (arith, ap length e))
all_logs (image ∷ images) (log ∷ logs) e = let here : content_of image ≡ Some log = (cc) in let rest : map content_of images ≡ map Some logs = (cc) in (some_there (content_of image) log here, all_logs images logs rest)

-- what is held is what was found
pub held_same : (images : List (List (List ℕ))) (logs found : List Content) → AreHeld images logs → map content_of images ≡ map Some found → logs ≡ found
held_same [] [] [] h e = refl
held_same [] [] (f ∷ found) h e = absurd (omega (arith, ap length e))
held_same [] (log ∷ logs) found h e = absurd h
held_same (image ∷ images) [] found h e = absurd h
held_same (image ∷ images) (log ∷ logs) [] h e = absurd (omega (arith, ap length e))
held_same (image ∷ images) (log ∷ logs) (f ∷ found) h e =
    let here : content_of image ≡ Some f = (cc) in
    let rest : map content_of images ≡ map Some found = (cc) in
    let is : content_of image ≡ Some log = h.0.holds in
    let same : log ≡ f = (cc) in
    ap (λ (c : Content). c ∷ logs) same ∙ ap (λ (cs : List Content). f ∷ cs) (held_same images logs found h.1 rest)

-- ---- few lines
few_lines : (threads : ℕ) (nodes : List Node) (t : ℕ) (logs : List LogCounts) (rooms : List ℕ) → HaveRoom threads nodes t logs rooms → AllByRecursion (λ n. n ≤ 1000000) (lines_for threads logs rooms)
few_lines threads nodes t [] rooms h = tt
few_lines threads nodes t (log ∷ logs) [] h = tt
few_lines threads nodes t (log ∷ logs) (room ∷ rooms) h = (let low : lines_with threads log.lines room ≤ 69633 = h.1 in omega (arith, low), few_lines threads nodes (t + 1) logs rooms h.2)

-- ---- logs that are open
module _ {Device : Type 0} (means : Device → DeviceView) where
  open_long : (heads : List LogHead) (befores : List Content) (devices : List Device) (logs : List (LogState Device)) → AreOpen means heads befores devices logs → length logs ≡ length heads
  open_long [] [] [] [] a = refl
  open_long [] [] [] (l ∷ logs) a = absurd a
  open_long [] [] (d ∷ devices) logs a = absurd a
  open_long [] (b ∷ befores) devices logs a = absurd a
  open_long (h ∷ heads) [] devices logs a = absurd a
  open_long (h ∷ heads) (b ∷ befores) [] logs a = absurd a
  open_long (h ∷ heads) (b ∷ befores) (d ∷ devices) [] a = absurd a
  open_long (h ∷ heads) (b ∷ befores) (d ∷ devices) (l ∷ logs) a = ap suc (open_long heads befores devices logs a.1)

  log_each : (count t : ℕ) (heads : List LogHead) (befores : List Content) (devices : List Device) (logs : List (LogState Device)) → AreHeads count t heads → AreOpen means heads befores devices logs
      → (i : ℕ) (log : LogState Device) → slice_get logs i ≡ Some log → IsWholeLogOf count (t + i) log
  log_each count t [] [] [] [] h a i log e = some_not_none log (sym e)
  log_each count t [] [] [] (l ∷ logs) h a i log e = absurd a
  log_each count t [] [] (d ∷ devices) logs h a i log e = absurd a
  log_each count t [] (b ∷ befores) devices logs h a i log e = absurd a
  log_each count t (k ∷ heads) [] devices logs h a i log e = absurd a
  log_each count t (k ∷ heads) (b ∷ befores) [] logs h a i log e = absurd a
  log_each count t (k ∷ heads) (b ∷ befores) (d ∷ devices) [] h a i log e = absurd a
  log_each count t (k ∷ heads) (b ∷ befores) (d ∷ devices) (l ∷ logs) h a zero log e =
      let is : l ≡ log = same_some l log e in
      subst (λ (z : LogState Device). IsWholeLogOf count (t + 0) z) is (record {
        thread = ap (λ (x : LogHead). x.thread) a.0.head_is ∙ (let n = h.0.thread in omega arith);
        threads = ap (λ (x : LogHead). x.threads) a.0.head_is ∙ h.0.threads;
        format = ap (λ (x : LogHead). x.format) a.0.head_is ∙ h.0.format;
        whole = a.0.whole;
      })
  log_each count t (k ∷ heads) (b ∷ befores) (d ∷ devices) (l ∷ logs) h a (suc i) log e =
      let n : t + 1 + i ≡ t + suc i = omega arith in
      subst (λ (z : ℕ). IsWholeLogOf count z log) n (log_each count (t + 1) heads befores devices logs h.1 a.1 i log e)

  heads_open : (heads : List LogHead) (befores : List Content) (devices : List Device) (logs : List (LogState Device)) → AreOpen means heads befores devices logs → map head_held logs ≡ heads
  heads_open [] [] [] [] a = refl
  heads_open [] [] [] (l ∷ logs) a = absurd a
  heads_open [] [] (d ∷ devices) logs a = absurd a
  heads_open [] (b ∷ befores) devices logs a = absurd a
  heads_open (h ∷ heads) [] devices logs a = absurd a
  heads_open (h ∷ heads) (b ∷ befores) [] logs a = absurd a
  heads_open (h ∷ heads) (b ∷ befores) (d ∷ devices) [] a = absurd a
  heads_open (h ∷ heads) (b ∷ befores) (d ∷ devices) (l ∷ logs) a = λ i. a.0.head_is i ∷ heads_open heads befores devices logs a.1 i

  entries_open : (heads : List LogHead) (befores : List Content) (devices : List Device) (logs : List (LogState Device)) → AreOpen means heads befores devices logs
      → SameEntries befores (map content_held logs) × HeadsFit (map content_held logs) heads
  entries_open [] [] [] [] a = (tt, tt)
  entries_open [] [] [] (l ∷ logs) a = absurd a
  entries_open [] [] (d ∷ devices) logs a = absurd a
  entries_open [] (b ∷ befores) devices logs a = absurd a
  entries_open (h ∷ heads) [] devices logs a = absurd a
  entries_open (h ∷ heads) (b ∷ befores) [] logs a = absurd a
  entries_open (h ∷ heads) (b ∷ befores) (d ∷ devices) [] a = absurd a
  entries_open (h ∷ heads) (b ∷ befores) (d ∷ devices) (l ∷ logs) a =
      let r = entries_open heads befores devices logs a.1 in ((a.0.entries, r.0), (a.0.head_is, r.1))

  -- how many lines a log uses, its header's among them
  used_max : (o : Option LogHead) (before : Content) (read : List (List ℕ)) → StandsBy o before read → max 1 (used_with o before.entries) ≡ 1 + lines_in before.entries
  used_max None before read s = let e = ap lines_in s.0 in omega arith
  used_max (Some head) before read s = omega arith

  lines_left : (threads : ℕ) (heads : List LogHead) (befores : List Content) (rooms : List ℕ) (devices : List Device) (logs : List (LogState Device)) → length rooms ≡ length befores
      → AreReady means befores (lines_for threads (map log_counts befores) rooms) devices → AreOpen means heads befores devices logs → HaveLines means threads rooms logs
  lines_left threads [] [] [] [] [] many r a = tt
  lines_left threads [] [] [] [] (l ∷ logs) many r a = absurd a
  lines_left threads [] [] [] (d ∷ devices) logs many r a = absurd r
  lines_left threads heads [] (room ∷ rooms) devices logs many r a = absurd (omega (arith, many))
  lines_left threads (h ∷ heads) [] [] devices logs many r a = absurd a
  lines_left threads heads (b ∷ befores) [] devices logs many r a = absurd (omega (arith, many))
  lines_left threads [] (b ∷ befores) (room ∷ rooms) devices logs many r a = absurd a
  lines_left threads (h ∷ heads) (b ∷ befores) (room ∷ rooms) [] logs many r a = absurd r
  lines_left threads (h ∷ heads) (b ∷ befores) (room ∷ rooms) (d ∷ devices) [] many r a = absurd a
  lines_left threads (h ∷ heads) (b ∷ befores) (room ∷ rooms) (d ∷ devices) (l ∷ logs) many r a =
      let used = used_max b.head b (means d).read r.0.stands in
      let lines = opened_lines means b.head h d l.device a.0.on in
      let long = r.0.many in
      let free : free_of (length (means l.device).read) l.entries ≡ length (means d).read - (1 + lines_in b.entries) = λ i. free_of (lines i) (a.0.entries i) in (
        omega (arith, used, long, free),
        lines_left threads heads befores rooms devices logs (omega (arith, many)) r.1 a.1,
      )

  -- no device has more lines than a log can have
  short_left : (threads t : ℕ) (nodes : List Node) (heads : List LogHead) (befores : List Content) (rooms : List ℕ) (devices : List Device) (logs : List (LogState Device)) → length rooms ≡ length befores
      → HaveRoom threads nodes t (map log_counts befores) rooms → AreReady means befores (lines_for threads (map log_counts befores) rooms) devices → AreOpen means heads befores devices logs → AllByRecursion (IsShortLog means) logs
  short_left threads t nodes heads befores rooms devices [] many room r a = tt
  short_left threads t nodes [] [] rooms [] (l ∷ logs) many room r a = absurd a
  short_left threads t nodes [] [] rooms (d ∷ devices) (l ∷ logs) many room r a = absurd a
  short_left threads t nodes [] (b ∷ befores) rooms devices (l ∷ logs) many room r a = absurd a
  short_left threads t nodes (h ∷ heads) [] rooms devices (l ∷ logs) many room r a = absurd a
  short_left threads t nodes (h ∷ heads) (b ∷ befores) rooms [] (l ∷ logs) many room r a = absurd a
  short_left threads t nodes (h ∷ heads) (b ∷ befores) [] (d ∷ devices) (l ∷ logs) many room r a = absurd (omega (arith, many))
  short_left threads t nodes (h ∷ heads) (b ∷ befores) (room ∷ rooms) (d ∷ devices) (l ∷ logs) many has r a =
      let lines = opened_lines means b.head h d l.device a.0.on in
      let long = r.0.many in
      let most = has.1 in
      (subst (λ n. n ≤ most_lines) (sym (lines ∙ long)) most, short_left threads (t + 1) nodes heads befores rooms devices logs (omega (arith, many)) has.2 r.1 a.1)

-- ---- what was found, and the logs that are opened of it
module _ {State Op Query Reply : Type 0} (b : Behaviour State Op Query Reply) (store : StoreView) (logs : List ℕ) (heads : List LogHead) (rooms : List ℕ) (lines : List (List (List ℕ))) (found : Recovered)
    (h : HasRoomIn b store logs heads rooms lines found) where
  parts : Parts heads (contents_from 0 lines) found
  parts = found_parts b heads lines found h.has.gives

  contents : map content_of lines ≡ map Some parts.logs
  contents = contents_are 0 lines parts.logs parts.contents

  logs_many : length parts.logs ≡ length rooms
  logs_many = sym (length-map parts.logs Some) ∙ (sym (ap length contents) ∙ (length-map lines content_of ∙ h.has.many))

  pub are_logs : AllByRecursion (λ image. IsSome (content_of image)) lines
  are_logs = all_logs lines parts.logs contents

  -- the files begin with the lines of the logs that have a head
  pub begin : FilesBegin logs 0 (fronts_by found.logs lines) store
  begin = subst (λ (fs : List (List (List ℕ))). FilesBegin logs 0 fs store)
      (sym (ap (λ (ls : List LogCounts). fronts_by ls lines) parts.counts ∙ fronts_as parts.logs lines contents)) h.has.read.begin

  pub short : All (λ n. n ≤ 1000000) (lines_for (length rooms) found.logs rooms)
  short = All-from_recursion (λ n. n ≤ 1000000) (lines_for (length rooms) found.logs rooms)
      (few_lines (length rooms) found.nodes 0 found.logs rooms (have_room (length rooms) found.nodes 0 found.logs rooms h.room))

  module _ (held : List Content) (is : AreHeld lines held) where
    same : held ≡ parts.logs
    same = held_same lines held parts.logs is contents

    held_many : length rooms ≡ length held
    held_many = sym logs_many ∙ ap length (sym same)

    pub counts : found.logs ≡ map log_counts held
    counts = parts.counts ∙ ap (map log_counts) (sym same)

    pub merged_is : merge heads held ≡ Ok found.nodes
    merged_is = ap (merge heads) same ∙ parts.merged_is

    fit : HeadsFit held heads
    fit = (merge-back found.nodes heads held merged_is).heads_fit

    sound : AreSound held lines
    sound = are_sound (length rooms) 0 heads held lines (h.has.count ∙ held_many) h.has.heads_are fit (used_all lines h.has.read.images h.has.read.stand) is

    pub head_lines_of : HaveHeadLines found.logs lines
    head_lines_of = subst (λ (ls : List LogCounts). HaveHeadLines ls lines) (sym counts) (head_lines held lines sound)

    pub within : AreWithin lines (lines_for (length rooms) found.logs rooms)
    within = subst (λ (ls : List LogCounts). AreWithin lines (lines_for (length rooms) ls rooms)) (sym counts) (are_within (length rooms) held lines rooms sound held_many)

    module _ {Device : Type 0} (means : Device → DeviceView) (devices : List Device) (reopened : AreReopened means (fronts_by found.logs lines) (lines_for (length rooms) found.logs rooms) devices) where
      both : AllCanOpen means heads held devices × AreReady means held (lines_for (length rooms) (map log_counts held) rooms) devices
      both = can_open means (length rooms) 0 (length rooms) heads held lines rooms devices sound held_many (h.has.count ∙ held_many) h.has.heads_are fit
          (subst (λ (ls : List LogCounts). AreReopened means (fronts_by ls lines) (lines_for (length rooms) ls rooms) devices) counts reopened)

      pub can : AllCanOpen means heads held devices
      can = both.0

      pub opened_logs : (begun : List (LogState Device)) → AreOpen means heads held devices begun → AreOpenLogs means heads rooms found.nodes begun
      opened_logs begun a =
          let long : length begun ≡ length rooms = open_long means heads held devices begun a ∙ h.has.count in
          let e = entries_open means heads held devices begun a in
          let hs = heads_open means heads held devices begun a in
          record {
            many = long;
            are_logs = λ i log at. let n : 0 + i ≡ i = omega arith in
                subst (λ (z : ℕ × ℕ). IsWholeLogOf z.0 z.1 log) (λ j. (sym long j, n j)) (log_each means (length rooms) 0 heads held devices begun h.has.heads_are a i log at);
            heads_are = hs;
            merged = ap (λ (x : List LogHead). merge x (map content_held begun)) hs ∙ merge_filled heads held (map content_held begun) found.nodes e.0 e.1 merged_is;
            lines = lines_left means (length rooms) heads held rooms devices begun held_many both.1 a;
            short = short_left means (length rooms) 0 found.nodes heads held rooms devices begun held_many
                (subst (λ (ls : List LogCounts). HaveRoom (length rooms) found.nodes 0 ls rooms) counts (have_room (length rooms) found.nodes 0 found.logs rooms h.room)) both.1 a;
          }

-- ---- passes that have begun
module _ {State Op Query Reply Device : Type 0} (b : Behaviour State Op Query Reply) (means : Device → DeviceView) (onll : OnllView State) where
  roomy_each : (threads : ℕ) (passes : List (PassView State Device)) → threads ≡ onll.trace.plan.threads → AllByRecursion IsNewcomer passes → HaveLines means threads (map room_of passes) (map log_of passes) → AllByRecursion (IsRoomy means onll) passes
  roomy_each threads [] e n l = tt
  roomy_each threads (p ∷ ps) e n l = (
    record {
      nodes = let none = ap length n.0.own in omega (arith, none);
      lines = subst (λ k. (k + 1) * p.room ≤ free_of (length (means p.log.device).read) p.log.entries) e l.0;
    },
    roomy_each threads ps e n.1 l.1,
  )

  pub all_roomy : (logs : List (LogState Device)) (rooms : List ℕ) (passes : List (PassView State Device)) → length logs ≡ length rooms → HasBegun b means onll logs rooms passes → HaveLines means (length rooms) rooms logs → AllByRecursion (IsRoomy means onll) passes
  all_roomy logs rooms passes many h lines =
      let count : length rooms ≡ onll.trace.plan.threads = sym (ap length h.rooms_are) ∙ (length-map passes room_of ∙ (sym (length-map passes spot_of) ∙ h.all.count)) in
      roomy_each (length rooms) passes count h.whole
      (subst (λ (z : List ℕ × List (LogState Device)). HaveLines means (length rooms) z.0 z.1) (λ i. (sym h.rooms_are i, sym h.logs_are i)) lines)

-- ---- refusals
module _ {State Op Query Reply : Type 0} (b : Behaviour State Op Query Reply) (store : StoreView) (logs : List ℕ) (heads used : List LogHead) (lines seen : List (List (List ℕ))) (same : used ≡ heads) (same_lines : seen ≡ lines)
    (read : AreRead logs lines store) (many : length lines ≡ length used) where
  pub gives_so : (r : Result Recovered FilesFault) → found_in b used seen ≡ r → FilesGive b store logs heads r
  gives_so r e = files_give b store logs heads lines r read (many ∙ ap length same)
      (ap (λ (hs : List LogHead). found_in b hs lines) (sym same) ∙ (ap (found_in b used) (sym same_lines) ∙ e))

  pub refused_by : (e : FilesFault) → (e ≡ files.NoMemory) ⊎ (found_in b used seen ≡ Err e) → FilesRefuse b store logs heads e
  refused_by (files.NotLog log) (inl none) = absurd (cc)
  refused_by (files.NotLog log) (inr e) = gives_so (Err (files.NotLog log)) e
  refused_by (files.OldFormat log) (inl none) = absurd (cc)
  refused_by (files.OldFormat log) (inr e) = gives_so (Err (files.OldFormat log)) e
  refused_by (files.Threads were) (inl none) = absurd (cc)
  refused_by (files.Threads were) (inr e) = gives_so (Err (files.Threads were)) e
  refused_by (files.Gone log) (inl none) = absurd (cc)
  refused_by (files.Gone log) (inr e) = gives_so (Err (files.Gone log)) e
  refused_by (files.NotOneRun fault) (inl none) = absurd (cc)
  refused_by (files.NotOneRun fault) (inr e) = gives_so (Err (files.NotOneRun fault)) e
  refused_by (files.NotOperation place) (inl none) = absurd (cc)
  refused_by (files.NotOperation place) (inr e) = gives_so (Err (files.NotOperation place)) e
  refused_by files.InUse e = tt
  refused_by files.NotLocked e = tt
  refused_by (files.NotRead thread) e = tt
  refused_by files.NoMemory e = tt
