-- What a service leaves in the files of its logs is what the next one finds there.
use Rattle.std.proofs.Common.{ℕ, suc, ◌≡◌, ◌+◌, ◌≤◌, true, List, [], ◌∷◌, length, map, Option, Some, None, is_some, Ok, refl, sym, ap, ◌∙◌, subst, arith}
use Rattle.std.specs.List.{AllByRecursion}
use Rattle.std.proofs.lemmas.List.{length-map}
use Rattle.onll_model.specs.declared.call.Call.{Call}
use Rattle.onll_model.specs.declared.call.CallEnd.{CallEnd}
use Rattle.onll_model.specs.declared.node.Node.{Node}
use Rattle.onll_model.specs.Object.{Behaviour}
use Rattle.onll_pmem.specs.Device.{Mixed}
use Rattle.onll_pmem.specs.Pmem.{DeviceView, Told, ToldSettled}
use Rattle.onll_log.specs.declared.head.LogHead.{LogHead}
use Rattle.onll_log.specs.Grammar.{Content, content_of}
use Rattle.onll_merge.specs.declared.fault.RecoverFault.{RecoverFault}
use Rattle.onll_merge.specs.Merge.{merge, nodes_to, refusal, top_of, unless}
use Rattle.onll_merge.specs.Recovered.{Recovered}
use Rattle.onll_outside.specs.LineFiles.{IsWholeLine}
use Rattle.onll_outside.specs.Views.{HoldsImageOf, StoreView}
use Rattle.onll_shared.specs.Found.{head_held}
use Rattle.onll_shared.specs.Passes.{OnllView, PassView, log_of}
use Rattle.onll_run.specs.Ended.{HaveRun, ThreadRun, after_of, ends_of, left_of, log_left}
use Rattle.onll_run.specs.Left.{AreLeftImages, LogLeft, fenced_in}
use Rattle.onll_run.specs.Outcomes.{failed_in}
use Rattle.onll_run.specs.Workers.{HasWorked}
use Rattle.onll_open.specs.Files.{FilesHold, HoldsLogImage, SameLogs}
use Rattle.onll_open.specs.Keeping.{AreKept, AreWhole, devices_in}
use Rattle.onll_open.specs.Misfits.{found_in}
use Rattle.onll_open.specs.Names.{log_name}
use Rattle.onll_open.specs.Opening.{IsShortLog}
use Rattle.onll_open.specs.Rooms.{most_lines}
use Rattle.onll_open.proofs.GivenLogs.{contents_are, found_parts, give_same}
use Rattle.onll_threads.specs.Ended.{before_of}
use Rattle.onll_serve.specs.Linking.{AreOver, FilesLifeLaw, LeavesInFiles, NextLaw}
use Rattle.onll_serve.specs.Lives.{IsLife, IsLifeFront, ServedGeneration, generation_of}
use Rattle.onll_serve.specs.Serving.{ClosedSo, HasHistory}
use Rattle.onll_serve.proofs.FileLines.{fenced_whole, mixed_lines}
use Rattle.onll_serve.proofs.Holding.{holds_image, one_each}
use Rattle.onll_serve.proofs.Lives.{leaves_fronts, life_law}

-- ---- what is found in images
by_unless : {A : Type 0} (o : Option RecoverFault) (v n : A) → unless o v ≡ Ok n → v ≡ n
by_unless None v n e = cc
by_unless (Some fault) v n e = absurd (cc)

-- logs that are found merge to the nodes of their places
nodes_are : (heads : List LogHead) (logs : List Content) (nodes : List Node) → merge heads logs ≡ Ok nodes → nodes_to logs (top_of logs) ≡ nodes
nodes_are heads logs nodes e = by_unless (refusal heads logs) (nodes_to logs (top_of logs)) nodes e

one_list : (xs ys : List Content) → map Some xs ≡ map Some ys → xs ≡ ys
one_list [] [] e = refl
one_list [] (y ∷ ys) e = absurd (omega (arith, ap length e))
one_list (x ∷ xs) [] e = absurd (omega (arith, ap length e))
one_list (x ∷ xs) (y ∷ ys) e =
    let here : x ≡ y = (cc) in
    let rest : map Some xs ≡ map Some ys = (cc) in
    let more = one_list xs ys rest in
    λ i. here i ∷ more i

left_many : {State Op Query Reply : Type 0} (logs : List LogLeft) (ends : List (List (CallEnd State Op Query Reply)))
    (images : List (List (List ℕ))) → AreLeftImages logs ends images → length images ≡ length logs
left_many [] [] [] h = refl
left_many [] [] (image ∷ images) h = absurd h
left_many [] (es ∷ ends) images h = absurd h
left_many (log ∷ logs) [] images h = absurd h
left_many (log ∷ logs) (es ∷ ends) [] h = absurd h
left_many (log ∷ logs) (es ∷ ends) (image ∷ images) h = ap suc (left_many logs ends images h.1)

-- what is found in images are the nodes that they recover to
pub nodes_found : {State Op Query Reply : Type 0} (b : Behaviour State Op Query Reply) (heads mine : List LogHead)
    (images : List (List (List ℕ))) (found : Recovered) (logs : List Content) (nodes : List Node) → found_in b heads images ≡ Ok found
    → map content_of images ≡ map Some logs → merge mine logs ≡ Ok nodes → nodes ≡ found.nodes
nodes_found b heads mine images found logs nodes e contents merged =
    let p = found_parts b heads images found e in
    let same : p.logs ≡ logs = one_list p.logs logs (sym (contents_are 0 images p.logs p.contents) ∙ contents) in
    sym (nodes_are mine logs nodes merged)
    ∙ (ap (λ (ls : List Content). nodes_to ls (top_of ls)) (sym same) ∙ nodes_are heads p.logs found.nodes p.merged_is)

module _ {State Op Query Reply Device : Type 0} (b : Behaviour State Op Query Reply) (means : Device → DeviceView)
    (onll : OnllView State) where
  -- what is found in images that a crash may leave is a front of what was done
  found_front : (runs : List (ThreadRun State Op Query Reply Device)) (h : HasHistory b means onll runs) (images : List (List (List ℕ)))
      (heads : List LogHead) (found : Recovered) → AreLeftImages (left_of b means onll h.trace runs h.closed).logs (map ends_of runs) images
      → found_in b heads images ≡ Ok found → IsLifeFront (generation_of b means onll runs h) found.nodes
  found_front runs h images heads found left e =
      let f = (leaves_fronts b means onll runs h).1 images left in
      let r = f.0 in
      let nodes = nodes_found b heads _ images found r.logs r.nodes e r.contents r.recovered in
      subst (IsLifeFront (generation_of b means onll runs h)) nodes f.1

  pub leaves_in_files : (runs : List (ThreadRun State Op Query Reply Device)) (h : HasHistory b means onll runs)
      → LeavesInFiles b means onll runs h
  leaves_in_files runs h store logs heads images many on left hold found gives =
      let ends = left_many (left_of b means onll h.trace runs h.closed).logs (map ends_of runs) images left in
      let runs_many = length-map runs (λ (r : ThreadRun State Op Query Reply Device). log_left means r.after.log) in
      let count : length gives.images ≡ length images = gives.many ∙ (many ∙ sym (ends ∙ runs_many)) in
      let same = one_each store logs 0 gives.images images on count gives.hold hold in
      found_front runs h images heads found left (ap (found_in b heads) (sym same) ∙ gives.gives)

  -- ---- what was kept
  -- the words of a device that are fenced
  fenced_are : (k : Option ℕ) (script : List (Call State Op Query Reply)) (ends : List (CallEnd State Op Query Reply))
      (old new : PassView State Device) → HasWorked b means onll script ends old new → k ≡ new.broken
      → ToldSettled (means new.log.device).told (fenced_in (log_left means new.log) k)
  fenced_are None script ends old new w e = w.tied.holds.settled (w.tied.broken ∙ ap is_some (sym e))
  fenced_are (Some p) script ends old new w e = w.tied.holds.pending (w.tied.broken ∙ ap is_some (sym e))

  -- the file holds an image that a crash may leave of the device of a thread's log
  record HasImage (store : StoreView) (name : List ℕ) (r : ThreadRun State Op Query Reply Device) : Type 0 where
    image : List (List ℕ)
    holds : HoldsLogImage store name image
    mixed : Mixed (fenced_in (log_left means r.after.log) (failed_in r.ends)) (means r.after.log.device).read image

  image_kept : (store : StoreView) (name : List ℕ) (r : ThreadRun State Op Query Reply Device) (told : Told)
      → (means r.after.log.device).told ≡ Some told → HasWorked b means onll r.script r.ends r.before r.after → IsShortLog means r.before.log
      → AllByRecursion IsWholeLine (means r.after.log.device).read → HoldsImageOf store name (means r.after.log.device)
      → HasImage store name r
  image_kept store name r told tells w short whole k =
      let left = log_left means r.after.log in
      let fenced = fenced_in left (failed_in r.ends) in
      let read = (means r.after.log.device).read in
      let durable : told.fenced ≡ fenced = fenced_are (failed_in r.ends) r.script r.ends r.before r.after w w.runs.failed told tells in
      let mixed : Mixed fenced read k.0 = subst (λ (ls : List (List ℕ)). Mixed ls read k.0) durable (k.2 told tells) in
      let lines = mixed_lines fenced read k.0 mixed (fenced_whole left (failed_in r.ends) w.tied.holds.read whole) whole in
      let many = lines.1 in
      let within = w.tied.holds.within in
      let few : length k.0 ≤ most_lines = subst (λ n. n ≤ most_lines) (sym (many ∙ w.gone_on.lines)) short in
      record { image = k.0; holds = holds_image store name k.0 k.1 lines.0 (omega (arith, many, within)) few; mixed = mixed }

  tells_some : (o : Option Told) → is_some o ≡ true → (told : Told) × (o ≡ Some told)
  tells_some None e = absurd (cc)
  tells_some (Some told) e = (told, refl)

  record HaveImages (store : StoreView) (logs : List ℕ) (t : ℕ) (runs : List (ThreadRun State Op Query Reply Device)) : Type 0 where
    images : List (List (List ℕ))
    hold : FilesHold logs t images store
    left : AreLeftImages (map (λ (r : ThreadRun State Op Query Reply Device). log_left means r.after.log) runs) (map ends_of runs) images

  images_kept : (store : StoreView) (logs : List ℕ) (t u : ℕ) (runs : List (ThreadRun State Op Query Reply Device)) → store.tells ≡ true
      → ((d : Device) → is_some (means d).told ≡ true) → HaveRun b means onll u runs
      → AllByRecursion (IsShortLog means) (map log_of (map before_of runs)) → AreWhole (devices_in means (map after_of runs))
      → AreKept logs t (devices_in means (map after_of runs)) store → HaveImages store logs t runs
  images_kept store logs t u [] on tell h short whole kept = record { images = []; hold = tt; left = tt }
  images_kept store logs t u (r ∷ rs) on tell h short whole kept =
      let some_told = tells_some (means r.after.log.device).told (tell r.after.log.device) in
      let here = image_kept store (log_name logs t) r some_told.0 some_told.1 h.1 short.0 whole.0 (kept.0 on) in
      let rest = images_kept store logs (suc t) (u + 1) rs on tell h.2 short.1 whole.1 kept.1 in
      record { images = here.image ∷ rest.images; hold = (here.holds, rest.hold); left = (here.mixed, rest.left) }

module _ {State Op Query Reply Device Work Answer Files : Type 0} (b : Behaviour State Op Query Reply) (means : Device → DeviceView)
    (seen : Files → StoreView)
    (promise : Work → Work → List (Call State Op Query Reply) → List (CallEnd State Op Query Reply) → Answer → Type 0)
    (tell : (new : Files) → (seen new).tells ≡ true → (d : Device) → is_some (means d).told ≡ true) where
  pub next_law : NextLaw b means seen promise
  next_law old new logs heads state works served s kept on =
      let e = s.worked.ended in
      let closed : ClosedSo b means s.onll e.runs s.worked.afters logs s.opened (seen new) (Ok tt) =
      subst (λ k. ClosedSo b means s.onll e.runs s.worked.afters logs s.opened (seen new) k) kept s.worked.closed in
      let h : HasHistory b means s.onll e.runs = closed.0 in
      let short = subst (λ (ps : List (PassView State Device)). AllByRecursion (IsShortLog means) (map log_of ps)) (sym e.befores_are) s.short in
      let whole = subst (λ (ps : List (PassView State Device)). AreWhole (devices_in means ps)) (sym e.afters_are) closed.3 in
      let are = subst (λ (ps : List (PassView State Device)). AreKept logs 0 (devices_in means ps) (seen new)) (sym e.afters_are) closed.1 in
      let i = images_kept b means s.onll (seen new) logs 0 0 e.runs on (tell new on) e.have_run short whole are in
      let many : length heads ≡ length e.runs =
      sym (ap length s.heads_are) ∙ (length-map (map log_of s.befores) head_held ∙ (length-map s.befores log_of
      ∙ (sym (ap length e.befores_are) ∙ length-map e.runs before_of))) in (
        h,
        record {
          found = s.found;
          given = s.given.0;
          base = s.base;
          begins = h.whole.legal.begins;
          leaves = leaves_in_files b means s.onll e.runs h (seen new) logs heads i.images many on i.left i.hold;
        },
      )

-- ---- one service after the other
same_back : (logs : List ℕ) (old new : StoreView) → SameLogs logs old new → SameLogs logs new old
same_back logs old new same = record { tells = sym same.tells; file = λ thread. sym (same.file thread) }

module _ {State Op Query Reply : Type 0} (b : Behaviour State Op Query Reply) (logs : List ℕ) (heads : List LogHead) where
  pub files_life : FilesLifeLaw b logs heads
  files_life life old new over found gives = let is = go life old over in (is, life_law life found.nodes is)
    where
      go : (life : List (ServedGeneration State Op Query Reply)) (old : StoreView) → AreOver b logs heads old new life
          → IsLife life found.nodes
      go [] old o = tt
      go (g ∷ []) old o = (o.3.begins, o.3.leaves found (give_same b new o.1 logs heads (Ok found) (same_back logs o.1 new o.4) gives))
      go (g ∷ (h ∷ more)) old o =
          let next = o.4 in
          let n = next.3 in
          let there = give_same b next.0 o.1 logs heads (Ok n.found) (same_back logs o.1 next.0 next.2) n.given in
          (o.3.begins, subst (IsLifeFront g) (sym n.base) (o.3.leaves n.found there), go (h ∷ more) o.1 next)
