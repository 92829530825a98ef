-- Logs that are begun anew, and logs that images give, are what scripts can be run over.

use Rattle.std.proofs.Common.{Vec, ℕ, zero, suc, Bool, true, false, List, [], ◌∷◌, ◌≡◌, ◌+◌, ◌*◌, ◌≤◌, max, length, map, replicate, IsSome, Some, Result, Ok, refl, sym, ap, ◌∙◌, subst, arith}
use Rattle.std.specs.List.{AllByRecursion}
use Rattle.std.proofs.lemmas.List.{length-replicate}
use Rattle.std.proofs.lemmas.List.Elements.{All-from_recursion}
use Rattle.std.proofs.lemmas.Nat.{mul-le}
use Rattle.std.proofs.Math.Nat.{mul_comm}
use Rattle.onll_model.specs.Limits.{most_threads, most_updates}
use Rattle.onll_model.specs.declared.call.Call.{Call}
use Rattle.onll_model.specs.declared.node.Node.{Node}
use Rattle.onll_model.specs.Object.{Behaviour}
use Rattle.onll_model.specs.Calls.{updates_in}
use Rattle.onll_pmem.specs.Device.{zero_lines}
use Rattle.onll_log.specs.declared.head.LogHead.{LogHead}
use Rattle.onll_log.specs.Grammar.{Content, content_of, used_by}
use Rattle.onll_log.specs.ImageFile.{longest_image}
use Rattle.onll_log.specs.Tested.{used_in}
use Rattle.onll_merge.specs.declared.counts.LogCounts.{LogCounts}
use Rattle.onll_merge.specs.Recovered.{Recovered, log_counts}
use Rattle.onll_start.specs.Based.{HaveRoom}
use Rattle.onll_start.specs.Heads.{created_heads}
use Rattle.onll_start.specs.Found.{IsFound}
use Rattle.onll_start.specs.Start.{base_in}
use Rattle.onll_start.proofs.Based.{base_is}
use Rattle.onll_outside.specs.Views.{StoreView, BeginsWith, image_bytes}
use Rattle.onll_run.specs.Left.{LogLeft, ScriptPlan, no_base}
use Rattle.onll_log.specs.Head.{AreHeads}
use Rattle.onll_run.specs.Ran.{HaveNumbers, anew, going_on}
use Rattle.onll_run.proofs.Anew.{new_base, new_merge}
use Rattle.onll_open.specs.Devices.{front_by, fronts_by, no_counts}
use Rattle.onll_open.specs.Files.{BeginsAs, FilesBegin}
use Rattle.onll_open.specs.Names.{log_name, log_names}
use Rattle.onll_text.specs.Kinds.{ObjectKind}
use Rattle.onll_task.specs.declared.answer.Stop.{Stop}
use Rattle.onll_task.specs.Doing.{Fulfils}
use Rattle.onll_task.specs.Images.{AllBeginWith}
use Rattle.onll_task.specs.Job.{Job}
use Rattle.onll_task.specs.Running.{RunPlan, RunLeft, AreSized}
use Rattle.onll_runner.specs.Ground.{AreFitting, IsGround, lines_over}
use Rattle.onll_runner.specs.ResumeJob.{AreKeptImages}
use Rattle.onll_runner.specs.RunEnds.{lines_left}
use Rattle.onll_runner.specs.RunJob.{calls_task, run_plan}
use Rattle.onll_runner.proofs.Lines.{sizes_new}

-- ---- logs that are begun
abbrev empty_images : ℕ → List (List (List ℕ))
empty_images n = replicate n (zero_lines 1)

empty_contents : (n : ℕ) → map content_of (empty_images n) ≡ map Some (no_base n).logs
empty_contents zero = refl
empty_contents (suc n) = ap (λ cs. content_of (zero_lines 1) ∷ cs) (empty_contents n)

empty_counts : (n : ℕ) → replicate n no_counts ≡ map log_counts (no_base n).logs
empty_counts zero = refl
empty_counts (suc n) = ap (λ (cs : List LogCounts). no_counts ∷ cs) (empty_counts n)

empty_used : (n : ℕ) → AllByRecursion (λ image. length image ≤ used_in (content_of image)) (empty_images n)
empty_used zero = tt
empty_used (suc n) = (omega arith, empty_used n)

zeros_few : (n : ℕ) → AllByRecursion (λ count. 64 * count ≤ longest_image) (replicate n 0)
zeros_few zero = tt
zeros_few (suc n) = (omega arith, zeros_few n)

empty_begin : (logs : List ℕ) (t n : ℕ) (store : StoreView) → FilesBegin logs t (fronts_by (replicate n no_counts) (empty_images n)) store
empty_begin logs t zero store = tt
empty_begin logs t (suc n) store = (tt, empty_begin logs (suc t) n store)

module _ {State Op Query Reply : Type 0} where
  empty_fit : (threads : ℕ) (scripts : List (List (Call State Op Query Reply))) → threads ≤ most_threads → AllByRecursion (λ (s : List (Call State Op Query Reply)). updates_in s ≤ most_updates) scripts
      → AreFitting (threads + 1) (replicate (length scripts) no_counts) scripts
  empty_fit threads [] few u = tt
  empty_fit threads (s ∷ scripts) few u =
      let one : threads + 1 ≤ 17 = omega (arith, few) in
      let most : updates_in s ≤ 4096 = u.0 in
      let all = mul-le (threads + 1) (updates_in s) 17 4096 one most in
      (omega (arith, all), empty_fit threads scripts few u.1)

  pub new_ground : (b : Behaviour State Op Query Reply) (logs : List ℕ) (heads : List LogHead) (r : Recovered) (images : List (List (List ℕ))) (counts : List ℕ) (scripts : List (List (Call State Op Query Reply))) (store : StoreView)
      → length scripts ≤ most_threads → AllByRecursion (λ (s : List (Call State Op Query Reply)). updates_in s ≤ most_updates) scripts → length heads ≡ length scripts → AreHeads (length scripts) 0 heads
      → images ≡ empty_images (length scripts) → counts ≡ replicate (length scripts) 0 → r.logs ≡ replicate (length scripts) no_counts → r.nodes ≡ [] → IsGround b logs heads r images counts scripts store
  new_ground b logs heads r images counts scripts store few updates many heads_are images_are counts_are logs_are none =
      let n = length scripts in
      let based = new_base heads n scripts updates in
      let both : Ok based.nodes ≡ Ok [] = sym based.merged ∙ new_merge heads n in
      let nothing : based.nodes ≡ [] = (cc) in
      record {
        held = (no_base n).logs;
        contents = ap (map content_of) images_are ∙ empty_contents n;
        counts_are = logs_are ∙ empty_counts n;
        merged = new_merge heads n ∙ ap Ok (sym none);
        operations = subst (AllByRecursion (λ (node : Node). IsSome (b.op_at node.row))) (sym none) tt;
        many = many;
        as_many = ap length images_are ∙ length-replicate n (zero_lines 1);
        counted = ap length counts_are ∙ length-replicate n 0;
        heads_are = heads_are;
        numbers = subst (λ (ns : List Node). HaveNumbers ns 0 scripts) (nothing ∙ sym none) based.numbers;
        fitting = subst (λ (ls : List LogCounts). AreFitting (n + 1) ls scripts) (sym logs_are) (empty_fit n scripts few updates);
        used = subst (AllByRecursion (λ image. length image ≤ used_in (content_of image))) (sym images_are) (empty_used n);
        few = All-from_recursion (λ count. 64 * count ≤ longest_image) counts (subst (AllByRecursion (λ count. 64 * count ≤ longest_image)) (sym counts_are) (zeros_few n));
        begins = subst (λ (ls : List LogCounts). FilesBegin logs 0 (fronts_by ls images) store) (sym logs_are)
            (subst (λ is. FilesBegin logs 0 (fronts_by (replicate n no_counts) is) store) (sym images_are) (empty_begin logs 0 n store));
      }

-- what was run over logs that are begun is a run anew
pub runs_anew : {A : Type 0} (k : ObjectKind) {V : Type 0} (items : V → List (Call k.State k.Op k.Query k.Reply)) (init logs : List ℕ) (state : k.State) (scripts : List V) (heads : List LogHead) (r : Recovered) (images : List (List (List ℕ)))
    (counts : List ℕ) (threads : RunPlan k → (RunLeft k → Job) → Job) (old new : StoreView) (res : Result (Vec ℕ A) Stop) → heads ≡ created_heads k.code init (map items scripts) → length heads ≡ length (map items scripts)
    → images ≡ empty_images (length (map items scripts)) → counts ≡ replicate (length (map items scripts)) 0 → r.logs ≡ replicate (length (map items scripts)) no_counts → r.nodes ≡ []
    → ((held : List Content) → map content_of images ≡ map Some held
    → ((left : List LogLeft) → map lines_left left ≡ lines_over (length (map items scripts)) r.logs counts (map items scripts)
    → AreSized {k = k} (record { logs = logs; reopens = false; run = going_on state heads r.nodes held (map items scripts) }) left old)
    → Fulfils (log_names logs 0 (length scripts)) old new (calls_task k threads (record { logs = logs; reopens = false; run = going_on state heads r.nodes held (map items scripts) })) res)
    → Fulfils (log_names logs 0 (length scripts)) old new (calls_task k threads (run_plan k init logs state (map items scripts))) res
runs_anew k items init logs state scripts heads r images counts threads old new res heads_are many images_are counts_are logs_are none does =
    let calls = map items scripts in
    let n = length calls in
    let same : going_on state heads r.nodes (no_base n).logs calls ≡ anew state (created_heads k.code init calls) calls =
    ap (λ (ns : List Node). going_on state heads ns (no_base n).logs calls) none ∙ ap (λ m. going_on state heads [] (no_base m).logs calls) (sym many) ∙ ap (λ (hs : List LogHead). anew state hs calls) heads_are in
    let sizes = λ (left : List LogLeft) (e : map lines_left left ≡ lines_over n r.logs counts calls).
    sizes_new n old logs 0 calls left (e ∙ ap (λ (ls : List LogCounts). lines_over n ls counts calls) logs_are ∙ ap (λ cs. lines_over n (replicate n no_counts) cs calls) counts_are) in
    subst (λ (run : ScriptPlan k.State k.Op k.Query k.Reply). Fulfils (log_names logs 0 (length scripts)) old new (calls_task k threads (record { logs = logs; reopens = false; run = run })) res) same
    (does (no_base n).logs (ap (map content_of) images_are ∙ empty_contents n) sizes)

-- ---- logs that images give
begins_as : (store : StoreView) (name : List ℕ) (lines : List (List ℕ)) → BeginsWith store name (image_bytes lines) → BeginsAs store name lines
begins_as store name [] h = tt
begins_as store name (line ∷ lines) h = h

front_begins : (head : Bool) (store : StoreView) (name : List ℕ) (lines : List (List ℕ)) → BeginsWith store name (image_bytes lines) → BeginsAs store name (front_by head lines)
front_begins false store name lines h = tt
front_begins true store name lines h = begins_as store name lines h

fronts_begin : (logs : List ℕ) (t : ℕ) (held : List LogCounts) (images : List (List (List ℕ))) (store : StoreView) → AllBeginWith logs t images store → FilesBegin logs t (fronts_by held images) store
fronts_begin logs t [] [] store h = tt
fronts_begin logs t [] (image ∷ images) store h = tt
fronts_begin logs t (log ∷ held) [] store h = tt
fronts_begin logs t (log ∷ held) (image ∷ images) store h = (front_begins log.head store (log_name logs t) image h.0, fronts_begin logs (suc t) held images store h.1)

module _ {State Op Query Reply : Type 0} where
  fit_all : (threads : ℕ) (nodes : List Node) (t : ℕ) (logs : List Content) (scripts : List (List (Call State Op Query Reply))) → HaveRoom threads nodes t logs scripts → AreFitting (threads + 1) (map log_counts logs) scripts
  fit_all threads nodes t [] [] h = tt
  fit_all threads nodes t [] (s ∷ scripts) h = absurd h
  fit_all threads nodes t (log ∷ logs) [] h = absurd h
  fit_all threads nodes t (log ∷ logs) (s ∷ scripts) h =
      let room : max 1 (used_by log) + updates_in s * (threads + 1) ≤ 69633 = h.1 in
      let turned = mul_comm (updates_in s) (threads + 1) in
      (omega (arith, room, turned), fit_all threads nodes (t + 1) logs scripts h.2)

  numbers_left : (threads : ℕ) (nodes : List Node) (t : ℕ) (logs : List Content) (scripts : List (List (Call State Op Query Reply))) → HaveRoom threads nodes t logs scripts → HaveNumbers nodes t scripts
  numbers_left threads nodes t [] [] h = tt
  numbers_left threads nodes t [] (s ∷ scripts) h = absurd h
  numbers_left threads nodes t (log ∷ logs) [] h = absurd h
  numbers_left threads nodes t (log ∷ logs) (s ∷ scripts) h = (h.0, numbers_left threads nodes (t + 1) logs scripts h.2)

  pub found_ground : (b : Behaviour State Op Query Reply) (logs : List ℕ) (heads : List LogHead) (r : Recovered) (images : List (List (List ℕ))) (counts : List ℕ) (scripts : List (List (Call State Op Query Reply))) (store : StoreView)
      → length heads ≡ length scripts → AreHeads (length scripts) 0 heads → AreKeptImages logs (length scripts) images counts store → IsFound (base_in b heads scripts images) r → IsGround b logs heads r images counts scripts store
  found_ground b logs heads r images counts scripts store many heads_are read found =
      let based = base_is b heads scripts images found.all read.many found.is in
      let counts_are : r.logs ≡ map log_counts found.all.logs = ap (λ (x : Recovered). x.logs) found.told in
      let nodes_are : r.nodes ≡ found.all.nodes = ap (λ (x : Recovered). x.nodes) found.told in
      let room = subst (λ n. HaveRoom n found.all.nodes 0 found.all.logs scripts) many based.room in
      record {
        held = found.all.logs;
        contents = based.contents;
        counts_are = counts_are;
        merged = based.merged ∙ ap Ok (sym nodes_are);
        operations = subst (AllByRecursion (λ (n : Node). IsSome (b.op_at n.row))) (sym nodes_are) based.operations;
        many = many;
        as_many = read.many;
        counted = read.counted;
        heads_are = heads_are;
        numbers = subst (λ (ns : List Node). HaveNumbers ns 0 scripts) (sym nodes_are) (numbers_left (length scripts) found.all.nodes 0 found.all.logs scripts room);
        fitting = subst (λ (ls : List LogCounts). AreFitting (length scripts + 1) ls scripts) (sym counts_are) (fit_all (length scripts) found.all.nodes 0 found.all.logs scripts room);
        used = read.used;
        few = read.few;
        begins = fronts_begin logs 0 r.logs images store read.begins;
      }
