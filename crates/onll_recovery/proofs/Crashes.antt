use Rattle.std.proofs.Common.{ℕ, zero, suc, Bool, true, false, List, [], ◌∷◌, ◌≡◌, ◌+◌, ◌==◌, ⊎_elim, eqb-true, cond, length, map, take, Some, None, refl, ap, ◌∙◌, sym, subst, arith, Ok}
use Rattle.std.proofs.lemmas.Bool.{cases_Bool}
use Rattle.std.specs.List.{AllByRecursion}
use Rattle.onll_model.specs.declared.node.Node.{Node}
use Rattle.onll_model.specs.declared.call.Call.{Call}
use Rattle.onll_model.specs.Object.{Behaviour}
use Rattle.onll_model.specs.Frames.{Thread}
use Rattle.onll_model.proofs.Lists.{same_some, some_not_none}
use Rattle.onll_log.specs.declared.head.LogHead.{LogHead}
use Rattle.onll_log.specs.Head.{word, is_head, head_of, head_for, heads_from}
use Rattle.onll_log.specs.Grammar.{Content, content_of, entries_from, are_zero_lines, format_in}
use Rattle.onll_merge.specs.Merge.{top_of}
use Rattle.onll_merge.specs.FrameLogs.{AreLogsOf}
use Rattle.onll_start.specs.Heads.{created_heads}
use Rattle.onll_start.proofs.Heads.{length-heads_from}
use Rattle.onll_core.specs.Core.{CoreState}
use Rattle.onll_core.specs.CoreFrame.{frame_thread}
use Rattle.onll_core.specs.Step.{steps_of}
use Rattle.onll_core.specs.Created.{created_core}
use Rattle.onll_core.specs.Consistent.{IsConsistent}
use Rattle.onll_core.specs.Crash.{AreImages, heads_of, Recovers}
use Rattle.onll_core.proofs.Images.{image_either}
use Rattle.onll_core.proofs.Crashed.{are_held, steps_heads}
use Rattle.onll_core.proofs.Recovered.{first_heads}
use Rattle.onll_core.proofs.Operations.{AllOperations, steps_operations}
use Rattle.onll_merge.specs.Recovered.{recovered_with, content_before, contents_from, heads_for, state_recovered}
use Rattle.onll_task.proofs.OperationRows.{recovered_is}

-- The images of a core that was made of scripts are logs of this run, and what is recovered from them are operations.

-- ---- the format of an image
-- a log's image is read by the format of its head
abbrev pub format_by : ℕ → ℕ
format_by n = cond (n == 2) 2 1

one_not_two : (n : ℕ) → n ≡ 1 → n ≡ 2 → ⊥
one_not_two n e f = omega (arith, e, f)

two : (n : ℕ) → n ≡ 2 → format_by n ≡ 2
two n e = ap format_by e

head_is : (is zeros : Bool) (l : List ℕ) (ls : List (List ℕ)) (log : Content) (head : LogHead)
    → cond is (Some (record { head = Some (head_of l); entries = entries_from (head_of l) 0 0 ls })) (cond zeros (Some (record { head = None; entries = [] })) None) ≡ Some log
    → log.head ≡ Some head → head_of l ≡ head
head_is true zeros l ls log head e h = same_some (head_of l) head (ap (λ (c : Content). c.head) (same_some (record { head = Some (head_of l); entries = entries_from (head_of l) 0 0 ls }) log e) ∙ h)
head_is false true l ls log head e h = some_not_none head (sym h ∙ sym (ap (λ (c : Content). c.head) (same_some (record { head = None; entries = [] }) log e)))
head_is false false l ls log head e h = some_not_none log (sym e)

pub format_is : (image : List (List ℕ)) (log : Content) (head : LogHead) → content_of image ≡ Some log → log.head ≡ Some head → head.format ≡ 2 → format_in image ≡ 2
format_is [] log head e h f = some_not_none log (sym e)
format_is (l ∷ ls) log head e h f =
    let same = head_is (is_head l) (are_zero_lines (l ∷ ls)) l ls log head e h in
    two (word l 1) (ap (λ (x : LogHead). x.format) same ∙ f)

-- the head of a log whose image is read by format 2 has that format
pub format_tested : (n : ℕ) → format_by n ≡ 2 → n ≡ 2
format_tested n e = ⊎_elim (λ (t : n == 2 ≡ true). eqb-true n 2 t)
    (λ (f : n == 2 ≡ false). absurd (one_not_two (format_by n) (ap (λ b. cond {A = ℕ} b 2 1) f) e))
    (cases_Bool (n == 2))

pub head_format : (image : List (List ℕ)) (log : Content) (head : LogHead) → content_of image ≡ Some log → log.head ≡ Some head → format_in image ≡ 2 → head.format ≡ 2
head_format [] log head e h f = absurd (omega (arith, f))
head_format (l ∷ ls) log head e h f =
    let same = head_is (is_head l) (are_zero_lines (l ∷ ls)) l ls log head e h in
    sym (ap (λ (x : LogHead). x.format) same) ∙ format_tested (word l 1) f

abbrev pub HaveFormat2 : List LogHead → Type 0
HaveFormat2 heads = AllByRecursion (λ (head : LogHead). head.format ≡ 2) heads

abbrev pub AreFormat2 : List (List (List ℕ)) → Type 0
AreFormat2 images = AllByRecursion (λ (image : List (List ℕ)). format_in image ≡ 2) images

formats_are : (ths : List Thread) (heads : List LogHead) (logs : List Content) (images : List (List (List ℕ))) → AreLogsOf ths heads logs → map content_of images ≡ map Some logs → HaveFormat2 heads → AreFormat2 images
formats_are ths heads logs [] left e f = tt
formats_are ths heads [] (image ∷ images) left e f = absurd (cc)
formats_are [] [] (log ∷ logs) (image ∷ images) left e f = absurd left
formats_are [] (head ∷ heads) (log ∷ logs) (image ∷ images) left e f = absurd left
formats_are (th ∷ ths) [] (log ∷ logs) (image ∷ images) left e f = absurd left
formats_are (th ∷ ths) (head ∷ heads) (log ∷ logs) (image ∷ images) left e f =
    let here : content_of image ≡ Some log = (cc) in
    let rest : map content_of images ≡ map Some logs = (cc) in
    (format_is image log head here left.0.head_kept f.0, formats_are ths heads logs images left.1 rest f.1)

pub heads_have_format : (count code : ℕ) (init : List ℕ) (t n : ℕ) → HaveFormat2 (heads_from count code init t n)
heads_have_format count code init t zero = tt
heads_have_format count code init t (suc n) = (refl, heads_have_format count code init (suc t) n)

-- ---- the heads
pub heads_expected : (count code : ℕ) (init : List ℕ) (i : ℕ) (images : List (List (List ℕ))) → AreFormat2 images → heads_for code init count i images ≡ heads_from count code init i (length images)
heads_expected count code init i [] f = refl
heads_expected count code init i (image ∷ images) f =
    let next : i + 1 ≡ suc i = omega arith in
    let here = f.0 in
    let rest = heads_expected count code init (i + 1) images f.1 ∙ ap (λ (n : ℕ). heads_from count code init n (length images)) next in
    λ j. head_for (here j) i count code init ∷ rest j

-- ---- the contents
pub contents_are : (i : ℕ) (images : List (List (List ℕ))) (logs : List Content) → map content_of images ≡ map Some logs → contents_from i images ≡ Ok logs
contents_are i [] [] e = refl
contents_are i [] (log ∷ logs) e = absurd (cc)
contents_are i (image ∷ images) [] e = absurd (cc)
contents_are i (image ∷ images) (log ∷ logs) e =
    let here : content_of image ≡ Some log = (cc) in
    let rest : map content_of images ≡ map Some logs = (cc) in
    let after = contents_are (i + 1) images logs rest in
    λ j. content_before i (here j) (after j)

module _ {State Op Query Reply : Type 0} (b : Behaviour State Op Query Reply) where
  -- ---- the rows
  pub take_operations : (k : ℕ) (nodes : List Node) → AllOperations b nodes → AllOperations b (take k nodes)
  take_operations zero nodes h = tt
  take_operations (suc k) [] h = tt
  take_operations (suc k) (n ∷ nodes) h = (h.0, take_operations k nodes h.1)

  -- ---- what is recovered
  -- images of a core recover to operations
  pub images_recover : (heads : List LogHead) (c : CoreState State Op Query Reply) (images : List (List (List ℕ))) → AllOperations b c.trace → (r : Recovers heads c images)
      → state_recovered b heads images ≡ Ok (recovered_with r.logs r.nodes)
  images_recover heads c images rows r =
      recovered_is b images heads r.logs r.nodes (contents_are 0 images r.logs r.contents) r.recovered
      (subst (AllOperations b) (sym r.front) (take_operations (top_of r.logs) c.trace rows))

  -- images of a consistent core whose logs have such heads are read by format 2
  pub images_formats : (count code : ℕ) (init : List ℕ) (c : CoreState State Op Query Reply) (images : List (List (List ℕ))) → IsConsistent count c
      → heads_of c.threads ≡ heads_from count code init 0 count → AreImages c.threads images → AreFormat2 images
  images_formats count code init c images k same a =
      let held = are_held c.base c.trace c.threads images a (λ t th at image i. image_either count c k t th at image i) in
      formats_are (map (frame_thread c.base c.trace) c.threads) (heads_of c.threads) held.logs images held.left held.contents (subst HaveFormat2 (sym same) (heads_have_format count code init 0 count))

  -- the heads of a core that was made of scripts, after any steps
  pub made_heads : (code : ℕ) (init : List ℕ) (s : State) (scripts : List (List (Call State Op Query Reply))) (ts : List ℕ)
      → heads_of (steps_of b (created_core s code init scripts) ts).threads ≡ created_heads code init scripts
  made_heads code init s scripts ts =
      steps_heads b (created_core s code init scripts) ts ∙ first_heads (created_heads code init scripts) scripts (length-heads_from (length scripts) code init 0 (length scripts))

  -- A crash of a core that was made of scripts is recovered, after any steps, whatever it leaves of each device, with the core's own
  -- heads.
  pub crash_recovered : (code : ℕ) (init : List ℕ) (s : State) (scripts : List (List (Call State Op Query Reply))) (ts : List ℕ) (images : List (List (List ℕ)))
      → (r : Recovers (created_heads code init scripts) (steps_of b (created_core s code init scripts) ts) images)
      → state_recovered b (heads_of (steps_of b (created_core s code init scripts) ts).threads) images ≡ Ok (recovered_with r.logs r.nodes)
  crash_recovered code init s scripts ts images r =
      let c = created_core s code init scripts in
      ap (λ heads. state_recovered b heads images) (made_heads code init s scripts ts)
      ∙ images_recover (created_heads code init scripts) (steps_of b c ts) images (steps_operations b c ts tt) r
