-- What a crash left of a core, which began anew or went on from any images.

use Rattle.std.proofs.Common.{ℕ, List, ◌≡◌, ⊎_elim, length, take, Ok, sym, refl, ap, ◌∙◌, subst}
use Rattle.std.proofs.lemmas.List.{length-map, take_at}
use Rattle.onll_log.specs.declared.head.LogHead.{LogHead}
use Rattle.onll_start.specs.Heads.{created_heads}
use Rattle.onll_start.specs.Start.{found_in}
use Rattle.onll_core.specs.Core.{CoreState}
use Rattle.onll_core.specs.Created.{created_core}
use Rattle.onll_log.specs.Head.{heads_from}
use Rattle.onll_core.specs.Crash.{RecoversAll}
use Rattle.onll_core.specs.Durable.{CoreGoesOn}
use Rattle.onll_core.specs.Outcomes.{script_of}
use Rattle.onll_core.specs.Step.{steps_of}
use Rattle.onll_core.proofs.Crashed.{images_many, steps_heads}
use Rattle.onll_core.proofs.Durable.{StartsSo, begun_starts, always_durable}
use Rattle.onll_core.proofs.Operations.{AllOperations, steps_operations}
use Rattle.onll_core.proofs.ReachedCores.{steps_reached, reached_consistent}
use Rattle.onll_core.proofs.Stays.{steps_stay}
use Rattle.onll_text.specs.Kinds.{ObjectKind}
use Rattle.onll_outside.specs.Views.{StoreView}
use Rattle.onll_merge.specs.Recovered.{recovered_with, expected_heads, state_recovered}
use Rattle.onll_recovery.proofs.Crashes.{AreFormat2, images_formats, images_recover, heads_expected, take_operations}
use Rattle.onll_recovery.proofs.Resumes.{resumed_on, found_is}
use Rattle.onll_jobs.specs.Durable.{AreLeftFiles, FilesLeaveAll}

module _ (k : ObjectKind) (init : List ℕ) (s : k.State) (store : StoreView) (logs : List ℕ) (threads : ℕ) (left : AreLeftFiles k init s store logs threads) where
  abbrev core : CoreState k.State k.Op k.Query k.Reply
  core = steps_of k.means left.first left.steps

  abbrev heads : List LogHead
  heads = created_heads k.code init left.scripts

  starts : StartsSo k.means heads s left.scripts left.first
  starts = begun_starts k.means k.code init s left.scripts left.within left.first left.begins

  rows : AllOperations k.means left.first.trace
  rows = ⊎_elim
      (λ (e : created_core s k.code init left.scripts ≡ left.first). subst (λ (c : CoreState k.State k.Op k.Query k.Reply). AllOperations k.means c.trace) e tt)
      (λ (g : CoreGoesOn k.means k.code init s left.scripts left.first). (resumed_on k.means k.code init s left.scripts g.images left.first g.as_many g.resumed).operations)
      left.begins

  all : RecoversAll k.means heads core left.images
  all = (always_durable k.means k.code init s left.scripts left.first left.within left.begins left.steps).crash left.images left.left

  front : take (length left.first.trace) all.recovers.nodes ≡ left.first.trace
  front =
      let stays = steps_stay k.means left.first left.steps in
      let long : core.base ≡ length left.first.trace = stays.base ∙ starts.base_is in
      subst (λ (n : ℕ). take n all.recovers.nodes ≡ take n core.trace) long all.recovers.from_base.same
      ∙ (ap (take (length left.first.trace)) stays.trace.1 ∙ take_at left.first.trace stays.trace.0 (length left.first.trace) refl)

  -- there is an image for each thread
  pub left_many : length left.images ≡ threads
  left_many =
      images_many core.threads left.images left.left
      ∙ ((steps_stay k.means left.first left.steps).all_threads ∙ (sym (length-map left.first.threads script_of) ∙ (ap length starts.scripts_are ∙ left.many)))

  formats : AreFormat2 left.images
  formats =
      let n = length left.scripts in
      images_formats k.means n k.code init core left.images
      (reached_consistent k.means n core (steps_reached k.means n left.first left.steps starts.reached))
      (steps_heads k.means left.first left.steps ∙ starts.heads_are) left.left

  operations : AllOperations k.means all.recovers.nodes
  operations = subst (AllOperations k.means) (sym all.recovers.front) (take_operations k.means _ core.trace (steps_operations k.means left.first left.steps rows))

  -- with the heads that its images are expected to have
  recovered : state_recovered k.means (expected_heads k.code init left.images) left.images ≡ Ok (recovered_with all.recovers.logs all.recovers.nodes)
  recovered =
      let expected : expected_heads k.code init left.images ≡ heads =
      heads_expected (length left.images) k.code init 0 left.images formats ∙ ap (λ (n : ℕ). heads_from n k.code init 0 n) (left_many ∙ sym left.many) in
      ap (λ (hs : List LogHead). state_recovered k.means hs left.images) expected
      ∙ images_recover k.means heads core left.images (steps_operations k.means left.first left.steps rows) all.recovers

  -- what it left, and that it is recovered
  pub record LeftImages : Type 0 where
    pub leaves : FilesLeaveAll k init s store logs threads left
    pub recovered : state_recovered k.means (expected_heads k.code init left.images) left.images
        ≡ Ok (recovered_with leaves.all.recovers.logs leaves.all.recovers.nodes)
    pub operations : AllOperations k.means leaves.all.recovers.nodes

  pub left_images : LeftImages
  left_images = record {
    leaves = record {
      all = all;
      front = front;
      gives = ap (λ (n : ℕ). found_in k.means (heads_from n k.code init 0 n) left.images) (sym left.many)
          ∙ found_is k.means heads left.images all.recovers.logs all.recovers.nodes all.recovers.contents formats all.recovers.recovered operations;
    };
    recovered = recovered;
    operations = operations;
  }
