-- A core goes on where scripts do, from what images give to them.
use Rattle.std.proofs.Common.{◌≡◌, List, length, map, Option, Some, None, Result, Ok, Err, ap, ◌∙◌}
use Rattle.onll_model.specs.declared.call.Call.{Call}
use Rattle.onll_model.specs.Object.{Behaviour}
use Rattle.onll_log.specs.declared.head.LogHead.{LogHead}
use Rattle.onll_merge.specs.Merge.{unless}
use Rattle.onll_merge.specs.Recovered.{log_counts}
use Rattle.onll_merge.specs.Resumed.{entries_of}
use Rattle.onll_start.specs.declared.fault.ResumeFault.{ResumeFault}
use Rattle.onll_start.specs.Heads.{created_heads}
use Rattle.onll_start.specs.Start.{Found, too_many, found_in, with_room}
use Rattle.onll_start.proofs.Based.{of_room}
use Rattle.onll_core.specs.Resume.{going_on}
use Rattle.onll_core.specs.Resumed.{resumed_core}
use Rattle.onll_core.specs.Based.{SameRefusalLaw, SameBaseLaw}

module _ {State Op Query Reply : Type 0} (b : Behaviour State Op Query Reply) where
  same_refusal_of : (initial : State) (heads : List LogHead) (scripts : List (List (Call State Op Query Reply))) (r : Result Found ResumeFault) (fault : ResumeFault) → with_room b heads scripts r ≡ Err fault
      → going_on initial heads scripts r ≡ Err fault
  same_refusal_of initial heads scripts (Err e) fault h = (cc)
  same_refusal_of initial heads scripts (Ok f) fault h = by_room (too_many (length heads) f.nodes 0 (map log_counts f.logs) scripts) h
    where
      by_room : (o : Option ResumeFault) → unless o f ≡ Err fault → unless o (resumed_core initial f.nodes heads (entries_of f.logs) scripts) ≡ Err fault
      by_room None e = absurd (cc)
      by_room (Some x) e = (cc)

  pub same_refusal : SameRefusalLaw b
  same_refusal code init initial images scripts fault e = same_refusal_of initial (created_heads code init scripts) scripts (found_in b (created_heads code init scripts) images) fault e

  pub same_base : SameBaseLaw b
  same_base code init initial images scripts found e =
      let heads = created_heads code init scripts in
      let x = of_room b heads scripts (found_in b heads images) found e in
      ap (going_on initial heads scripts) x.0
      ∙ ap (λ (o : Option ResumeFault). unless o (resumed_core initial found.nodes heads (entries_of found.logs) scripts)) x.1
