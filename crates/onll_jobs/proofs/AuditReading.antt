-- Of a report no more is read than decides the verdict.

use Rattle.std.proofs.Common.{ℕ, Bool, true, false, List, ◌≡◌, ◌+◌, take, Option, Some, None, Result, Ok, Err, refl, sym, ap, ◌∙◌, subst}
use Rattle.onll_model.specs.declared.call.Call.{Call}
use Rattle.onll_outside.specs.Views.{StoreView, Gives, FileHolds, IsFrontOfFile}
use Rattle.onll_text.specs.declared.reason.Reason.{Reason}
use Rattle.onll_text.specs.Kinds.{ObjectKind}
use Rattle.onll_text.specs.Refusal.{Refusal, refused}
use Rattle.onll_text.proofs.Whole.{cut_same}
use Rattle.onll_audit.specs.Verdict.{verdict_of}
use Rattle.onll_task.specs.declared.ending.Ending.{Ending}
use Rattle.onll_task.specs.declared.ending.Ending.TheVariants.{Refused}
use Rattle.onll_task.specs.declared.answer.Stop.{Stop}
use Rattle.onll_task.specs.Printed.{refusal_text}
use Rattle.onll_task.specs.Reading.{Reads}
use Rattle.onll_task.specs.Stop.{StopSays}
use Rattle.onll_open.specs.Files.{SameCounts}
use Rattle.onll_task.proofs.Jobs.{Stops}
use Rattle.onll_task.proofs.Stops.{StopSays-weaker}
use Rattle.onll_audit.specs.Printed.{longest_report}
use Rattle.onll_jobs.specs.AuditJob.{or_bad_line, judged_of}

-- the front of a text, with one byte that is too many, is judged as the whole is
pub judged_front : (k : ObjectKind) (s : k.State) (scripts : List (List (Call k.State k.Op k.Query k.Reply))) (bytes : List ℕ)
    → judged_of k s scripts (take (longest_report + 1) bytes) ≡ judged_of k s scripts bytes
judged_front k s scripts bytes = ap or_bad_line (cut_same (verdict_of k.means k.wording s scripts) longest_report bytes (Err 0))

-- the file holds bytes that are read as this text is
pub record ReadsLike {A : Type 0} (store : StoreView) (grammar : List ℕ → A) (name text : List ℕ) : Type 0 where
  pub bytes : List ℕ
  pub held : FileHolds store name bytes
  pub same : grammar bytes ≡ grammar text

-- what a store gives of a file is read as the file is, where a front of this length is read as the whole
pub reads_like : {A : Type 0} (store : StoreView) (grammar : List ℕ → A) (name text : List ℕ) (limit : ℕ)
    → ((bytes : List ℕ) → grammar (take limit bytes) ≡ grammar bytes) → Gives store name limit text → ReadsLike store grammar name text
reads_like store grammar name text limit front h = by_telling store.tells refl
  where
    told : (found : Option (List ℕ)) → store.file name ≡ found → IsFrontOfFile limit found text → ReadsLike store grammar name text
    told None e k = absurd k
    told (Some all) e k = record { bytes = all; held = λ _. e; same = sym (front all) ∙ ap grammar (sym k) }

    by_telling : (t : Bool) → store.tells ≡ t → ReadsLike store grammar name text
    by_telling true e = told (store.file name) refl (h e)
    by_telling false e = record { bytes = text; held = λ tells. (cc (e, tells)); same = refl }

module _ {A : Type 0} {store : StoreView} {grammar : List ℕ → Result A Refusal} {name text : List ℕ} (like : ReadsLike store grammar name text) where
  pub reads_as : (value : A) → grammar text ≡ Ok value → Reads store grammar name value
  reads_as value h = record { bytes = like.bytes; held = like.held; accepted = like.same ∙ h }

  pub refused_as : (after : StoreView) (line : ℕ) (reason : Reason) (s : Stop) → grammar text ≡ Err (refused line reason) → SameCounts store after
      → StopSays s (λ end said. (end ≡ Refused) × (said ≡ refusal_text name (refused line reason))) → StopSays s (Stops store after grammar name)
  refused_as after line reason s h counts said =
      StopSays-weaker s (λ end said. (end ≡ Refused) × (said ≡ refusal_text name (refused line reason))) (Stops store after grammar name)
      (λ end said k. subst (λ (e : Ending). Stops store after grammar name e said) (sym k.0)
      (record { bytes = like.bytes; refusal = refused line reason; held = like.held; outside = like.same ∙ h; line = k.1 }, counts)) said
