use Rattle.std.proofs.Common.{ℕ, List, ◌≡◌, Result, Ok, Err, sym, ◌∙◌, subst}
use Rattle.onll_outside.specs.Views.{StoreView}
use Rattle.onll_text.specs.declared.reason.Reason.{Reason}
use Rattle.onll_text.specs.Refusal.{Refusal, refused}
use Rattle.onll_task.specs.declared.ending.Ending.{Ending}
use Rattle.onll_task.specs.declared.ending.Ending.TheVariants.{Refused}
use Rattle.onll_task.specs.declared.answer.Stop.{Stop}
use Rattle.onll_task.specs.declared.answer.Stop.TheVariants.{Says, NoMemory}
use Rattle.onll_task.specs.Printed.{refusal_text}
use Rattle.onll_task.specs.Reading.{IsCutText, Reads}
use Rattle.onll_task.specs.Stop.{StopSays}
use Rattle.onll_open.specs.Files.{SameCounts}
use Rattle.onll_task.proofs.Jobs.{Stops}

pub StopSays-weaker : (s : Stop) (P Q : Ending → List ℕ → Type 0) → ((e : Ending) (t : List ℕ) → P e t → Q e t) → StopSays s P → StopSays s Q
StopSays-weaker (Says ending text) P Q f h = f ending text.items h
StopSays-weaker NoMemory P Q f h = tt

-- what was read of the file is accepted
pub reads_cut : {A : Type 0} (store : StoreView) (grammar : List ℕ → Result A Refusal) (name text : List ℕ) (value : A) (c : IsCutText store name text)
    → grammar c.bytes ≡ grammar text → grammar text ≡ Ok value → Reads store grammar name value
reads_cut store grammar name text value c same h = record { bytes = c.bytes; held = c.held; accepted = same ∙ h }

-- what was read of the file is refused
pub stops_refused : {A : Type 0} (store after : StoreView) (grammar : List ℕ → Result A Refusal) (name text : List ℕ) (line : ℕ) (reason : Reason) (s : Stop) (c : IsCutText store name text)
    → grammar c.bytes ≡ grammar text → grammar text ≡ Err (refused line reason)
    → SameCounts store after → StopSays s (λ end said. (end ≡ Refused) × (said ≡ refusal_text name (refused line reason))) → StopSays s (Stops store after grammar name)
stops_refused store after grammar name text line reason s c same h faults =
    StopSays-weaker s (λ end said. (end ≡ Refused) × (said ≡ refusal_text name (refused line reason))) (Stops store after grammar name)
    (λ end said k. subst (λ e. Stops store after grammar name e said) (sym k.0)
    (record { bytes = c.bytes; refusal = refused line reason; held = c.held; outside = same ∙ h; line = k.1 }, faults))
