-- What it is that a printed state reads back.

use Rattle.std.specs.Prelude.{◌≡◌, Ok}
use Rattle.std.specs.List.{flat_map}
use Rattle.onll_words.specs.Texts.{line_text}
use Rattle.onll_text.specs.declared.any_object.AnyObject.{AnyObject}
use Rattle.onll_text.specs.Wording.{Wording}
use Rattle.onll_text.specs.Init.{init_of}

-- what is printed of this state reads as that state
abbrev pub ReadsBack : {State Op Query Reply : Type 0} → Wording State Op Query Reply → (State → AnyObject) → State → Type 0
ReadsBack w object s = init_of (flat_map line_text (w.state_lines s)) ≡ Ok (object s)
