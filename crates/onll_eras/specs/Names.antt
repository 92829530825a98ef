-- The names of the files of eras.

use Rattle.std.specs.Prelude.{ℕ, ◌++◌, List, [], ◌∷◌, codes}
use Rattle.onll_eras.specs.declared.names.EraFiles.{EraFiles}
use Rattle.onll_open.specs.Names.{log_name, log_names}

-- what a command over eras is given: the file of the initial state of era 0, the name of the logs of era 0, and that of the areas
pub record EraNames : Type 0 where
  pub init : List ℕ
  pub logs : List ℕ
  pub ckpt : List ℕ

-- those that the code is given
abbrev pub names_of : EraFiles → EraNames
names_of files = record { init = files.init.now; logs = files.logs.now; ckpt = files.ckpt.now }

-- the file of an area, 0 or 1; with a dot and a thread's number after it, that of a log of its era
abbrev pub area_name : List ℕ → ℕ → List ℕ
area_name ckpt area = log_name ckpt area

-- the file of the text of an area's era
abbrev pub text_name : List ℕ → ℕ → List ℕ
text_name ckpt area = area_name ckpt area ++ codes ".init"

-- the files that the era of an area has, but for the area itself
abbrev pub era_files : List ℕ → ℕ → ℕ → List (List ℕ)
era_files ckpt area threads = log_names (area_name ckpt area) 0 threads ++ text_name ckpt area ∷ []

-- and with the area
abbrev pub area_files : List ℕ → ℕ → ℕ → List (List ℕ)
area_files ckpt area threads = area_name ckpt area ∷ era_files ckpt area threads
