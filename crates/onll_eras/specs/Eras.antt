-- Eras: the logs of an object begin anew after each checkpoint.

use Rattle.std.specs.Prelude.{ℕ, ◌+◌, ◌%◌, List, Option, Some, None}
use Rattle.onll_checkpoint.specs.Checkpoint.{CheckpointState}
use Rattle.onll_eras.specs.Names.{EraNames, area_name}

-- an era: its number, how many updates all eras before it had, the text of its initial state, the file that a refusal of that text
-- names, and the name of its logs
pub record Era : Type 0 where
  pub number : ℕ
  pub place : ℕ
  pub text : List ℕ
  pub source : List ℕ
  pub logs : List ℕ

-- the era of the newest checkpoint; where there is none era 0, whose initial state has these bytes
abbrev pub era_of : EraNames → (bytes : List ℕ) → Option CheckpointState → Era
era_of names bytes None = record { number = 0; place = 0; text = bytes; source = names.init; logs = names.logs }
era_of names bytes (Some c) = record {
  number = c.number;
  place = c.place;
  text = c.text;
  source = area_name names.ckpt (c.number % 2);
  logs = area_name names.ckpt (c.number % 2);
}

-- the area of the era after this one
abbrev pub next_area : Era → ℕ
next_area era = (era.number + 1) % 2
