-- The refusal of a text, and how readers are joined so that the first refusal stands.

use Rattle.std.specs.Prelude.{ℕ, ◌≡◌, Bool, Option, Some, None, Result, Ok, Err, if◌then◌else◌, List, codes}
use Rattle.onll_text.specs.declared.reason.Reason.{Reason}
use Rattle.onll_text.specs.declared.reason.Reason.TheVariants.{TooLong, Missing, UnknownObject, UnknownWord, WrongCount, BadNumber, BadWord, OutOfRange, Repeated, TooMany, TooLarge, AfterCrash, BadLine}
use Rattle.onll_text.specs.declared.reason.TextFault.{TextFault}
use Rattle.onll_text.specs.declared.reason.TextFault.TheVariants.{Refused, NoMemory}

-- the first refused line of a text, 0 for the whole file, and the first reason that it is refused for
pub record Refusal : Type 0 where
  pub line : ℕ
  pub reason : Reason

abbrev pub refused : ℕ → Reason → Refusal
refused line reason = record { line = line; reason = reason }

-- what follows where this was accepted, and otherwise its refusal
infixl 10 ◌>>=◌
abbrev pub ◌>>=◌ : {A B E : Type 0} → Result A E → (A → Result B E) → Result B E
(Ok x) >>= f = f x
(Err e) >>= f = Err e

-- refused for this reason where the test fails
abbrev pub only_if : {A : Type 0} → Bool → Reason → A → Result A Reason
only_if test reason x = if test then Ok x else Err reason

abbrev pub or_reason : {A : Type 0} → Reason → Option A → Result A Reason
or_reason reason None = Err reason
or_reason reason (Some x) = Ok x

-- the reason of a line as the refusal of the text
abbrev pub at_line : {A : Type 0} → ℕ → Result A Reason → Result A Refusal
at_line line (Ok x) = Ok x
at_line line (Err reason) = Err (refused line reason)

-- reading failed for this: the text is refused so, or memory could not be had
abbrev pub Fails : {A : Type 0} → TextFault → Result A Refusal → Type 0
Fails NoMemory read = Unit {0}
Fails (Refused line reason) read = read ≡ Err (refused line reason)

-- a reason as it is printed
abbrev pub reason_text : Reason → List ℕ
reason_text TooLong = codes "too long"
reason_text Missing = codes "missing"
reason_text UnknownObject = codes "unknown object"
reason_text UnknownWord = codes "unknown word"
reason_text WrongCount = codes "wrong count"
reason_text BadNumber = codes "bad number"
reason_text BadWord = codes "bad word"
reason_text OutOfRange = codes "out of range"
reason_text Repeated = codes "repeated"
reason_text TooMany = codes "too many"
reason_text TooLarge = codes "too large"
reason_text AfterCrash = codes "after crash"
reason_text BadLine = codes "bad line"
