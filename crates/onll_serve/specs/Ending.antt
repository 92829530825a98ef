-- How well a service went, and the status with which its program ends.
use Rattle.std.specs.Prelude.{ℕ, Bool, false, ◌&&◌, if◌then◌else◌, Result, Ok, Err, is_ok}
use Rattle.std.specs.List.{list_all}
use Rattle.onll_serve.specs.declared.fault.NotServed.{NotServed}
use Rattle.onll_serve.specs.declared.service.Served.{Served}

-- it began, each work ended well, and all logs were kept
abbrev pub went_well : {State Device Work Answer Op Query Reply : Type 0} → (Answer → Bool)
    → Result (Served State Device Work Answer Op Query Reply) (NotServed Work) → Bool
went_well good (Ok served) = list_all good served.answers.items && is_ok served.kept
went_well good (Err refused) = false

-- the status of a program that did all, or didn't
abbrev pub status_of : Bool → ℕ
status_of good = if good then 0 else 1
