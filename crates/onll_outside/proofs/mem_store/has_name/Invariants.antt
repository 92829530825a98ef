use Rattle.std.proofs.Common.{◌≡◌, drop, map}
use Rattle.std.specs.String.{string_bytes}
use Rattle.onll_outside.specs.Directory.{is_locked}
use Rattle.onll_outside.proofs.mem_store.has_name.Given as goal

-- the name is not among those passed
abbrev pub invariant-loop-held : goal.invariant-loop-held
invariant-loop-held l = is_locked (map string_bytes (drop l.held-index l.names)) l.name ≡ is_locked (map string_bytes l.names) l.name
