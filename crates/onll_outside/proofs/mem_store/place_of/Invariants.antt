use Rattle.std.proofs.Common.{◌≡◌, ◌+◌, drop}
use Rattle.onll_outside.specs.MemStore.{texts_of, place_in}
use Rattle.onll_outside.proofs.mem_store.place_of.Given as goal

-- the file is not among those passed
abbrev pub invariant-loop-held : goal.invariant-loop-held
invariant-loop-held l = record {
  passed : l.place + place_in (texts_of (drop l.held-index l.files)) l.name ≡ place_in (texts_of l.files) l.name;
  place : l.place ≡ l.held-index;
}
