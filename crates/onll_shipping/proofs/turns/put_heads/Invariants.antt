use Rattle.std.proofs.Common.{◌≡◌, ◌++◌, drop, map, take}
use Rattle.std.specs.List.{AllByRecursion, flat_map}
use Rattle.onll_log.specs.Torn.{AreLines}
use Rattle.onll_outside.specs.Views.{image_bytes}
use Rattle.onll_shipping.proofs.turns.put_heads.Given as goal

-- the images that are left make the lines that all make
abbrev pub invariant-loop-image : goal.invariant-loop-image
invariant-loop-image l = record {
  heads : l.out.items ++ image_bytes (flat_map (take 1) (drop l.image-index l.images)) ≡ l.fn.out.items ++ image_bytes (flat_map (take 1) l.images);
  rest : l.left.items ++ map (drop 1) (drop l.image-index l.images) ≡ map (drop 1) l.images;
  lines : AllByRecursion AreLines (drop l.image-index l.images) → AllByRecursion AreLines l.images;
}
