use Rattle.onll_areas.proofs.Zeros.{none_in_zeros}
use Rattle.onll_areas.proofs.WholeAreas.{found_in_area}
use Rattle.onll_areas.proofs.laws.area_laws.Goals as goal

pub returns : goal.returns
returns c = record { blank = none_in_zeros; whole = found_in_area }
