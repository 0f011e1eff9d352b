-- Memory enough for every geometry, and no less.
use mathlib.Core.Path.{refl}
use native.Mathlib.Omega.{arith}
use Rattle.geometry.specs.Limits.{fits, within, largest}
use Rattle.geometry.proofs.Made.{fits_inside}
use Rattle.model.specs.Most.{MostNeeded}

pub most_needed : MostNeeded
unfolding fits within
most_needed = record {
  tables = λ g i. omega (arith, i.records_most, i.blocks_most);
  log = λ g i. omega (arith, i.words_most);
  out = λ g i. omega (arith, i.blocks_most);
  inside = fits_inside largest refl;
  tables_all = refl;
  log_all = refl;
  out_all = refl;
}
