-- MEMORY ENOUGH FOR EVERY GEOMETRY: what the layout, the log and the result buffer need at most, and the largest geometry needs.
use Rattle.std.specs.Prelude.{◌≡◌, ◌+◌, ◌*◌, ◌≤◌}
use Rattle.geometry.specs.declared.Geometry.{Geometry}
use Rattle.geometry.specs.Limits.{blocks, Inside, largest, most_tables, most_log, most_out}
use Rattle.model.specs.Layout.{need}

pub record MostNeeded : Type 0 where
  pub tables : (g : Geometry) → Inside g → need g ≤ most_tables
  pub log : (g : Geometry) → Inside g → 8 * g.words ≤ most_log
  pub out : (g : Geometry) → Inside g → 2 * blocks g + 64 ≤ most_out
  -- no less is enough
  pub inside : Inside largest
  pub tables_all : need largest ≡ most_tables
  pub log_all : 8 * largest.words ≡ most_log
  pub out_all : 2 * blocks largest + 64 ≡ most_out
