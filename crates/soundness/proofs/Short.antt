-- What the tests of lengths tell.
use Rattle.std.proofs.Common.{◌≡◌, ◌+◌, ◌*◌, ◌<◌, ◌≤◌, true, ltb, length, le-ltb, lt-ltb}
use Rattle.geometry.specs.declared.Geometry.{Geometry}
use Rattle.geometry.specs.Limits.{blocks}
use Rattle.model.specs.Layout.{need}
use Rattle.model.specs.Memory.{Memory, short?}

module _ (g : Geometry) (M : Memory) where
  pub short_tables : length M.tables < need g → true ≡ short? g M
  unfolding short?
  short_tables h = rw (lt-ltb (length M.tables) (need g) h)

  module _ (tables : need g ≤ length M.tables) where
    pub short_log : length M.log < 8 * g.words → true ≡ short? g M
    unfolding short?
    short_log h = rw (le-ltb (length M.tables) (need g) tables, lt-ltb (length M.log) (8 * g.words) h)

    pub short_out : 8 * g.words ≤ length M.log → ltb (length M.out) (2 * blocks g + 64) ≡ short? g M
    unfolding short?
    short_out log = rw (le-ltb (length M.tables) (need g) tables, le-ltb (length M.log) (8 * g.words) log)
