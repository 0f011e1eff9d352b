-- A SCRIPT SERVED for the benchmarks: the first part of its text, from no store, on memory of zeros.
use Rattle.std.specs.Prelude.{List, ℕ, replicate}
use Rattle.geometry.specs.Limits.{most_tables, most_log, most_out}
use Rattle.model.specs.Memory.{lent}
use Rattle.session.specs.Step.{no_store}
use Rattle.serving.specs.Part.{Part, begun, served}

unfoldable pub measured : List ℕ → ℕ → Part
measured text room = served text room (begun 0 no_store (lent (replicate most_tables 0) (replicate most_log 0) (replicate most_out 0)))
