-- `put_kept`: the words that the loops have still to write complete the compressed log.
use mathlib.Core.Path.{◌≡◌}
use Prim.Native.Nat.{◌-◌, ◌*◌, ◌≤◌}
use Rattle.alloc_log.specs.Compress.{compressed}
use Rattle.alloc_log.proofs.Compressing.{words_from, Stands}
use Rattle.logging.proofs.Births.{kept}
use Rattle.logging.proofs.put_kept.Given as goal

abbrev pub invariant-loop-b : goal.invariant-loop-b
invariant-loop-b l =
    Stands l.initial.log l.initial.used l.per (kept l.words) (l.arenas * l.per)
    (words_from l.per (kept l.words) l.initial.b 0 (l.arenas * l.per - l.initial.b)) l.log l.used 0 l.b
    × (l.b ≤ l.edge) × (l.edge ≤ l.arenas * l.per) × (l.initial.b ≤ l.b)

abbrev pub decreases-loop-b : goal.decreases-loop-b
decreases-loop-b l = l.edge - l.b

abbrev pub invariant-loop-arena : goal.invariant-loop-arena
invariant-loop-arena l =
    Stands l.initial.log 0 l.per (kept l.words) (l.arenas * l.per) (compressed l.arenas l.per (kept l.words)) l.log l.used 0 (l.arena * l.per)
