-- What is served for the benchmarks is served from no store, on memory of zeros.
use mathlib.Core.Path.{◌≡◌, ap, ◌∙◌}
use mathlib.Core.List.{List}
use Prim.Native.Nat.{ℕ}
use lib.ListN.{length, replicate}
use Rattle.geometry.specs.Limits.{most_tables, most_log, most_out}
use Rattle.alloc_log.specs.Word.{write_at}
use Rattle.model.specs.Memory.{Memory, lent}
use Rattle.session.specs.declared.Session.{Session}
use Rattle.session.specs.Step.{no_store}
use Rattle.serving.specs.declared.Served.{Served}
use Rattle.serving.specs.Part.{Part, begun, served, Serves}
use Rattle.measure.specs.Measured.{measured}

-- memory of zeros
abbrev zeros : Memory
zeros = lent (replicate most_tables 0) (replicate most_log 0) (replicate most_out 0)

pub measures : (text buffer : List ℕ) (s : Session) (r : Served) (left : Memory) (after : List ℕ) → s ≡ no_store →
    Serves (served text (length buffer) (begun 0 s (lent (replicate most_tables 0) (replicate most_log 0) (replicate most_out 0)))) buffer r left after →
    (r.used ≡ length (measured text (length buffer)).replies) × (after ≡ write_at buffer 0 (measured text (length buffer)).replies)
unfolding measured
measures text buffer s r left after e v =
    let w : served text (length buffer) (begun 0 s zeros) ≡ measured text (length buffer) =
    ap (λ (k : Session). served text (length buffer) (begun 0 k zeros)) e in
    (v.used ∙ ap (λ (p : Part). length p.replies) w, v.replies ∙ ap (λ (p : Part). write_at buffer 0 p.replies) w)
