-- Whether a line begins with a word: std's test of it is the same.
use Prim.Native.Nat.{ℕ}
use mathlib.Core.Path.{◌≡◌, refl, sym}
use mathlib.Core.List.{List, [], ◌∷◌}
use borrow.Author.Tests.{eq-eqb, ne_eqb}
use lib.Dec.{eqb}
use Rattle.std.specs.List.{starts_with}
use Rattle.answer.proofs.Cases.{cases, same?}
use Rattle.script.specs.Parse.{opens}

pub starts_opens : (ws l : List ℕ) → starts_with eqb l ws ≡ opens ws l
unfolding opens
starts_opens [] l = refl
starts_opens (w ∷ ws) [] = refl
starts_opens (w ∷ ws) (b ∷ l) =
    cases (same? b w)
    (λ e. rw (eq-eqb b w e, eq-eqb w b (sym e), starts_opens ws l))
    (λ n. rw (ne_eqb b w n, ne_eqb w b (λ e. n (sym e))))
