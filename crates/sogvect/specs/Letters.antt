-- Which call a letter and three numbers ask for. The letters are those of scripts, each as its byte, and so is how many numbers a call takes.
use Rattle.std.specs.Prelude.{◌≡◌, List, [], ◌∷◌, ℕ, length, take}
use Rattle.std.proofs.Math.Option.{Option, none, some}
use Rattle.model.specs.declared.Call.{Call}
use Rattle.script.specs.Letters.{call_of}

-- the first of two that is a call
abbrev pub or_else : Option Call → Option Call → Option Call
or_else (some c) d = some c
or_else none d = d

-- the call of the letter b and as many of three numbers as it takes; it passes over the others
unfoldable pub asked_by : ℕ → ℕ → ℕ → ℕ → Option Call
asked_by b x y z =
    or_else
    (call_of b [])
    (or_else (call_of b (x ∷ [])) (or_else (call_of b (x ∷ y ∷ [])) (call_of b (x ∷ y ∷ z ∷ []))))

-- THE LETTERS ARE THOSE OF SCRIPTS: what a line's letter and numbers say, the library is asked for by the same letter and numbers, whatever follows them;
-- and it is asked for nothing that no line says.
pub record AsScripts (b x y z : ℕ) (c : Call) : Type 0 where
  pub says : (ns : List ℕ) → call_of b ns ≡ some c → take (length ns) (x ∷ y ∷ z ∷ []) ≡ ns → asked_by b x y z ≡ some c
  pub said : asked_by b x y z ≡ some c → (n : ℕ) × (call_of b (take n (x ∷ y ∷ z ∷ [])) ≡ some c)
