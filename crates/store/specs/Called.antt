-- The promise of every entry point, told once: one equation for the answer and one for each lent slice, by the model's definitions.
use Rattle.std.specs.Prelude.{◌≡◌, ℕ, Result}
use Rattle.answer.specs.declared.Refusal.{Refusal}
use Rattle.answer.specs.Reply.{reply_of}
use Rattle.geometry.specs.declared.Geometry.{Geometry}
use Rattle.model.specs.Command.{Command}
use Rattle.model.specs.Memory.{Memory, reply, after}

-- the call c on lent memory `before`, with the six numbers g, was answered by r and left the memory `left`
abbrev pub Called : Geometry → Memory → Command → Result ℕ Refusal → Memory → Type 0
Called g before c r left =
    (reply_of r left.out ≡ reply g before c)
    × ((left.tables ≡ (after g before c).tables) × ((left.log ≡ (after g before c).log) × (left.out ≡ (after g before c).out)))
