-- `words_fit`: what was asked of a copy of the free words and of the births is the test of the blocks that wait and of the free words.
use Rattle.std.proofs.Common.{sym, ◌∙◌, arith}
use mathlib.Core.Bool.{false≢true}
use Rattle.soundness.proofs.Queued.{queue_short}
use Rattle.soundness.proofs.Free.{fit_many, fit_fails, fit_stops, fit_is}
use Rattle.soundness.proofs.held.words_fit.Goals as goal
use Rattle.soundness.proofs.held.words_fit.Goals.{then-set_listed, else-set_listed}

pub returns-then-g-n : goal.returns-then-g-n
returns-then-g-n c = fit_many _ _ c.args.tables.now.roomy c.header_number-n.ensures c.if-g-n.true

pub set_listed-requires-then-set_listed : goal.set_listed-requires-then-set_listed
set_listed-requires-then-set_listed c = (
  omega (arith, c.queue_at.ensures, c.header_number.ensures, queue_short _ _ c.requires, c.args.tables.now.roomy.room),
  c.set_listed.array_long,
)

pub returns-then-set_listed-2 : goal.returns-then-set_listed-2
returns-then-set_listed-2 c =
    elim c.if-set_listed.branch [
      | then-set_listed w ↦ fit_is _ _ c.args.tables.now.roomy c.requires c.free_words-words.ensures.copy
          c.free_words-words.ensures.range c.header_number-n.ensures c.waiting_at.ensures (c.set_listed.ensures.is, c.set_listed.ensures.set)
          w.if-set_listed.true w.header_number.ensures w.queue_at.ensures
          (w.set_listed-then-set_listed.ensures.is, w.set_listed-then-set_listed.ensures.set)
          (sym w.value-is ∙ c.if-set_listed-2.true) (rw w.words-is at c.words_agree.ensures)
      | else-set_listed w ↦ absurd (false≢true (sym (w.value-is ∙ w.if-set_listed.false) ∙ c.if-set_listed-2.true))
    ]

pub returns-else-set_listed-2 : goal.returns-else-set_listed-2
returns-else-set_listed-2 c =
    c.if-set_listed-2.false ∙ elim c.if-set_listed.branch [
      | then-set_listed w ↦ fit_stops _ _ c.args.tables.now.roomy c.requires c.free_words-words.ensures.copy
          c.free_words-words.ensures.range c.header_number-n.ensures c.waiting_at.ensures (c.set_listed.ensures.is, c.set_listed.ensures.set)
          w.if-set_listed.true w.header_number.ensures w.queue_at.ensures
          (w.set_listed-then-set_listed.ensures.is, w.set_listed-then-set_listed.ensures.set)
          (sym w.value-is ∙ c.if-set_listed-2.false)
      | else-set_listed w ↦ fit_fails _ _ c.args.tables.now.roomy c.requires c.free_words-words.ensures.copy
          c.free_words-words.ensures.range c.header_number-n.ensures c.waiting_at.ensures (c.set_listed.ensures.is, c.set_listed.ensures.set)
          w.if-set_listed.false
    ]
