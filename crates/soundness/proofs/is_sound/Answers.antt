-- `is_sound`: each test of the chain is one part of the whole test.
use Rattle.std.proofs.Common.{◌≡◌, ◌&&◌, true, replicate, sym, ◌∙◌}
use mathlib.Core.Bool.{false≢true}
use Rattle.model.specs.Memory.{numbers?, range?}
use Rattle.model.specs.Layout.{state_of}
use Rattle.soundness.proofs.Clauses.{own_are}
use Rattle.soundness.proofs.Queued.{queue_says}
use Rattle.soundness.proofs.Loops.{and_met, and_unmet}
use Rattle.soundness.proofs.Whole.{range_known, seen_none, pairs, paged, single, born, queues, words, windows, rest, paged_is, born_is}
use Rattle.soundness.proofs.Whole.{sound_unheaded, sound_unrested, sound_logged}
use Rattle.soundness.proofs.is_sound.Goals as goal
use Rattle.soundness.proofs.is_sound.Goals.{then-numbers_fit, else-numbers_fit, then-ranges_fit, else-ranges_fit, then-pages_fit, else-pages_fit}
use Rattle.soundness.proofs.is_sound.Goals.{then-births_agree, else-births_agree, then-queue_fits, else-queue_fits, then-words_fit, else-words_fit}
use Rattle.soundness.proofs.is_sound.Goals.{then-windows_fit, else-windows_fit}

pub returns-then-not-records_fit : goal.returns-then-not-records_fit
returns-then-not-records_fit c =
    let g = c.args.g in
    let t = c.args.t.now in
    let first : c.if-numbers_fit.value ≡ (numbers? g t && range? g (state_of g t)) = elim c.if-numbers_fit.branch [
      | then-numbers_fit w ↦ and_met c.numbers_fit.ensures w.if-numbers_fit.true (w.value-is ∙ w.ranges_fit.ensures)
      | else-numbers_fit w ↦ and_unmet _ c.numbers_fit.ensures w.if-numbers_fit.false w.value-is
    ] in
    let head : c.if-ranges_fit.value ≡ ((numbers? g t && range? g (state_of g t)) && pairs g t) = elim c.if-ranges_fit.branch [
      | then-ranges_fit w ↦ and_met first w.if-ranges_fit.true (w.value-is ∙ w.records_fit.ensures)
      | else-ranges_fit w ↦ and_unmet _ first w.if-ranges_fit.false w.value-is
    ] in
    sound_unheaded g t _ head c.if-not-records_fit.true

pub queue_fits-requires : goal.queue_fits-requires
queue_fits-requires c = (
  c.pages_fit.ensures.size,
  elim c.if-pages_fit.branch [
    | then-pages_fit w ↦ own_are c.args.g c.args.t.now _ (sym w.births_agree.ensures ∙ sym w.value-is ∙ c.if-births_agree.true)
    | else-pages_fit w ↦ absurd (false≢true (sym (w.value-is ∙ w.if-pages_fit.false) ∙ c.if-births_agree.true))
  ],
)

pub words_fit-requires : goal.words_fit-requires
words_fit-requires c =
    elim c.if-births_agree.branch [
      | then-births_agree w ↦ (queue_says c.args.g c.args.t.now).holds (sym w.queue_fits.ensures.is ∙ sym w.value-is ∙ c.if-queue_fits.true)
      | else-births_agree w ↦ absurd (false≢true (sym (w.value-is ∙ w.if-births_agree.false) ∙ c.if-queue_fits.true))
    ]

pub log_holds-requires : goal.log_holds-requires
log_holds-requires c =
    let headed : c.if-numbers_fit.value ≡ true = elim c.if-ranges_fit.branch [
      | then-ranges_fit w ↦ w.if-ranges_fit.true
      | else-ranges_fit w ↦ absurd (false≢true (sym (w.value-is ∙ w.if-ranges_fit.false) ∙ c.if-not-records_fit.false))
    ] in
    let six : c.if-words_fit.value ≡ true = elim c.if-windows_fit.branch [
      | then-windows_fit w ↦ w.if-windows_fit.true
      | else-windows_fit w ↦ absurd (false≢true (sym (w.value-is ∙ w.if-windows_fit.false) ∙ c.if-names_fit.true))
    ] in
    let five : c.if-queue_fits.value ≡ true = elim c.if-words_fit.branch [
      | then-words_fit w ↦ w.if-words_fit.true
      | else-words_fit w ↦ absurd (false≢true (sym (w.value-is ∙ w.if-words_fit.false) ∙ six))
    ] in
    let four : c.if-births_agree.value ≡ true = elim c.if-queue_fits.branch [
      | then-queue_fits w ↦ w.if-queue_fits.true
      | else-queue_fits w ↦ absurd (false≢true (sym (w.value-is ∙ w.if-queue_fits.false) ∙ five))
    ] in (
      c.requires.1,
      elim c.if-numbers_fit.branch [
        | then-numbers_fit w ↦ range_known c.args.g c.args.t.now (sym w.ranges_fit.ensures ∙ sym w.value-is ∙ headed)
        | else-numbers_fit w ↦ absurd (false≢true (sym (w.value-is ∙ w.if-numbers_fit.false) ∙ headed))
      ],
      elim c.if-births_agree.branch [
        | then-births_agree w ↦ rw w.own-is (w.queue_fits.ensures.marked (sym w.value-is ∙ four))
        | else-births_agree w ↦ absurd (false≢true (sym (w.value-is ∙ w.if-births_agree.false) ∙ four))
      ],
    )

pub returns-then-names_fit : goal.returns-then-names_fit
returns-then-names_fit c =
    let g = c.args.g in
    let t = c.args.t.now in
    let first : c.if-numbers_fit.value ≡ (numbers? g t && range? g (state_of g t)) = elim c.if-numbers_fit.branch [
      | then-numbers_fit w ↦ and_met c.numbers_fit.ensures w.if-numbers_fit.true (w.value-is ∙ w.ranges_fit.ensures)
      | else-numbers_fit w ↦ and_unmet _ c.numbers_fit.ensures w.if-numbers_fit.false w.value-is
    ] in
    let head : c.if-ranges_fit.value ≡ ((numbers? g t && range? g (state_of g t)) && pairs g t) = elim c.if-ranges_fit.branch [
      | then-ranges_fit w ↦ and_met first w.if-ranges_fit.true (w.value-is ∙ w.records_fit.ensures)
      | else-ranges_fit w ↦ and_unmet _ first w.if-ranges_fit.false w.value-is
    ] in
    let pages : c.pages_fit.result ≡ (paged g t && single g t (λ b. 0)) = c.pages_fit.ensures.passes ∙ paged_is g t (replicate 2048 0) (seen_none 2048) in
    let three : c.if-pages_fit.value ≡ ((paged g t && single g t (λ b. 0)) && born g t) = elim c.if-pages_fit.branch [
      | then-pages_fit w ↦ and_met pages w.if-pages_fit.true
          (w.value-is ∙ w.births_agree.ensures ∙ born_is g t (replicate 2048 0) (seen_none 2048) _ (c.pages_fit.ensures.marked w.if-pages_fit.true))
      | else-pages_fit w ↦ and_unmet _ pages w.if-pages_fit.false w.value-is
    ] in
    let four : c.if-births_agree.value ≡ (((paged g t && single g t (λ b. 0)) && born g t) && queues g t) = elim c.if-births_agree.branch [
      | then-births_agree w ↦ and_met three w.if-births_agree.true (w.value-is ∙ w.queue_fits.ensures.is)
      | else-births_agree w ↦ and_unmet _ three w.if-births_agree.false w.value-is
    ] in
    let five : c.if-queue_fits.value ≡ ((((paged g t && single g t (λ b. 0)) && born g t) && queues g t) && words g t) = elim c.if-queue_fits.branch [
      | then-queue_fits w ↦ and_met four w.if-queue_fits.true (w.value-is ∙ w.words_fit.ensures)
      | else-queue_fits w ↦ and_unmet _ four w.if-queue_fits.false w.value-is
    ] in
    let six : c.if-words_fit.value ≡ (((((paged g t && single g t (λ b. 0)) && born g t) && queues g t) && words g t) && windows g t) =
    elim c.if-words_fit.branch [
      | then-words_fit w ↦ and_met five w.if-words_fit.true (w.value-is ∙ w.windows_fit.ensures)
      | else-words_fit w ↦ and_unmet _ five w.if-words_fit.false w.value-is
    ] in
    let seven : c.if-windows_fit.value ≡ rest g t = elim c.if-windows_fit.branch [
      | then-windows_fit w ↦ and_met six w.if-windows_fit.true (w.value-is ∙ w.names_fit.ensures)
      | else-windows_fit w ↦ and_unmet _ six w.if-windows_fit.false w.value-is
    ] in
    sound_logged g t _ head c.if-not-records_fit.false seven c.if-names_fit.true c.log_holds.ensures

pub returns-else-names_fit : goal.returns-else-names_fit
returns-else-names_fit c =
    let g = c.args.g in
    let t = c.args.t.now in
    let first : c.if-numbers_fit.value ≡ (numbers? g t && range? g (state_of g t)) = elim c.if-numbers_fit.branch [
      | then-numbers_fit w ↦ and_met c.numbers_fit.ensures w.if-numbers_fit.true (w.value-is ∙ w.ranges_fit.ensures)
      | else-numbers_fit w ↦ and_unmet _ c.numbers_fit.ensures w.if-numbers_fit.false w.value-is
    ] in
    let head : c.if-ranges_fit.value ≡ ((numbers? g t && range? g (state_of g t)) && pairs g t) = elim c.if-ranges_fit.branch [
      | then-ranges_fit w ↦ and_met first w.if-ranges_fit.true (w.value-is ∙ w.records_fit.ensures)
      | else-ranges_fit w ↦ and_unmet _ first w.if-ranges_fit.false w.value-is
    ] in
    let pages : c.pages_fit.result ≡ (paged g t && single g t (λ b. 0)) = c.pages_fit.ensures.passes ∙ paged_is g t (replicate 2048 0) (seen_none 2048) in
    let three : c.if-pages_fit.value ≡ ((paged g t && single g t (λ b. 0)) && born g t) = elim c.if-pages_fit.branch [
      | then-pages_fit w ↦ and_met pages w.if-pages_fit.true
          (w.value-is ∙ w.births_agree.ensures ∙ born_is g t (replicate 2048 0) (seen_none 2048) _ (c.pages_fit.ensures.marked w.if-pages_fit.true))
      | else-pages_fit w ↦ and_unmet _ pages w.if-pages_fit.false w.value-is
    ] in
    let four : c.if-births_agree.value ≡ (((paged g t && single g t (λ b. 0)) && born g t) && queues g t) = elim c.if-births_agree.branch [
      | then-births_agree w ↦ and_met three w.if-births_agree.true (w.value-is ∙ w.queue_fits.ensures.is)
      | else-births_agree w ↦ and_unmet _ three w.if-births_agree.false w.value-is
    ] in
    let five : c.if-queue_fits.value ≡ ((((paged g t && single g t (λ b. 0)) && born g t) && queues g t) && words g t) = elim c.if-queue_fits.branch [
      | then-queue_fits w ↦ and_met four w.if-queue_fits.true (w.value-is ∙ w.words_fit.ensures)
      | else-queue_fits w ↦ and_unmet _ four w.if-queue_fits.false w.value-is
    ] in
    let six : c.if-words_fit.value ≡ (((((paged g t && single g t (λ b. 0)) && born g t) && queues g t) && words g t) && windows g t) =
    elim c.if-words_fit.branch [
      | then-words_fit w ↦ and_met five w.if-words_fit.true (w.value-is ∙ w.windows_fit.ensures)
      | else-words_fit w ↦ and_unmet _ five w.if-words_fit.false w.value-is
    ] in
    let seven : c.if-windows_fit.value ≡ rest g t = elim c.if-windows_fit.branch [
      | then-windows_fit w ↦ and_met six w.if-windows_fit.true (w.value-is ∙ w.names_fit.ensures)
      | else-windows_fit w ↦ and_unmet _ six w.if-windows_fit.false w.value-is
    ] in
    sound_unrested g t c.args.log.now head c.if-not-records_fit.false seven c.if-names_fit.false
