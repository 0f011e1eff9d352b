-- `admitted`: each return is one law of `Admitted`, from the tests that led there.
use Rattle.std.proofs.Common.{◌≡◌, Err, arith}
use Rattle.geometry.specs.declared.Geometry.{Geometry}
use Rattle.geometry.specs.Limits.{asked}
use Rattle.alloc_log.proofs.Tools.{made_of}
use Rattle.model.specs.Memory.{lent}
use Rattle.store.proofs.Admitted.{admits_outside, admits_short, admits_unsound, admits_sound, sound_requires}
use Rattle.store.proofs.admit.admitted.Goals as goal

pub returns-in_err-g : goal.returns-in_err-g
returns-in_err-g c =
    let a = c.args in
    let gone : c.from_residual.result ≡ Err c.in_err-g.field-0.0 = grind arith in
    rw gone (admits_outside (asked a.numbers) (lent a.tables.now a.log.now a.out.now) c.in_err-g.ensures.is)

pub is_short-requires : goal.is_short-requires
is_short-requires c =
    let a = c.args in
    (made_of (asked a.numbers) c.in_ok-g.g c.in_ok-g.ensures.is).inside

pub returns-then-is_short : goal.returns-then-is_short
returns-then-is_short c =
    let a = c.args in
    let m = made_of (asked a.numbers) c.in_ok-g.g c.in_ok-g.ensures.is in
    admits_short (lent a.tables.now a.log.now a.out.now) m c.is_short.ensures c.if-is_short.true

pub is_sound-requires : goal.is_sound-requires
is_sound-requires c =
    let a = c.args in
    let m = made_of (asked a.numbers) c.in_ok-g.g c.in_ok-g.ensures.is in
    sound_requires (lent a.tables.now a.log.now a.out.now) m c.is_short.ensures c.if-is_short.false

pub returns-then-not-is_sound : goal.returns-then-not-is_sound
returns-then-not-is_sound c =
    let a = c.args in
    let m = made_of (asked a.numbers) c.in_ok-g.g c.in_ok-g.ensures.is in
    admits_unsound (lent a.tables.now a.log.now a.out.now) m c.is_short.ensures c.if-is_short.false c.is_sound.ensures c.if-not-is_sound.true-raw

pub returns : goal.returns
returns c =
    let a = c.args in
    let m = made_of (asked a.numbers) c.in_ok-g.g c.in_ok-g.ensures.is in
    admits_sound (lent a.tables.now a.log.now a.out.now) m c.is_short.ensures c.if-is_short.false c.is_sound.ensures c.if-not-is_sound.false-raw
